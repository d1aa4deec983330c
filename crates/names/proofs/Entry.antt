-- The table of the definitions: empty, and with one definition more.
-- Assumes nothing.
use mathlib.Core.Path.{◌≡◌, sym, ap, ◌∙◌}
use mathlib.Core.List.{List}
use Prim.Native.Nat.{ℕ, ◌+◌, ◌<◌}
use native.Mathlib.Nat.{not-suc-le-zero}
use native.Mathlib.Decide.{ℕ_discrete}
use native.Mathlib.Numerals.{add-one}
use native.Mathlib.Omega.{arith}
use lib.ListN.{length, get_or, set, length-set, length-replicate, get_or-replicate}
use lib.Seq.{get_or-set_same, get_or-set_other}
use borrow.Author.Tests.{eq-eqb, ne_eqb}
use Rattle.names.specs.Names.{last_with}
use Rattle.names.specs.Owed.{hashed, Table, EnterReady}
use Rattle.names.proofs.Mixed.{hash_of}

pub empty : {t defs head next : List ℕ} → EnterReady t defs head next → Table t defs head next 0
unfolding last_with
empty e = record {
  few = e.few;
  known = omega arith;
  heads = ap length e.none ∙ length-replicate {A = ℕ} 8192 0;
  nexts = e.room;
  first = λ h l. ap (λ (x : List ℕ). get_or x h 0) e.none ∙ get_or-replicate {A = ℕ} 8192 h 0 0 l;
  rest = λ d l. absurd (not-suc-le-zero l);
}

module _ {t defs head next : List ℕ} {n : ℕ} (T : Table t defs head next n) (l : n < length defs) (h : ℕ) (e : h ≡ hash_of t defs n) (b : h < 8192) where
  first_then : (x : ℕ) → x < 8192 → Dec (x ≡ h) → get_or (set head h (n + 1)) x 0 ≡ last_with (hashed t defs x) (n + 1)
  unfolding last_with
  first_then x k (yes q) = rw (q, get_or-set_same head h (n + 1) 0 (omega (arith, T.heads)), add-one n, eq-eqb (hash_of t defs n) h (sym e))
  first_then x k (no q) = rw (get_or-set_other head h x (n + 1) 0 q, add-one n, ne_eqb (hash_of t defs n) x (λ i. q (sym (e ∙ i)))) (T.first x k)

  rest_then : (d : ℕ) → d < n + 1 → Dec (d ≡ n) → get_or (set next n (get_or head h 0)) d 0 ≡ last_with (hashed t defs (hash_of t defs d)) d
  rest_then d k (yes q) = rw (q, get_or-set_same next n (get_or head h 0) 0 (omega (arith, T.nexts)), ← e) (T.first h b)
  rest_then d k (no q) = rw (get_or-set_other next n d (get_or head h 0) 0 q) (T.rest d (omega arith))

  pub entered : Table t defs (set head h (n + 1)) (set next n (get_or head h 0)) (n + 1)
  entered = record {
    few = T.few;
    known = omega arith;
    heads = length-set head h (n + 1) ∙ T.heads;
    nexts = length-set next n (get_or head h 0) ∙ T.nexts;
    first = λ x k. first_then x k (ℕ_discrete x h);
    rest = λ d k. rest_then d k (ℕ_discrete d n);
  }
