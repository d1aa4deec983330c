-- A loop that lays n numbers at the front, a function of their place: its invariant, that the first k stand.
-- Assumes nothing.
use mathlib.Core.Path.{◌≡◌, refl, sym, ap, ◌∙◌}
use mathlib.Core.List.{List, [], ◌∷◌, ◌++◌}
use Prim.Native.Nat.{ℕ, zero, suc, ◌+◌, ◌≤◌, ◌<◌}
use native.Mathlib.Nat.{zero-add}
use native.Mathlib.Omega.{arith}
use lib.ListN.{length, set, take, drop, replicate}
use lib.Seq.{length-take-le}
use native.Mathlib.Numerals.{add-one}
use Rattle.std.proofs.lemmas.List.{replicate_more}
use Rattle.ground.specs.Lists.{grow, table}
use Rattle.ground.specs.Put.{laid_on}
use Rattle.ground.proofs.Grow.{table-length, table_at}
use Rattle.ground.proofs.Put.{Partly, partly_none, partly_more, partly_long, partly_all, put_whole}

pub record Laying (g : ℕ → ℕ) (n : ℕ) (w₀ w : List ℕ) (k : ℕ) : Type 0 where
  pub at_most : k ≤ n
  pub long : length w ≡ length w₀
  pub laid : Partly (table g n) w₀ 0 w k

pub laying_none : (g : ℕ → ℕ) (n : ℕ) (w : List ℕ) → Laying g n w w 0
laying_none g n w = record { at_most = omega arith; long = refl; laid = partly_none (table g n) w 0 }

module _ {g : ℕ → ℕ} {n : ℕ} {w₀ w : List ℕ} {k : ℕ} (so : Laying g n w₀ w k) where
  pub laying_more : {x : ℕ} → k < n → x ≡ g k → Laying g n w₀ (set w k x) (k + 1)
  laying_more {x} l e =
      let next = rw (zero-add k) at (partly_more 0 so.laid (rw (table-length g n) l) (e ∙ rw (table_at g n 0 k l))) in
      record { at_most = omega arith; long = partly_long next; laid = next }

  pub laying_all : n ≤ k → n ≤ length w₀ → w ≡ laid_on w₀ (table g n)
  laying_all l room = put_whole (partly_all so.laid (rw (table-length g n) l)) (rw (table-length g n) room)

-- ---- what `fill` leaves of a front part

replicate-table : (n x : ℕ) → replicate n x ≡ table (λ _. x) n
unfolding grow
replicate-table zero x = refl
replicate-table (suc n) x =
    ap (λ (m : ℕ). replicate m x) (sym (add-one n)) ∙ sym (replicate_more n x) ∙ ap (λ (l : List ℕ). l ++ (x ∷ [])) (replicate-table n x)

pub laid_filled : (w : List ℕ) (n x : ℕ) {v : List ℕ} → v ≡ replicate (length (take n w)) x → n ≤ length w → v ++ drop n w ≡ laid_on w (table (λ _. x) n)
laid_filled w n x e room = rw (e, length-take-le n w room, replicate-table n x, table-length (λ _. x) n)
