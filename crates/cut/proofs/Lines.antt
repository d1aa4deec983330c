-- The lines of the cut circuit.
-- Assumes nothing.
use mathlib.Core.Path.{◌≡◌, refl, sym, ◌∙◌}
use mathlib.Core.Bool.{Bool, true, false, or-true}
use mathlib.Core.List.{List}
use Prim.Native.Nat.{ℕ, zero, suc, ◌+◌, ◌*◌, ◌≤◌, ◌<◌}
use native.Mathlib.Decide.{ℕ_discrete}
use native.Mathlib.Nat.{not-suc-le-zero}
use native.Mathlib.Omega.{arith}
use lib.ListN.{length, get_or, set, length-set}
use lib.Seq.{get_or-set_same, get_or-set_other}
use borrow.Author.Tests.{ne_eqb, eq-eqb}
use Rattle.ground.proofs.Counting.{count_same}
use Rattle.little.specs.Little.{pair_at}
use Rattle.circuit.specs.Record.{kind_at, out_at, pin_at, is_input, inputs_before}
use Rattle.circuit.specs.Formed.{WellFormed}
use Rattle.heads.specs.Heads.{bound, head, heads_before}
use Rattle.heads.proofs.Forest.{head-free, bound-gate}
use Rattle.cut.specs.Cut.{cut_kind, cut_out, cut_to, cut}
use Rattle.cut.specs.Words.{Cut}

module _ (c : List ℕ) (n : ℕ) where
  to_length : (m : ℕ) → length (cut_to c n m) ≡ length c
  unfolding cut_to
  to_length zero = refl
  to_length (suc m) = simp length-set (to_length m)

  to_kind : (m k : ℕ) → k < m → 8 * m ≤ length c → get_or (cut_to c n m) (8 * k) 0 ≡ cut_kind c n k
  unfolding cut_to
  to_kind zero k l room = absurd (not-suc-le-zero l)
  to_kind (suc m) k l room =
      get_or-set_other (set (cut_to c n m) (8 * m) (cut_kind c n m)) (8 * m + 1) (8 * k) _ 0 (λ e. omega arith) ∙ go (ℕ_discrete k m) (λ h. to_kind m k h (omega arith))
    where
      go : Dec (k ≡ m) → (k < m → get_or (cut_to c n m) (8 * k) 0 ≡ cut_kind c n k) → get_or (set (cut_to c n m) (8 * m) (cut_kind c n m)) (8 * k) 0 ≡ cut_kind c n k
      go (yes e) ih = rw e (get_or-set_same (cut_to c n m) (8 * m) _ 0 (omega (arith, to_length m)))
      go (no d) ih = get_or-set_other (cut_to c n m) (8 * m) (8 * k) _ 0 (λ e. omega arith) ∙ ih (omega arith)

  to_out : (m k : ℕ) → k < m → 8 * m ≤ length c → get_or (cut_to c n m) (8 * k + 1) 0 ≡ cut_out c n k
  unfolding cut_to
  to_out zero k l room = absurd (not-suc-le-zero l)
  to_out (suc m) k l room = go (ℕ_discrete k m) (λ h. to_out m k h (omega arith))
    where
      go : Dec (k ≡ m)
          → (k < m → get_or (cut_to c n m) (8 * k + 1) 0 ≡ cut_out c n k)
          → get_or (set (set (cut_to c n m) (8 * m) (cut_kind c n m)) (8 * m + 1) (cut_out c n m)) (8 * k + 1) 0 ≡ cut_out c n k
      go (yes e) ih = rw e (get_or-set_same (set (cut_to c n m) (8 * m) (cut_kind c n m)) (8 * m + 1) _ 0 (simp length-set (omega (arith, to_length m))))
      go (no d) ih =
          get_or-set_other (set (cut_to c n m) (8 * m) (cut_kind c n m)) (8 * m + 1) (8 * k + 1) _ 0 (λ e. omega arith)
          ∙ get_or-set_other (cut_to c n m) (8 * m) (8 * k + 1) _ 0 (λ e. omega arith)
          ∙ ih (omega arith)

  to_rest : (m k q : ℕ) → 2 ≤ q → q ≤ 7 → get_or (cut_to c n m) (8 * k + q) 0 ≡ get_or c (8 * k + q) 0
  unfolding cut_to
  to_rest zero k q a b = refl
  to_rest (suc m) k q a b =
      get_or-set_other (set (cut_to c n m) (8 * m) (cut_kind c n m)) (8 * m + 1) (8 * k + q) _ 0 (λ e. omega arith)
      ∙ get_or-set_other (cut_to c n m) (8 * m) (8 * k + q) _ 0 (λ e. omega arith)
      ∙ to_rest m k q a b

  to_pin : (m k s : ℕ) → 1 ≤ s → s ≤ 3 → pin_at (cut_to c n m) k s ≡ pin_at c k s
  unfolding pair_at
  to_pin m k s a b =
      let p : 8 * k + 2 * s + 1 ≡ 8 * k + (2 * s + 1) = omega arith in
      rw (p, to_rest m k (2 * s) (omega arith) (omega arith), to_rest m k (2 * s + 1) (omega arith) (omega arith))

  module _ (room : length c ≡ 8 * n) where
    kind_is : (k : ℕ) → k < n → kind_at (cut c n) k ≡ cut_kind c n k
    unfolding cut
    kind_is k l = to_kind n k l (omega arith)

    out_is : (k : ℕ) → k < n → out_at (cut c n) k ≡ cut_out c n k
    unfolding cut
    out_is k l = to_out n k l (omega arith)

module _ {c : List ℕ} {m n : ℕ} (well : WellFormed c m n) where
  pub is_cut : Cut c (cut c n) n
  unfolding cut cut_kind cut_out
  is_cut = record {
    size = to_length c n n;
    pins = λ k s l a b. to_pin c n n k s a b;
    bound_kind = λ k l e. kind_is c n well.size k l ∙ rw e;
    bound_out = λ k l e. out_is c n well.size k l ∙ rw e;
    head_kind = λ k l e. kind_is c n well.size k l ∙ rw (head-free well k e, e);
    head_out = λ k l e. out_is c n well.size k l ∙ rw (e, or-true);
    rest_kind = λ k l e f. let z : kind_at (cut c n) k ≡ 255 = kind_is c n well.size k l ∙ rw (e, f) in omega arith;
    rest_out = λ k l e f. out_is c n well.size k l ∙ rw (e, f);
  }

  -- a bound line stays a gate
  pub cut-gate : (k : ℕ) → k < n → bound c n k ≡ true → is_input (cut c n) k ≡ false
  cut-gate k l e = ne_eqb (kind_at (cut c n) k) 0 (λ z. bound-gate well k l e (sym (is_cut.bound_kind k l e) ∙ z))

  -- its inputs are the head lines
  pub cut-input : (k : ℕ) → k < n → is_input (cut c n) k ≡ head c n k
  cut-input k l = go (bound c n k) refl (head c n k) refl
    where
      go : (b : Bool) → bound c n k ≡ b → (h : Bool) → head c n k ≡ h → is_input (cut c n) k ≡ h
      go b e true f = eq-eqb _ 0 (is_cut.head_kind k l f)
      go true e false f = cut-gate k l e
      go false e false f = ne_eqb (kind_at (cut c n) k) 0 (λ z. omega (arith, is_cut.rest_kind k l e f))

  pub cut-inputs : (k : ℕ) → k ≤ n → inputs_before (cut c n) k ≡ heads_before c n k
  cut-inputs k h = count_same k _ _ (λ j l. cut-input j (omega arith))
