-- The loop that collects the values of the inputs, and the whole setting.
-- Assumes nothing.
use mathlib.Core.Path.{◌≡◌, refl, sym, ap, ◌∙◌}
use mathlib.Core.Bool.{Bool, true, false}
use mathlib.Core.List.{List}
use Prim.Native.Nat.{ℕ, suc, ◌+◌, ◌≤◌, ◌<◌}
use native.Mathlib.Numerals.{add-one}
use native.Mathlib.Omega.{arith}
use lib.ListN.{length, get_or, set}
use lib.Seq.{take_all}
use borrow.Author.Tests.{eq-eqb}
use Rattle.ground.specs.Choose.{choose, one}
use Rattle.ground.specs.Lists.{collect, table}
use Rattle.ground.proofs.Counting.{count_suc, count_most, count_below_lem}
use Rattle.ground.proofs.Collect.{collect-no}
use Rattle.ground.proofs.Lists.{Collected, collected_none, collected_more}
use Rattle.circuit.specs.Record.{is_input, inputs_before}
use Rattle.trees.specs.Setting.{set_below, head_value, set_lines, set_trees}
use Rattle.setting.specs.Owed.{InputReady, input_put, InputsReady}

-- the inputs below line k are collected, `used` of them
pub record Inputs (c w t₀ t : List ℕ) (k used : ℕ) : Type 0 where
  pub at_most : k ≤ length w
  pub long : length t ≡ length t₀
  pub are : Collected (is_input c) (λ k. get_or w k 0) t used k

pub no-input : (c w t : List ℕ) → Inputs c w t t 0 0
no-input c w t = record { at_most = omega arith; long = refl; are = collected_none _ _ t }

module _ {c w t₀ t : List ℕ} {k used : ℕ} (ready : InputsReady c (length w) (length t₀)) (so : Inputs c w t₀ t k used) where
  pub used_small : used ≤ length w
  used_small = omega (arith, so.at_most, so.are.count, count_most k (is_input c))

  -- an input has its place
  has_place : k < length w → is_input c k ≡ true → used < length t
  has_place l e = omega (arith, so.are.count, so.long, ready.inputs_are, count_below_lem (is_input c) k (length w) l e)

  pub input-ready : k < length w → InputReady c (length w) k used (length t)
  input-ready l = record { size = ready.size; line = l; input = λ e. has_place l (eq-eqb _ 0 e) }

  more_are : {x : ℕ} → k < length w → x ≡ one (is_input c k) → Collected (is_input c) (λ k. get_or w k 0) (input_put c w k used t) (used + x) (suc k)
  unfolding input_put
  more_are {x} l q = go (is_input c k) refl
    where
      go : (b : Bool) → is_input c k ≡ b → Collected (is_input c) (λ k. get_or w k 0) (choose b (set t used (get_or w k 0)) t) (used + x) (suc k)
      go true e = rw q (collected_more so.are (has_place l e) (get_or w k 0) (λ _. refl))
      go false e =
          let z : used + x ≡ used = omega (arith, q ∙ ap one e) in
          record {
            count = z ∙ so.are.count ∙ sym (count_suc k (is_input c) ∙ rw e (omega arith));
            are = rw z so.are.are ∙ sym (collect-no (is_input c) (λ k. get_or w k 0) k e);
          }

  pub next-input : {t' : List ℕ} {x : ℕ} → k < length w → length t' ≡ length t → t' ≡ input_put c w k used t → x ≡ one (is_input c k) → Inputs c w t₀ t' (k + 1) (used + x)
  next-input {t'} {x} l long e q = record {
    at_most = omega arith;
    long = long ∙ so.long;
    are = rw (e, add-one k) (more_are l q);
  }

  pub all-inputs : length w ≤ k → t ≡ collect (is_input c) (λ k. get_or w k 0) (length w)
  all-inputs l =
      let e : k ≡ length w = omega (arith, so.at_most) in
      sym (take_all used t (omega (arith, so.long, ready.inputs_are, so.are.count ∙ ap (inputs_before c) e)))
      ∙ so.are.are
      ∙ ap (collect (is_input c) (λ k. get_or w k 0)) e

-- ---- head lines, then all lines, then the inputs

pub trees_made : (c node : List ℕ) (n : ℕ) (w₁ w₂ : List ℕ) {t : List ℕ}
    → length w₁ ≡ n
    → length w₂ ≡ n
    → w₁ ≡ table (head_value c n node) n
    → w₂ ≡ set_below c (length w₁) (length w₁) w₁
    → t ≡ collect (is_input c) (λ k. get_or w₂ k 0) (length w₂)
    → t ≡ set_trees c n node
unfolding set_trees set_lines
trees_made c node n w₁ w₂ l₁ l₂ e₁ e₂ e₃ =
    let q : w₂ ≡ set_below c n n (table (head_value c n node) n) =
    e₂ ∙ ap (λ (m : ℕ). set_below c m m w₁) l₁ ∙ ap (set_below c n n) e₁ in
    e₃ ∙ ap (collect (is_input c) (λ k. get_or w₂ k 0)) l₂ ∙ ap (λ (w : List ℕ). collect (is_input c) (λ k. get_or w k 0) n) q
