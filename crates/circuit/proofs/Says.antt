-- The refusals of the check in the paper's words.
-- Assumes nothing.
use mathlib.Core.Path.{◌≡◌, refl}
use mathlib.Core.Logic.{inl, inr}
use mathlib.Core.Bool.{Bool, true, false, false≢true}
use mathlib.Core.List.{List}
use Prim.Native.Nat.{ℕ}
use native.Mathlib.Omega.{arith}
use lib.ListN.{length}
use Rattle.answers.specs.Rules.{Applies, Same, AllSay}
use Rattle.answers.specs.Records.{records_ok, Records}
use Rattle.answers.proofs.Rules.{both_say}
use Rattle.answers.proofs.Answer as answer
use Rattle.answers.proofs.Same.{le_same}
use Rattle.answers.proofs.Records.{records_same}
use Rattle.circuit.specs.declared.Counts.{Counts}
use Rattle.circuit.specs.Record.{lines_of, inputs_of, outputs_of}
use Rattle.circuit.specs.Layout.{line_ok}
use Rattle.circuit.specs.BadByte.{bad_field, bad_line, BadFieldAt}
use Rattle.circuit.specs.Promise.{layout_rules, count_rules, circuit_rules, check_of, Checks}
use Rattle.circuit.proofs.All.{all_same}
use Rattle.circuit.proofs.Lines.{layout_same}
use Rattle.circuit.proofs.BadByte.{bad_at, at_bad}
use Rattle.std.specs.Prelude.{Err, Result}
use Rattle.answers.specs.declared.Refusal.{Refusal}
use Rattle.answers.specs.declared.Reason.{Reason}
use Rattle.answers.specs.declared.Reason.TheVariants.{CircuitLayout}

pub layout_says : (c : List ℕ) → AllSay (layout_rules c)
unfolding layout_rules AllSay
layout_says c = (records_same 8 2048 (length c) (omega arith), (all_same (lines_of c) (line_ok c) (λ k _. layout_same c k), tt))

pub counts_say : (m o : ℕ) → AllSay (count_rules m o)
unfolding count_rules AllSay
counts_say m o = (le_same m 64, (le_same 1 o, tt))

pub circuit_says : (c : List ℕ) → AllSay (circuit_rules c)
circuit_says c = both_say (layout_rules c) _ (layout_says c) (counts_say (inputs_of c) (outputs_of c))

module _ (c : List ℕ) {r : Result Counts Refusal} (p : Checks c r) (reason : Reason) (place : ℕ) where
  -- a refusal is the first that applies, with the lowest place
  pub refused_applies : r ≡ Err (reason, place) → Applies (circuit_rules c) reason place
  unfolding check_of
  refused_applies = answer.refused_applies _ (circuit_rules c) (circuit_says c) p.answer reason place

  -- and where one applies, it is given
  pub applies_refused : Applies (circuit_rules c) reason place → r ≡ Err (reason, place)
  unfolding check_of
  applies_refused = answer.applies_refused _ (circuit_rules c) (circuit_says c) p.answer reason place

-- what is asked holds where it can't fail, since a test says which
asked : (t : Bool) {A : Type 0} → Same t A → ((A → ⊥) → ⊥) → A
asked true s h = s.holds refl
asked false s h = absurd (h (λ a. false≢true (s.tests a)))

-- refusal 2 in words: the number of records is right, and byte b is that of a field f of a line k
abbrev Told : List ℕ → ℕ → Type 0
Told c b = Records 8 2048 (length c) × ((k : ℕ) × (f : ℕ) × BadFieldAt c k f b)

module _ (c : List ℕ) {r : Result Counts Refusal} (p : Checks c r) {b : ℕ} where
  pub refused_at_lem : r ≡ Err (CircuitLayout, b) → Told c b
  unfolding layout_rules count_rules Applies
  refused_at_lem e = go (refused_applies c p CircuitLayout b e)
    where
      go : Applies (circuit_rules c) CircuitLayout b → Told c b
      go (inl (m, x, y)) = cc
      go (inr (sizes, inl (m, x, y))) = (
        asked (records_ok 8 2048 (length c)) (records_same 8 2048 (length c) (omega arith)) (λ n. sizes 0 (refl, n)),
        (bad_line c, bad_field c (bad_line c), rw x.0 (bad_at c x.1)),
      )
      go (inr (_, inr (_, inl (m, x, y)))) = cc
      go (inr (_, inr (_, inr (_, inl (m, x, y))))) = cc
      go (inr (_, inr (_, inr (_, inr (_, x))))) = absurd x

  pub at_refused : Told c b → r ≡ Err (CircuitLayout, b)
  unfolding layout_rules Applies
  at_refused (sizes, (k, f, at)) =
      applies_refused c p CircuitLayout b
      (inr ((λ j x. x.1 sizes), inl (refl, (at_bad c at, λ all. at.breaks (all k at.line)), λ j x. omega (arith, x.0, at_bad c at))))
