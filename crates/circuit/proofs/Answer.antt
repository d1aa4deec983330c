-- The promise of the check: reached from the counts, and met by one answer only.
-- Assumes nothing.
use mathlib.Core.Path.{◌≡◌, ap, ◌∙◌}
use mathlib.Core.Logic.{⊎_elim}
use mathlib.Core.Bool.{true, false}
use mathlib.Core.List.{List}
use Prim.Native.Nat.{ℕ, ◌+◌, ◌*◌, ◌≤◌, ◌<◌}
use native.Mathlib.Omega.{arith}
use lib.ListN.{length}
use Rattle.ground.specs.Below.{all_below}
use Rattle.ground.proofs.First.{first_cases}
use Rattle.answers.specs.Rules.{said, refusal}
use Rattle.answers.specs.Records.{records_ok}
use Rattle.answers.proofs.Rules.{after_refused, after_fine}
use Rattle.answers.proofs.Answer.{numbers-told}
use Rattle.circuit.specs.declared.Counts.{Counts}
use Rattle.circuit.specs.declared.LineCounts.{LineCounts}
use Rattle.circuit.specs.Record.{lines_of, inputs_of, outputs_of}
use Rattle.circuit.specs.Layout.{line_ok}
use Rattle.circuit.specs.BadByte.{bad_line, bad_byte}
use Rattle.circuit.specs.Owed.{CountLinesDone}
use Rattle.circuit.specs.Promise.{layout_rules, count_rules, circuit_rules, counted_of, check_of, checked_numbers, Checks, counts_are}
use Rattle.circuit.proofs.All.{all-holds, all-fails}
use Rattle.std.specs.Prelude.{Ok, Err, Result}
use Rattle.answers.specs.declared.Refusal.{Refusal}
use Rattle.answers.specs.declared.Reason.{Reason}
use Rattle.answers.specs.declared.Reason.TheVariants.{CircuitSize, CircuitLayout}

pub checks : (c : List ℕ) {r : Result Counts Refusal} → r ≡ check_of c → Checks c r
unfolding check_of checked_numbers
checks c e = record {
  answer = e;
  numbers = ap checked_numbers e ∙ numbers-told _ (refusal (circuit_rules c)) (counts_are (lines_of c) (inputs_of c) (outputs_of c));
}

module _ (c : List ℕ) where
  pub layout_refused : (x : Reason) (y : ℕ) → refusal (layout_rules c) ≡ Err (x, y) → check_of c ≡ Err (x, y)
  unfolding check_of
  layout_refused x y e = rw (after_refused (layout_rules c) (count_rules (inputs_of c) (outputs_of c)) e)

  pub size_refused : records_ok 8 2048 (length c) ≡ false → check_of c ≡ Err (CircuitSize, 0)
  unfolding layout_rules refusal said
  size_refused e = layout_refused CircuitSize 0 (rw e)

  module _ {counts : LineCounts} (whole : records_ok 8 2048 (length c) ≡ true) (p : CountLinesDone c (lines_of c) counts) where
    -- a line breaks its layout, the first one after those that were counted
    pub line_refused : counts.lines < lines_of c → check_of c ≡ Err (CircuitLayout, 8 * counts.lines + counts.byte)
    unfolding layout_rules refusal said
    line_refused l =
        let broken : all_below (lines_of c) (line_ok c) ≡ false =
        ⊎_elim (λ q. all-fails (lines_of c) (line_ok c) (bad_line c) q.inside q.bad) (λ a. absurd (omega (arith, p.lines, a.0))) (first_cases (lines_of c) (line_ok c)) in
        let place : 8 * counts.lines + counts.byte ≡ bad_byte c = rw (p.byte l, p.lines) in
        layout_refused CircuitLayout _ (rw (whole, broken, place))

    -- the counts decide
    pub layout_fine : {r : Result Counts Refusal} → lines_of c ≤ counts.lines → r ≡ counted_of (lines_of c) counts.inputs counts.outputs → r ≡ check_of c
    unfolding check_of layout_rules refusal said
    layout_fine l h =
        let all : counts.lines ≡ lines_of c = omega (arith, p.at_most) in
        let kept : all_below (lines_of c) (line_ok c) ≡ true =
        ⊎_elim (λ q. absurd (omega (arith, p.lines, q.inside))) (λ a. all-holds (lines_of c) (line_ok c) a.1) (first_cases (lines_of c) (line_ok c)) in
        let fine : refusal (layout_rules c) ≡ Ok tt = rw (whole, kept) in
        h ∙ rw (p.inputs, p.outputs, all, after_fine (layout_rules c) (count_rules (inputs_of c) (outputs_of c)) fine)

-- two allowed answers are equal
pub one_answer : (c : List ℕ) {r s : Result Counts Refusal} → Checks c r → Checks c s → r ≡ s
one_answer c p q = cc
