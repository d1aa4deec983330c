-- What callers may know of the refusals without looking at a rule: that no number is above 5, that too many lines are refused first, and that
-- the sizes decide where every record keeps its layout.
-- Assumes nothing.
use mathlib.Core.Path.{◌≡◌, refl}
use mathlib.Core.Bool.{Bool, true, false, ◌&&◌}
use mathlib.Core.List.{List}
use Prim.Native.Nat.{ℕ, ◌*◌, ◌≤◌, ◌<◌}
use native.Mathlib.Nat.{mul-div_right, mul-mod_right}
use native.Mathlib.Omega.{arith}
use lib.Dec.{leb}
use lib.ListN.{length}
use borrow.Author.Tests.{leb-true}
use Rattle.ground.specs.Choose.{choose}
use Rattle.ground.specs.Below.{all_below}
use Rattle.ground.proofs.Tests.{both}
use Rattle.answers.specs.Rules.{Ruling}
use Rattle.answers.specs.Rules.{or_else, said, refusal, AllSay, AllHold}
use Rattle.answers.specs.Records.{records_ok}
use Rattle.answers.proofs.Rules.{after_refused, fine, all_hold}
use Rattle.answers.proofs.Numbers.{refused_number}
use Rattle.answers.proofs.Same.{le_same, and_same}
use Rattle.answers.proofs.Records.{too_many_records}
use Rattle.circuit.specs.Record.{lines_of, inputs_of, outputs_of}
use Rattle.circuit.specs.Layout.{line_ok, Layout}
use Rattle.circuit.specs.BadByte.{bad_byte}
use Rattle.circuit.specs.Promise.{layout_rules, count_rules, circuit_rules}
use Rattle.circuit.specs.Sizes.{size_rules, SizesHold}
use Rattle.circuit.proofs.All.{all_same}
use Rattle.circuit.proofs.Lines.{layout_same}
use Rattle.circuit.proofs.Says.{counts_say}
use Rattle.std.specs.Prelude.{Ok, Err}
use Rattle.answers.specs.declared.Reason.{Reason}
use Rattle.answers.specs.declared.Reason.TheVariants.{CircuitSize, CircuitLayout}
use Rattle.answers.specs.Area.{number_of}

-- no number is above 5
pub refused_small : (c : List ℕ) {m : Reason} {k : ℕ} → refusal (circuit_rules c) ≡ Err (m, k) → number_of m ≤ 5
unfolding layout_rules count_rules
refused_small c = refused_number (λ m. number_of m ≤ 5) (circuit_rules c) (omega arith, (omega arith, (omega arith, (omega arith, tt))))

-- more than 2,048 lines are refused before all else
pub too_many : (c : List ℕ) → 2048 < lines_of c → refusal (circuit_rules c) ≡ Err (CircuitSize, 0)
unfolding layout_rules refusal said
too_many c l = after_refused (layout_rules c) (count_rules (inputs_of c) (outputs_of c)) (rw (too_many_records 8 2048 (length c) l))

sizes_say : (lines inputs outputs : ℕ) → AllSay (size_rules lines inputs outputs)
unfolding AllSay size_rules
sizes_say lines inputs outputs = (and_same (le_same _ _) (le_same _ _), counts_say inputs outputs)

-- nothing is refused exactly where the sizes hold
pub sizes_fine : {lines inputs outputs : ℕ} → SizesHold lines inputs outputs → refusal (size_rules lines inputs outputs) ≡ Ok tt
unfolding AllHold size_rules count_rules
sizes_fine {lines} {inputs} {outputs} s =
    fine (size_rules lines inputs outputs) (sizes_say lines inputs outputs) ((s.some_lines, s.most_lines), (s.most_inputs, (s.some_outputs, tt)))

pub fine_sizes : (lines inputs outputs : ℕ) → refusal (size_rules lines inputs outputs) ≡ Ok tt → SizesHold lines inputs outputs
unfolding AllHold size_rules count_rules
fine_sizes lines inputs outputs e =
    let a = all_hold (size_rules lines inputs outputs) (sizes_say lines inputs outputs) e in
    record { some_lines = a.0.0; most_lines = a.0.1; most_inputs = a.1.0; some_outputs = a.1.1.0 }

-- a rule that says nothing where the test of the one before it holds
passed : (t : Bool) (m : Reason) {v : Ruling} (x : Ruling) → (t ≡ true → v ≡ Ok tt) → or_else (choose {A = Ruling} t (Ok tt) (Err (m, 0))) (or_else v x) ≡ or_else (choose {A = Ruling} t (Ok tt) (Err (m, 0))) x
passed true m x h = rw (h refl)
passed false m x h = refl

module _ (c : List ℕ) (n : ℕ) (long : length c ≡ 8 * n) (keeps : n ≤ 2048 → (k : ℕ) → k < n → Layout c k) where
  lines : lines_of c ≡ n
  lines = rw long (mul-div_right n (omega arith))

  whole_records : records_ok 8 2048 (length c) ≡ (leb 1 n && leb n 2048)
  unfolding records_ok
  whole_records = rw (long, mul-mod_right 8 n, mul-div_right n {m = 8} (omega arith))

  each_line : n ≤ 2048 → choose {A = Ruling} (all_below (lines_of c) (line_ok c)) (Ok tt) (Err (CircuitLayout, bad_byte c)) ≡ Ok tt
  each_line few =
      let all : all_below (lines_of c) (line_ok c) ≡ true = rw lines ((all_same n (line_ok c) (λ k _. layout_same c k)).tests (keeps few)) in
      rw all

  -- the sizes decide
  pub sizes_decide : refusal (circuit_rules c) ≡ refusal (size_rules n (inputs_of c) (outputs_of c))
  unfolding refusal layout_rules size_rules said
  sizes_decide =
      rw whole_records
      (passed (leb 1 n && leb n 2048) CircuitSize _ (λ e. each_line (leb-true n 2048 (both (leb 1 n) (leb n 2048) e).1)))

-- of the outputs it counts only whether there are any
pub same_sizes : (n m o p : ℕ) → leb 1 o ≡ leb 1 p → refusal (size_rules n m o) ≡ refusal (size_rules n m p)
unfolding refusal size_rules count_rules said
same_sizes n m o p e = rw e
