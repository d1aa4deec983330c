-- The last pattern and the last fault, of lists for which a table would be ready: where they stand, and the values that they leave.
-- Assumes nothing.
use mathlib.Core.Path.{◌≡◌, ap, ◌∙◌}
use mathlib.Core.List.{List, ◌++◌}
use Prim.Native.Nat.{ℕ, suc, ◌+◌, ◌*◌, ◌-◌, ◌≤◌, ◌<◌}
use native.Mathlib.Nat.{mul_comm, suc-mul}
use native.Mathlib.Omega.{arith}
use lib.ListN.{length, take, drop}
use Rattle.circuit.specs.Record.{Inside}
use Rattle.lists.specs.declared.Fault.{Fault}
use Rattle.lists.specs.Faults.{fault_count}
use Rattle.lists.specs.Patterns.{pattern_count}
use Rattle.lists.proofs.Patterns.{pattern_whole}
use Rattle.simulate.specs.Simulate.{stuck_in_steps}
use Rattle.simulate.specs.Work.{good_of}
use Rattle.simulate.specs.Owed.{AllSmall, GoodValuesReady, FaultyValuesReady, StepsReady, ForcedValuesDone}
use Rattle.simulate.proofs.Settled.{ordered, shaped}
use Rattle.simulate.proofs.Small.{part_small}
use Rattle.simulate.proofs.Work.{good_front}
use Rattle.rows.specs.Table.{last_fault, last_pattern, work_under}
use Rattle.unfold_dictionary.specs.Owed.{LeaveReady}

-- what is lent of the patterns
abbrev pub behind : ℕ → List ℕ → List ℕ
behind m ps = take (length ps - (length ps - m)) (drop (length ps - m) ps)

module _ {c : List ℕ} {n step m : ℕ} {fs ps : List ℕ} {work : ℕ} (r : LeaveReady c n step m fs ps work) where
  some_faults : 1 ≤ fault_count fs
  some_faults = r.ready.faults.some

  some_patterns : 1 ≤ pattern_count m ps
  some_patterns = r.ready.patterns.some

  before : length ps ≡ (pattern_count m ps - 1) * m + m
  before =
      let next : suc (pattern_count m ps - 1) ≡ pattern_count m ps = omega (arith, some_patterns) in
      r.ready.patterns.multiple ∙ mul_comm m (pattern_count m ps) ∙ ap (λ (x : ℕ). x * m) (omega arith) ∙ suc-mul (pattern_count m ps - 1) m

  pub pattern_room : m ≤ length ps
  pattern_room = omega (arith, before)

  pub last_inside : Inside fs (fault_count fs - 1)
  last_inside = record { inside = omega (arith, r.ready.faults.multiple, some_faults) }

  pub behind-is : behind m ps ≡ last_pattern m ps
  behind-is =
      let from : length ps - m ≡ (pattern_count m ps - 1) * m = omega (arith, before) in
      let width : length ps - (length ps - m) ≡ m = omega (arith, before) in
      rw (width, from)

  small : AllSmall (behind m ps)
  small = part_small ps (length ps - (length ps - m)) (length ps - m) r.ready.pattern_values

  long : length (behind m ps) ≡ m
  long = ap length behind-is ∙ pattern_whole ps r.ready.patterns (omega (arith, some_patterns))

  pub good-ready : GoodValuesReady c (behind m ps) n work
  good-ready = record { shaped = rw long (shaped r.ready.well); small = small; two = omega (arith, r.ready.room) }

  pub faulty-ready : {fault : Fault} → fault ≡ last_fault fs → FaultyValuesReady c fault n work × StepsReady fault step n
  faulty-ready e =
      let at : fault_count fs - 1 < fault_count fs = omega (arith, some_faults) in
      rw e (
        record {
          ordered = ordered r.ready.well;
          two = omega (arith, r.ready.room);
          line = r.ready.fault_lines (fault_count fs - 1) at;
          value = r.ready.fault_values (fault_count fs - 1) at;
        },
        record { line = r.steps.lines (fault_count fs - 1) at; inside = r.steps.inside; most = r.ready.most_lines },
      )

  pub left_last : {fault : Fault} (w : List ℕ) {w₁ w₂ : List ℕ} → fault ≡ last_fault fs
      → w₁ ≡ good_of c (behind m ps) n ++ drop n w
      → ForcedValuesDone (stuck_in_steps step fault) c n w₁ w₂
      → w₂ ≡ work_under (stuck_in_steps step) c n m fs ps
  unfolding work_under
  left_last w is good faulty =
      faulty (behind m ps) small (rw good (good_front c (behind m ps) n (drop n w))) ∙ rw (is, behind-is)
