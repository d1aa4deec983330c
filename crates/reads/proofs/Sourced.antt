-- In an accepted circuit all sources are lines of it, those too that a kind lacks.
-- Assumes nothing.
use mathlib.Core.Path.{◌≡◌}
use mathlib.Core.Logic.{⊎_elim}
use mathlib.Core.List.{List}
use Prim.Native.Nat.{ℕ}
use native.Mathlib.Omega.{arith}
use Rattle.ground.proofs.Tests.{either}
use Rattle.answers.specs.Rules.{Ruling}
use Rattle.answers.specs.Rules.{refusal, AllHold}
use Rattle.answers.proofs.Rules.{all_hold}
use Rattle.gates.specs.Gate.{pins_of}
use Rattle.circuit.specs.Record.{kind_at, lines_of}
use Rattle.circuit.specs.Promise.{layout_rules, count_rules, circuit_rules}
use Rattle.circuit.proofs.Says.{circuit_says}
use Rattle.reads.specs.Owed.{Sourced}
use Rattle.std.specs.Prelude.{Ok}

pub sourced : (c : List ℕ) → refusal (circuit_rules c) ≡ Ok tt → Sourced c (lines_of c)
unfolding layout_rules count_rules AllHold
sourced c e =
    let all = all_hold (circuit_rules c) (circuit_says c) e in
    record {
      size = all.0.multiple;
      inside = λ k s l a b.
          let pin = (all.1.0 k l).pin s a b in
          ⊎_elim (λ h. omega (arith, pin.lacks h)) (λ h. omega (arith, pin.has h)) (either (pins_of (kind_at c k)) s);
    }
