-- No two reasons have one number: a reason is read back from its number.
-- Assumes nothing.
use mathlib.Core.Path.{◌≡◌, refl, sym, ap, ◌∙◌}
use Prim.Native.Nat.{ℕ}
use lib.Dec.{eqb}
use Rattle.ground.specs.Choose.{choose}
use Rattle.answers.specs.declared.Reason.{Reason}
use Rattle.answers.specs.declared.Reason.TheVariants.{CircuitSize, CircuitLayout, ManyInputs, NoOutput, FaultsSize, FaultLayout, PatternsSize, PatternByte, BufferSize, NoRoom, TableSize, TableByte, BenchSyntax, BenchName, BenchCycle, NoPattern, StateRecords, UnfoldedSize, StepCount, NotOpened}
use Rattle.answers.specs.Area.{number_of}

reason_by : ℕ → Reason
reason_by n =
    choose (eqb n 1) CircuitSize (
    choose (eqb n 2) CircuitLayout (
    choose (eqb n 4) ManyInputs (
    choose (eqb n 5) NoOutput (
    choose (eqb n 6) FaultsSize (
    choose (eqb n 7) FaultLayout (
    choose (eqb n 8) PatternsSize (
    choose (eqb n 9) PatternByte (
    choose (eqb n 10) BufferSize (
    choose (eqb n 11) NoRoom (
    choose (eqb n 12) TableSize (
    choose (eqb n 13) TableByte (
    choose (eqb n 14) BenchSyntax (
    choose (eqb n 15) BenchName (
    choose (eqb n 16) BenchCycle (
    choose (eqb n 17) NoPattern (
    choose (eqb n 18) StateRecords (
    choose (eqb n 19) UnfoldedSize (
    choose (eqb n 21) StepCount (
    NotOpened)))))))))))))))))))

read_back : (a : Reason) → reason_by (number_of a) ≡ a
unfolding reason_by
read_back CircuitSize = refl
read_back CircuitLayout = refl
read_back ManyInputs = refl
read_back NoOutput = refl
read_back FaultsSize = refl
read_back FaultLayout = refl
read_back PatternsSize = refl
read_back PatternByte = refl
read_back BufferSize = refl
read_back NoRoom = refl
read_back TableSize = refl
read_back TableByte = refl
read_back BenchSyntax = refl
read_back BenchName = refl
read_back BenchCycle = refl
read_back NoPattern = refl
read_back StateRecords = refl
read_back UnfoldedSize = refl
read_back StepCount = refl
read_back NotOpened = refl

pub one_reason : (a b : Reason) → number_of a ≡ number_of b → a ≡ b
one_reason a b e = sym (read_back a) ∙ ap reason_by e ∙ read_back b
