-- Three-valued simulation of a vector without X agrees with the Boolean meaning, in the good circuit and in the faulty one.
-- Assumes nothing.
use mathlib.Core.Path.{◌≡◌, sym}
use mathlib.Core.List.{List}
use Prim.Native.Nat.{ℕ, ◌≤◌, ◌<◌}
use native.Mathlib.Omega.{arith}
use lib.ListN.{length, get_or}
use Rattle.ground.specs.Choose.{one}
use Rattle.ground.proofs.Tests.{one_most}
use Rattle.ground.proofs.Grow.{table-length, table_at}
use Rattle.circuit.specs.Formed.{WellFormed}
use Rattle.lists.specs.declared.Fault.{Fault}
use Rattle.simulate.specs.Simulate.{unforced, stuck_at}
use Rattle.simulate.specs.Boolean.{Vector, good, faulty, truth_at}
use Rattle.simulate.specs.Vectors.{pattern_of, NoX, Fills}
use Rattle.simulate.specs.Work.{good_of, faulty_of}
use Rattle.simulate.proofs.Keeps.{unforced_keeps, stuck_keeps}
use Rattle.simulate.proofs.Known.{values_known}
use Rattle.simulate.proofs.Fillings.{good-truth, faulty-truth}

module _ (c : List ℕ) (m n : ℕ) (well : WellFormed c m n) (x : Vector) where
  long : length (pattern_of m x) ≡ m
  long = table-length (λ i. one (x i)) m

  at : (i : ℕ) → i < length (pattern_of m x) → get_or (pattern_of m x) i 0 ≡ one (x i)
  at i l = table_at (λ j. one (x j)) m 0 i (omega (arith, long))

  -- a vector fills its own pattern, which has no X
  own : Fills (pattern_of m x) x
  own i l known = sym (at i l)

  full : NoX (pattern_of m x)
  full i l = rw (at i l) (omega (arith, one_most (x i)))

  sized : WellFormed c (length (pattern_of m x)) n
  sized = rw long well

  pub good_vector : (k : ℕ) → get_or (good_of c (pattern_of m x) n) k 0 ≡ one (truth_at good c x n k)
  good_vector k =
      sym (good-truth c (pattern_of m x) n sized.inputs_are x own k (values_known unforced (unforced_keeps 2) c (pattern_of m x) n sized full k))

  pub faulty_vector : (fault : Fault) → fault.value ≤ 1 → (k : ℕ) → get_or (faulty_of fault c (pattern_of m x) n) k 0 ≡ one (truth_at (faulty fault) c x n k)
  faulty_vector fault small k =
      sym
      (faulty-truth c (pattern_of m x) n sized.inputs_are x own k fault small
      (values_known (stuck_at fault) (stuck_keeps 2 fault (omega arith)) c (pattern_of m x) n sized full k))
