-- What the values of an output under a pattern say of the truths there, under every filling of the pattern's X's.
-- Assumes nothing.
use mathlib.Core.Path.{◌≡◌, sym, ap, ◌∙◌}
use mathlib.Core.List.{List}
use Prim.Native.Nat.{ℕ, ◌≤◌}
use lib.ListN.{length, get_or}
use Rattle.ground.specs.Choose.{one}
use Rattle.ground.proofs.Tests.{one_same}
use Rattle.circuit.specs.Record.{inputs_before}
use Rattle.lists.specs.declared.Fault.{Fault}
use Rattle.simulate.specs.Boolean.{Vector, good, faulty, truth_at}
use Rattle.simulate.specs.Vectors.{Fills}
use Rattle.simulate.specs.Work.{good_of, faulty_of}
use Rattle.simulate.proofs.Fillings.{good-truth, faulty-truth}
use Rattle.entry.specs.Words.{Differ, Agree}

module _ (fault : Fault) (small : fault.value ≤ 1) (c p : List ℕ) (n : ℕ) (inputs : inputs_before c n ≡ length p) (x : Vector) (fills : Fills p x) (k : ℕ) where
  pub differ_truths : Differ (get_or (good_of c p n) k 0) (get_or (faulty_of fault c p n) k 0) → truth_at good c x n k ≡ truth_at (faulty fault) c x n k → ⊥
  differ_truths d q =
      d.differ (sym (good-truth c p n inputs x fills k d.good_known) ∙ ap one q ∙ faulty-truth c p n inputs x fills k fault small d.faulty_known)

  pub agree_truths : Agree (get_or (good_of c p n) k 0) (get_or (faulty_of fault c p n) k 0) → truth_at good c x n k ≡ truth_at (faulty fault) c x n k
  agree_truths h =
      one_same _ _
      (good-truth c p n inputs x fills k h.good_known ∙ h.equal ∙ sym (faulty-truth c p n inputs x fills k fault small h.faulty_known))
