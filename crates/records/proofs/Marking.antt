-- The loop of `mark_outputs`: where it starts, one output more, and the end.
-- Assumes nothing.
use mathlib.Core.Path.{◌≡◌, refl, sym, ap, ◌∙◌}
use mathlib.Core.List.{List, [], ◌∷◌, ◌++◌}
use Prim.Native.Nat.{ℕ, ◌+◌, ◌≤◌, ◌<◌}
use native.Mathlib.Decide.{ℕ_discrete}
use native.Mathlib.Numerals.{add-one}
use native.Mathlib.Omega.{arith}
use lib.ListN.{length, get_or, set, take, length-set}
use lib.Seq.{take-suc, take_all, get_or-set_same, get_or-set_other}
use Rattle.ground.specs.Choose.{one}
use Rattle.ground.specs.Lists.{elem}
use Rattle.ground.proofs.Lists.{elem_other, elem_last}
use Rattle.records.specs.Owed.{MarkOutputsReady, MarkOutputsDone}

-- the first i outputs are marked
pub record MarkedTo (outs flag₀ flag : List ℕ) (i : ℕ) : Type 0 where
  pub at_most : i ≤ length outs
  pub long : length flag ≡ length flag₀
  pub flags : MarkOutputsDone (take i outs) flag

pub marked_none : {outs flag : List ℕ} → MarkOutputsReady outs flag → MarkedTo outs flag flag 0
unfolding elem
marked_none u = record { at_most = omega arith; long = refl; flags = λ x l. u.unset x }

module _ {outs flag₀ flag : List ℕ} {i : ℕ} (m : MarkedTo outs flag₀ flag i) where
  pub marked_more : i < length outs → MarkedTo outs flag₀ (set flag (get_or outs i 0) 1) (i + 1)
  marked_more l = record {
    at_most = omega arith;
    long = length-set flag (get_or outs i 0) 1 ∙ m.long;
    flags = λ x k. rw (add-one i, take-suc outs i 0 l) (go x (rw length-set at k) (ℕ_discrete (get_or outs i 0) x));
  }
    where
      go : (x : ℕ) → x < length flag → Dec (get_or outs i 0 ≡ x) → get_or (set flag (get_or outs i 0) 1) x 0 ≡ one (elem (take i outs ++ (get_or outs i 0 ∷ [])) x)
      go x k (yes q) = rw (q, elem_last (take i outs) x) (get_or-set_same flag x 1 0 k)
      go x k (no q) =
          rw (elem_other (take i outs) (get_or outs i 0) x q) (get_or-set_other flag (get_or outs i 0) x 1 0 (λ p. q (sym p)) ∙ m.flags x k)

  pub marked_all : length outs ≤ i → MarkOutputsDone outs flag
  marked_all l x k = m.flags x k ∙ ap (λ (o : List ℕ). one (elem o x)) (take_all i outs l)
