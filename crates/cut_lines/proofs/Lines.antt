-- The loop that cuts a circuit.
-- Assumes nothing.
use mathlib.Core.Path.{◌≡◌, refl, ap, ◌∙◌}
use mathlib.Core.Bool.{Bool, true, false, not, ◌||◌}
use mathlib.Core.List.{List}
use Prim.Native.Nat.{ℕ, ◌+◌, ◌*◌, ◌≤◌, ◌<◌}
use native.Mathlib.Numerals.{add-one}
use native.Mathlib.Omega.{arith}
use lib.ListN.{length, get_or, set, length-set}
use Rattle.ground.specs.Choose.{choose}
use Rattle.circuit.specs.Record.{kind_at, out_at}
use Rattle.heads.specs.Heads.{bound, head}
use Rattle.heads.proofs.Marks.{bounds, heads, others}
use Rattle.cut.specs.Cut.{cut_kind, cut_out, cut_to, cut}
use Rattle.cut_lines.specs.Owed.{kind_by, out_by, CutReady}

pub record SoFar (c marks w₀ w : List ℕ) (k : ℕ) : Type 0 where
  pub at_most : k ≤ length marks
  pub long : length w ≡ length c
  pub same : length w ≡ length w₀
  pub are : w ≡ cut_to c (length marks) k

pub start : {c marks w : List ℕ} → CutReady c marks w → SoFar c marks w w 0
unfolding cut_to
start {c} {marks} {w} r = record { at_most = omega arith; long = ap length r.copied; same = refl; are = r.copied }

out_either : (t : Bool) (x : ℕ) → choose (not t) 0 x ≡ choose t x 0
out_either true x = refl
out_either false x = refl

module _ {c marks w₀ w : List ℕ} {k : ℕ} (r : CutReady c marks w₀) (so : SoFar c marks w₀ w k) where
  pub more : {x y : ℕ} → k < length marks → x ≡ kind_by (get_or marks k 0) (kind_at c k) → y ≡ out_by (get_or marks k 0) (out_at c k) → SoFar c marks w₀ (set (set w (8 * k) x) (8 * k + 1) y) (k + 1)
  unfolding cut_to cut_kind cut_out kind_by out_by
  more {x} {y} l e q = record {
    at_most = omega arith;
    long = simp length-set so.long;
    same = simp length-set so.same;
    are =
        rw (add-one k, e, q, so.are, bounds r.marked k l, heads r.marked k l, others r.marked k l, out_either (bound c (length marks) k || head c (length marks) k) (out_at c k));
  }

  pub finished : length marks ≤ k → w ≡ cut c (length marks)
  unfolding cut
  finished l = let e : k ≡ length marks = omega (arith, so.at_most) in so.are ∙ ap (cut_to c (length marks)) e
