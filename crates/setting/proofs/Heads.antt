-- The loop that gives the head lines what the node says.
-- Assumes nothing.
use mathlib.Core.Path.{◌≡◌, refl, sym, ap, ◌∙◌}
use mathlib.Core.List.{List}
use Prim.Native.Nat.{ℕ, ◌+◌, ◌≤◌, ◌<◌}
use native.Mathlib.Numerals.{add-one}
use native.Mathlib.Omega.{arith}
use lib.Dec.{eqb}
use lib.ListN.{length, get_or, set, take, length-set}
use lib.Seq.{take-suc-set, take_all}
use borrow.Author.Tests.{eq-eqb}
use Rattle.ground.specs.Choose.{one}
use Rattle.ground.specs.Below.{count_below}
use Rattle.ground.specs.Lists.{grow, table}
use Rattle.ground.proofs.Counting.{count_suc, count_most, count_below_lem}
use Rattle.heads.specs.Heads.{head, heads_before, heads_of}
use Rattle.heads.specs.Marks.{Marked}
use Rattle.heads.proofs.Marks.{heads}
use Rattle.trees.specs.Setting.{head_value}
use Rattle.setting.specs.Owed.{HeadReady, head_or}

-- the lines below k have theirs, of which `used` are head lines
pub record Heads (c node w₀ w : List ℕ) (k used : ℕ) : Type 0 where
  pub at_most : k ≤ length w₀
  pub long : length w ≡ length w₀
  pub used-is : used ≡ heads_before c (length w₀) k
  pub are : take k w ≡ table (head_value c (length w₀) node) k

pub no-head : (c node w : List ℕ) → Heads c node w w 0 0
unfolding count_below grow
no-head c node w = record { at_most = omega arith; long = refl; used-is = refl; are = refl }

module _ {c node w₀ w marks : List ℕ} {k used : ℕ} (marked : Marked c (length w₀) marks) (so : Heads c node w₀ w k used) where
  pub used_small : used ≤ length w₀
  used_small = omega (arith, so.at_most, so.used-is, count_most k (head c (length w₀)))

  pub head-ready : length node ≡ heads_of c (length w₀) → k < length w₀ → HeadReady marks node k used
  head-ready e l = record {
    line = omega (arith, marked.long);
    head = λ q. omega (arith, so.used-is, count_below_lem (head c (length w₀)) k (length w₀) l (sym (heads marked k l) ∙ eq-eqb _ 1 q));
  }

  pub next-head : {v x : ℕ} → k < length w₀ → v ≡ head_or marks node k used → x ≡ one (eqb (get_or marks k 0) 1) → Heads c node w₀ (set w k v) (k + 1) (used + x)
  unfolding head_or head_value grow
  next-head {v} {x} l e q = record {
    at_most = omega arith;
    long = length-set w k v ∙ so.long;
    used-is = rw (add-one k, count_suc k (head c (length w₀)), ← so.used-is, q, heads marked k l);
    are = rw (add-one k, take-suc-set w k v (omega (arith, so.long)), so.are, e, heads marked k l, so.used-is);
  }

  pub all_heads : length w₀ ≤ k → w ≡ table (head_value c (length w₀) node) (length w₀)
  all_heads l =
      let e : k ≡ length w₀ = omega (arith, so.at_most) in
      sym (take_all k w (omega (arith, so.long))) ∙ so.are ∙ ap (table (head_value c (length w₀) node)) e
