-- What a mark says.
-- Assumes nothing.
use mathlib.Core.Path.{◌≡◌, refl, ap, ◌∙◌}
use mathlib.Core.Bool.{Bool, true, false, not, ◌&&◌, ◌||◌}
use mathlib.Core.List.{List}
use Prim.Native.Nat.{ℕ, ◌<◌}
use lib.Dec.{eqb}
use lib.ListN.{get_or}
use Rattle.ground.specs.Choose.{choose, one}
use Rattle.reads.specs.Reads.{branches}
use Rattle.heads.specs.Heads.{bound, read_by_bound, head}
use Rattle.heads.specs.Marks.{line_mark, Marked}

module _ {c : List ℕ} {n : ℕ} {marks : List ℕ} (marked : Marked c n marks) (k : ℕ) (l : k < n) where
  -- what a test of the mark says, is said of the line
  at : (test : ℕ → Bool) (is : Bool → Bool → Bool) → ((b h : Bool) → test (choose b 2 (one h)) ≡ is b h) → test (get_or marks k 0) ≡ is (bound c n k) (head c n k)
  unfolding line_mark
  at test is says = ap test (marked.are k l) ∙ says (bound c n k) (head c n k)

  pub bounds : eqb (get_or marks k 0) 2 ≡ bound c n k
  bounds = at (λ x. eqb x 2) (λ b _. b) go
    where
      go : (b h : Bool) → eqb (choose b 2 (one h)) 2 ≡ b
      go true h = refl
      go false true = refl
      go false false = refl

  pub heads : eqb (get_or marks k 0) 1 ≡ head c n k
  unfolding head
  heads = at (λ x. eqb x 1) (λ b h. not b && h) go ∙ again (bound c n k)
    where
      go : (b h : Bool) → eqb (choose b 2 (one h)) 1 ≡ (not b && h)
      go true h = refl
      go false true = refl
      go false false = refl

      again : (b : Bool) → (not b && (not b && (read_by_bound c n k || branches c n k))) ≡ (not b && (read_by_bound c n k || branches c n k))
      again true = refl
      again false = refl

  pub others : eqb (get_or marks k 0) 0 ≡ not (bound c n k || head c n k)
  others = at (λ x. eqb x 0) (λ b h. not (b || h)) go
    where
      go : (b h : Bool) → eqb (choose b 2 (one h)) 0 ≡ not (b || h)
      go true h = refl
      go false true = refl
      go false false = refl
