-- The work memory that a list of nodes leaves, node by node and one list after another.
-- Assumes nothing.
use mathlib.Core.Path.{◌≡◌, refl, sym, ap, ◌∙◌}
use mathlib.Core.List.{List, [], ◌∷◌, ◌++◌, map}
use Prim.Native.Nat.{ℕ, zero, suc, ◌-◌, ◌≤◌, ◌<◌}
use native.Mathlib.Nat.{sub-zero, suc-sub-suc}
use native.Mathlib.Omega.{arith}
use lib.ListN.{length, take, get_or}
use lib.Seq.{take-nil, take-append-le, take_all, take-length}
use Rattle.nodes.specs.Node.{Node}
use Rattle.nodes.specs.Order.{last_or}

module _ (after : Node → List ℕ) where
  -- w was there, and the first b of the nodes l are looked at
  abbrev pub leaves : ℕ → List ℕ → List Node → List ℕ
  leaves b w l = last_or w (map after (take b l))

  pub leaves_none : (w : List ℕ) (l : List Node) → leaves 0 w l ≡ w
  unfolding last_or
  leaves_none w l = refl

  pub leaves-next : (b : ℕ) (w : List ℕ) (s : Node) (l : List Node) → 0 < b → leaves b w (s ∷ l) ≡ leaves (b - 1) (after s) l
  unfolding last_or
  leaves-next b w s l h =
      let e : b ≡ suc (b - 1) = omega arith in
      ap (λ (k : ℕ). last_or w (map after (take k (s ∷ l)))) e

  pub leaves_first : (b : ℕ) (w : List ℕ) (l m : List Node) → b ≤ length l → leaves b w (l ++ m) ≡ leaves b w l
  leaves_first b w l m h = rw (take-append-le b l m)

  pub leaves_second : (b : ℕ) (w : List ℕ) (l m : List Node) → length l ≤ b → leaves b w (l ++ m) ≡ leaves (b - length l) (leaves b w l) m
  unfolding last_or
  leaves_second b w [] m h = rw (take-nil {A = Node} b, sub-zero b)
  leaves_second zero w (s ∷ l) m h = absurd (omega arith)
  leaves_second (suc b) w (s ∷ l) m h = leaves_second b (after s) l m (omega arith) ∙ rw (suc-sub-suc b (length l))

  pub leaves_all : (b : ℕ) (w : List ℕ) (l : List Node) → length l ≤ b → leaves b w l ≡ leaves (length l) w l
  leaves_all b w l h = ap (λ (m : List Node). last_or w (map after m)) (take_all b l h ∙ sym (take-length l))

  -- of at least one node: that of the b-th, or of the last
  pub leaves_node : (b : ℕ) (w : List ℕ) (l : List Node) → 0 < b → b ≤ length l → leaves b w l ≡ after (get_or l (b - 1) [])
  unfolding last_or
  leaves_node zero w l p h = absurd (omega arith)
  leaves_node (suc b) w [] p h = absurd (omega arith)
  leaves_node (suc zero) w (s ∷ l) p h = refl
  leaves_node (suc (suc b)) w (s ∷ l) p h = leaves_node (suc b) (after s) l (omega arith) (omega arith) ∙ ap (λ (k : ℕ). after (get_or l k [])) one ∙ sym (ap (λ (k : ℕ). after (get_or (s ∷ l) k [])) two)
    where
      one : suc b - 1 ≡ b
      one = omega arith

      two : suc (suc b) - 1 ≡ suc b
      two = omega arith
