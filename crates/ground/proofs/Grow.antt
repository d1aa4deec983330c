-- Lists grown place by place: how long they are, what stands at a place, their front, and what holds place by place.
-- Assumes nothing.
use mathlib.Core.Path.{◌≡◌, refl, sym, ◌∙◌}
use mathlib.Core.Logic.{⊎_elim}
use mathlib.Core.List.{List, [], ◌∷◌, ◌++◌}
use Prim.Native.Nat.{ℕ, zero, suc, ◌≤◌, ◌<◌}
use native.Mathlib.Nat.{eq-or-lt_of_le, le_of_suc-le-suc, not-suc-le-zero}
use native.Mathlib.Numerals.{add-one}
use native.Mathlib.Omega.{arith}
use lib.ListN.{length, get_or, take, length-append, get_or-append}
use lib.Seq.{get_or_at, take_all, take-append-le}
use Rattle.ground.specs.Lists.{grow, table}

module _ {A : Type 0} (f : List A → ℕ → A) where
  pub grow-length : (n : ℕ) → length (grow f n) ≡ n
  unfolding grow
  grow-length zero = refl
  grow-length (suc n) = simp (length-append, grow-length n, add-one)

  -- in the list of any number of places that has it
  pub grow_at : (d : A) (n k : ℕ) → k < n → get_or (grow f n) k d ≡ f (grow f k) k
  unfolding grow
  grow_at d zero k h = absurd (not-suc-le-zero h)
  grow_at d (suc n) k h =
      ⊎_elim (λ e. rw e (get_or_at (grow f n) _ [] d n (grow-length n)))
      (λ l. get_or-append (grow f n) _ d k (rw (grow-length n) l) ∙ grow_at d n k l)
      (eq-or-lt_of_le (le_of_suc-le-suc h))

  pub grow_meet : (d : A) (m n k : ℕ) → k < m → k < n → get_or (grow f m) k d ≡ get_or (grow f n) k d
  grow_meet d m n k a b = grow_at d m k a ∙ sym (grow_at d n k b)

  pub grow_front : (k n : ℕ) → k ≤ n → take k (grow f n) ≡ grow f k
  unfolding grow
  grow_front k zero h = let e : k ≡ 0 = omega arith in rw e
  grow_front k (suc n) h =
      ⊎_elim
      (λ e. rw e (take_all (suc n) (grow f (suc n)) (rw (grow-length (suc n)) (omega arith))))
      (λ (l : k < suc n). take-append-le k (grow f n) _ (rw (grow-length n) (omega arith)) ∙ grow_front k n (omega arith))
      (eq-or-lt_of_le h)

  -- a function that brings the same to each place brings the same list
  pub grow-same : (g : List A → ℕ → A) (n : ℕ) → ((k : ℕ) → k < n → f (grow g k) k ≡ g (grow g k) k) → grow f n ≡ grow g n
  unfolding grow
  grow-same g zero same = refl
  grow-same g (suc n) same = rw (grow-same g n (λ k l. same k (omega arith)), same n (omega arith))

-- ---- where no place looks below it

module _ {A : Type 0} (f : ℕ → A) (n : ℕ) where
  pub table-length : length (table f n) ≡ n
  table-length = grow-length (λ _. f) n

  pub table_at : (d : A) (k : ℕ) → k < n → get_or (table f n) k d ≡ f k
  table_at d = grow_at (λ _. f) d n

-- ---- two lists place by place, of which a and b stand outside

module _ {A B : Type 0} (R : A → B → Type 0) (a : A) (b : B) where
  abbrev pub Related : List A → List B → Type 0
  Related l m = (i : ℕ) → R (get_or l i a) (get_or m i b)

  snoc_related : (l : List A) (m : List B) (x : A) (y : B) → length l ≡ length m → Related l m → R x y → Related (l ++ (x ∷ [])) (m ++ (y ∷ []))
  snoc_related [] [] x y e h r zero = r
  snoc_related [] [] x y e h r (suc i) = h (suc i)
  snoc_related [] (z ∷ m) x y e h r i = absurd (omega arith)
  snoc_related (z ∷ l) [] x y e h r i = absurd (omega arith)
  snoc_related (z ∷ l) (w ∷ m) x y e h r zero = h 0
  snoc_related (z ∷ l) (w ∷ m) x y e h r (suc i) = snoc_related l m x y (omega arith) (λ j. h (suc j)) r i

  -- what comes to a place is related where the lists below it are
  pub grow_related : R a b → (f : List A → ℕ → A) (g : List B → ℕ → B) (n : ℕ)
      → ((k : ℕ) → k < n → Related (grow f k) (grow g k) → R (f (grow f k) k) (g (grow g k) k))
      → Related (grow f n) (grow g n)
  unfolding grow
  grow_related outside f g zero step = λ _. outside
  grow_related outside f g (suc n) step =
      let below = grow_related outside f g n (λ k l. step k (omega arith)) in
      snoc_related (grow f n) (grow g n) _ _ (grow-length f n ∙ sym (grow-length g n)) below (step n (omega arith) below)

-- one list
pub grow_each : {A : Type 0} (P : A → Type 0) (d : A) → P d → (f : List A → ℕ → A) (n : ℕ)
    → ((k : ℕ) → k < n → ((i : ℕ) → P (get_or (grow f k) i d)) → P (f (grow f k) k))
    → (i : ℕ) → P (get_or (grow f n) i d)
grow_each P d outside f n step = grow_related (λ x _. P x) d d outside f f n step
