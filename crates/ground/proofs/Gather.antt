-- Lists gathered piece by piece: how long they are, what stands at a place, and what holds at each.
-- Assumes nothing.
use mathlib.Core.Path.{◌≡◌, refl, sym, ap, ◌∙◌}
use mathlib.Core.Logic.{⊎_elim}
use mathlib.Core.List.{List, [], ◌∷◌, ◌++◌, append-nil, append_assoc}
use Prim.Native.Nat.{ℕ, zero, suc, ◌+◌, ◌*◌, ◌≤◌, ◌<◌}
use native.Mathlib.Nat.{eq-or-lt_of_le, le_of_suc-le-suc, not-suc-le-zero, add-zero, add-suc, suc-mul, zero-mul}
use native.Mathlib.Omega.{arith}
use lib.ListN.{length, get_or, length-append, get_or-append}
use lib.Seq.{get_or-append-add}
use Rattle.ground.specs.Lists.{gather}

module _ {A : Type 0} (piece : ℕ → List A) where
  -- the pieces below k are no longer than those below n
  pub gather_mono : (k n : ℕ) → k ≤ n → length (gather piece k) ≤ length (gather piece n)
  gather_mono k zero h = let e : k ≡ 0 = omega arith in rw e (omega arith)
  gather_mono k (suc n) h =
      ⊎_elim (λ e. rw e (omega arith))
      (λ (l : k < suc n). let ih : length (gather piece k) ≤ length (gather piece n) = gather_mono k n (omega arith) in simp length-append (omega arith))
      (eq-or-lt_of_le h)

  -- place j of piece i stands after the pieces below it
  pub gather_place : (d : A) (n i j : ℕ) → i < n → j < length (piece i) → get_or (gather piece n) (length (gather piece i) + j) d ≡ get_or (piece i) j d
  gather_place d zero i j h g = absurd (not-suc-le-zero h)
  gather_place d (suc n) i j h g =
      ⊎_elim (λ (e : i ≡ n). rw e (get_or-append-add (gather piece n) (piece n) j d))
      (λ l.
      let inside : length (gather piece i) + j < length (gather piece n) = omega (arith, gather_mono (suc i) n l, length-append (gather piece i) (piece i)) in
      get_or-append (gather piece n) (piece n) d (length (gather piece i) + j) inside ∙ gather_place d n i j l g)
      (eq-or-lt_of_le (le_of_suc-le-suc h))

  pub gather-same : (other : ℕ → List A) (n : ℕ) → ((k : ℕ) → k < n → piece k ≡ other k) → gather piece n ≡ gather other n
  gather-same other zero same = refl
  gather-same other (suc n) same = rw (gather-same other n (λ k l. same k (omega arith)), same n (omega arith))

  -- so many pieces more
  pub gather_add : (n d : ℕ) → gather piece (n + d) ≡ gather piece n ++ gather (λ k. piece (n + k)) d
  gather_add n zero = ap (gather piece) (add-zero n) ∙ sym (append-nil (gather piece n))
  gather_add n (suc d) = rw (add-suc n d, gather_add n d, append_assoc)

  -- ---- pieces of one width

  module _ (width : ℕ) (wide : (k : ℕ) → length (piece k) ≡ width) where
    pub gather-length : (n : ℕ) → length (gather piece n) ≡ n * width
    gather-length zero = rw zero-mul
    gather-length (suc n) = simp (length-append, gather-length n, wide, suc-mul)

    pub gather_at : (d : A) (n i j : ℕ) → i < n → j < width → get_or (gather piece n) (i * width + j) d ≡ get_or (piece i) j d
    gather_at d n i j h g = rw (← gather-length i) (gather_place d n i j h (rw (wide i) g))

-- ---- what holds at each place, and outside, where d stands

module _ {A : Type 0} (P : A → Type 0) (d : A) where
  append_each : (a b : List A) → ((i : ℕ) → P (get_or a i d)) → ((i : ℕ) → P (get_or b i d)) → (i : ℕ) → P (get_or (a ++ b) i d)
  append_each [] b p q i = q i
  append_each (x ∷ a) b p q zero = p zero
  append_each (x ∷ a) b p q (suc i) = append_each a b (λ j. p (suc j)) q i

  pub gather_each : P d → (piece : ℕ → List A) (n : ℕ) → ((k : ℕ) → k < n → (i : ℕ) → P (get_or (piece k) i d)) → (i : ℕ) → P (get_or (gather piece n) i d)
  gather_each outside piece zero h = λ _. outside
  gather_each outside piece (suc n) h =
      append_each (gather piece n) (piece n) (gather_each outside piece n (λ k l. h k (omega arith))) (h n (omega arith))
