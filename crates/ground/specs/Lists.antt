-- What stands in a list of numbers, and where; lists grown place by place, lists gathered piece by piece.
-- Assumes nothing.
use Rattle.std.specs.Prelude.{ℕ, zero, suc, Bool, false, ◌||◌, List, [], ◌∷◌, ◌++◌, eqb}
use Rattle.ground.specs.Choose.{choose}

-- x stands in the list
unfoldable pub elem : List ℕ → ℕ → Bool
elem [] x = false
elem (y ∷ l) x = eqb y x || elem l x

-- where x stands first, counted from 0; the length where it stands nowhere
unfoldable pub index_in : List ℕ → ℕ → ℕ
index_in [] x = 0
index_in (y ∷ l) x = choose (eqb y x) 0 (suc (index_in l x))

-- grown place by place to n places: what comes to place k may look at the list below it
unfoldable pub grow : {A : Type 0} → (List A → ℕ → A) → ℕ → List A
grow f zero = []
grow f (suc k) = grow f k ++ (f (grow f k) k ∷ [])

-- f k for each number k below n
abbrev pub table : {A : Type 0} → (ℕ → A) → ℕ → List A
table f n = grow (λ _ k. f k) n

-- gathered piece by piece: what the numbers below n bring, in order
abbrev pub gather : {A : Type 0} → (ℕ → List A) → ℕ → List A
gather piece zero = []
gather piece (suc n) = gather piece n ++ piece n

-- f k for each number k below n that passes the test, in order
unfoldable pub collect : (ℕ → Bool) → (ℕ → ℕ) → ℕ → List ℕ
collect test f n = gather (λ k. choose (test k) (f k ∷ []) []) n
