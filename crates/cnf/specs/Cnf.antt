-- What a list of signed words means: n is variable n, -n its negation, and a 0 closes a clause.
-- Assumes nothing.
use Rattle.std.specs.Prelude.{◌≡◌, Bool, true, false, not, List, [], ◌∷◌, ◌++◌, ℕ, zero, suc, leb, ℤ, pos, negsuc}
use Rattle.cnf.specs.Lists.{any_of, all_of}

-- a truth for each variable
abbrev pub Assignment : Type 0
Assignment = ℕ → Bool

-- a clause is a list of literals
abbrev pub Clauses : Type 0
Clauses = List (List ℤ)

-- ---- from words to clauses, and back

-- where `begun` stands already of the first clause; what no 0 closes is no clause
unfoldable pub decode_from : List ℤ → List ℤ → Clauses
decode_from begun [] = []
decode_from begun (pos zero ∷ words) = begun ∷ decode_from [] words
decode_from begun (pos (suc n) ∷ words) = decode_from (begun ++ (pos (suc n) ∷ [])) words
decode_from begun (negsuc n ∷ words) = decode_from (begun ++ (negsuc n ∷ [])) words

abbrev pub decode : List ℤ → Clauses
decode words = decode_from [] words

abbrev pub words_of : Clauses → List ℤ
words_of [] = []
words_of (clause ∷ clauses) = clause ++ (pos 0 ∷ words_of clauses)

-- ---- what an assignment makes of them

-- negsuc n is -(n + 1)
abbrev pub truth : Assignment → ℤ → Bool
truth σ (pos n) = σ n
truth σ (negsuc n) = not (σ (suc n))

-- each clause has a true literal
abbrev pub satisfied : Assignment → Clauses → Bool
satisfied σ clauses = all_of (any_of (truth σ)) clauses

abbrev pub Satisfies : Assignment → List ℤ → Type 0
Satisfies σ words = satisfied σ (decode words) ≡ true

-- ---- the variables that they name

-- a literal is one of the variables 1 to v, or its negation
abbrev pub literal_to : ℕ → ℤ → Bool
literal_to v (pos zero) = false
literal_to v (pos (suc n)) = leb (suc n) v
literal_to v (negsuc n) = leb (suc n) v

abbrev pub variables_to : ℕ → Clauses → Bool
variables_to v clauses = all_of (all_of (literal_to v)) clauses
