-- Names and their definitions, and refusal 15: a name that is used and defined nowhere, or a second definition, at the lowest byte.
-- `defs` has the first byte of each name that is defined, in the text's order, `uses` of each that is used.
-- Assumes nothing.
use Rattle.std.specs.Prelude.{◌≡◌, Bool, true, not, ◌&&◌, ◌||◌, List, [], ◌∷◌, ℕ, zero, suc, ◌-◌, ◌<◌, eqb, length, get_or}
use Rattle.ground.specs.Choose.{choose}
use Rattle.ground.specs.Below.{any_below}
use Rattle.ground.specs.Lists.{elem}
use Rattle.answers.specs.Rules.{Rule, each}
use Rattle.words.specs.Words.{word_at, same}
use Rattle.answers.specs.declared.Reason.TheVariants.{BenchName}

-- definition d is of the name w
abbrev pub named : List ℕ → List ℕ → List ℕ → ℕ → Bool
named t defs w d = same (word_at t (get_or defs d 0)) w

-- ---- refusal 15, as a test

-- no definition at byte i has one of the same name before it
unfoldable pub once : List ℕ → List ℕ → ℕ → Bool
once t defs i = not (any_below (length defs) (λ d. eqb (get_or defs d 0) i && any_below d (named t defs (word_at t i))))

-- a name that is used at byte i is defined
unfoldable pub defined : List ℕ → List ℕ → List ℕ → ℕ → Bool
defined t defs uses i = not (elem uses i) || any_below (length defs) (named t defs (word_at t i))

-- ---- in words

-- definition d is of the name at byte i
abbrev pub Names : List ℕ → List ℕ → ℕ → ℕ → Type 0
Names t defs i d = word_at t (get_or defs d 0) ≡ word_at t i

pub record NameOk (t defs uses : List ℕ) (i : ℕ) : Type 0 where
  pub first : (d : ℕ) → d < length defs → get_or defs d 0 ≡ i → (e : ℕ) → e < d → Names t defs i e → ⊥
  pub known : elem uses i ≡ true → (d : ℕ) × (d < length defs) × Names t defs i d

unfoldable pub name_rules : List ℕ → List ℕ → List ℕ → List Rule
name_rules t defs uses = each BenchName (length t) (λ i. once t defs i && defined t defs uses i) (NameOk t defs uses) ∷ []

-- ---- the number of a name, where `numbers` has that of each definition

-- one more than the last number below n that passes a test, or 0
unfoldable pub last_with : (ℕ → Bool) → ℕ → ℕ
last_with test zero = 0
last_with test (suc n) = choose (test n) (suc n) (last_with test n)

-- one more than the last of the first n definitions that is of this name, or 0
unfoldable pub definition : List ℕ → List ℕ → ℕ → List ℕ → ℕ
definition t defs n w = last_with (named t defs w) n

-- of the name at a byte
unfoldable pub name_number : List ℕ → List ℕ → List ℕ → ℕ → ℕ
name_number t defs numbers i = get_or numbers (definition t defs (length defs) (word_at t i) - 1) 0
