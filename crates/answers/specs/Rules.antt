-- Refusals: rules in the order in which they are checked; the first that is broken is given, at its lowest place.
-- A rule stands as a test and, beside it, as what it asks in the paper's words. `Says` is proved of every part's rules.
-- Assumes nothing.
use Rattle.std.specs.Prelude.{◌≡◌, ◌⊎◌, ⊤, Bool, true, List, [], ◌∷◌, ℕ, ◌≤◌, ◌<◌, ltb, Result, Ok, Err}
use Rattle.ground.specs.Choose.{choose}
use Rattle.ground.specs.Below.{first_not}
use Rattle.answers.specs.declared.Reason.{Reason}
use Rattle.answers.specs.declared.Refusal.{Refusal}

pub data Rule : Type 1 where
  -- why it refuses, test, what is asked, the place of a break
  whole : Reason → Bool → Type 0 → ℕ → Rule
  -- why it refuses, how many places, test and what is asked at each
  each : Reason → ℕ → (ℕ → Bool) → (ℕ → Type 0) → Rule

-- what a list of rules says: fine, or a refusal
abbrev pub Ruling : Type 0
Ruling = Result ⊤ Refusal

-- ---- by the tests

-- of two rulings in order, the first if it refuses
abbrev pub or_else : Ruling → Ruling → Ruling
or_else (Ok u) v = v
or_else (Err why) v = Err why

-- what one rule says
unfoldable pub said : Rule → Ruling
said (whole m test asked k) = choose test (Ok tt) (Err (m, k))
said (each m n test asked) = choose (ltb (first_not n test) n) (Err (m, first_not n test)) (Ok tt)

-- the first rule that is broken, at its lowest place
unfoldable pub refusal : List Rule → Ruling
refusal [] = Ok tt
refusal (r ∷ rules) = or_else (said r) (refusal rules)

-- ---- in the paper's words

abbrev pub reason_of : Rule → Reason
reason_of (whole m test asked p) = m
reason_of (each m n test asked) = m

-- rule r is broken at place k
abbrev pub Breaks : Rule → ℕ → Type 0
Breaks (whole m test asked p) k = (k ≡ p) × (asked → ⊥)
Breaks (each m n test asked) k = (k < n) × (asked k → ⊥)

-- reason m with place k is the first that applies, with the lowest place
unfoldable pub Applies : List Rule → Reason → ℕ → Type 0
Applies [] m k = ⊥
Applies (r ∷ rules) m k =
    ((m ≡ reason_of r) × Breaks r k × ((j : ℕ) → Breaks r j → k ≤ j)) ⊎ (((j : ℕ) → Breaks r j → ⊥) × Applies rules m k)

-- all that is asked holds
abbrev pub Holds : Rule → Type 0
Holds (whole m test asked p) = asked
Holds (each m n test asked) = (k : ℕ) → k < n → asked k

unfoldable pub AllHold : List Rule → Type 0
AllHold [] = Unit
AllHold (r ∷ rules) = Holds r × AllHold rules

-- ---- that the two are the same: a test holds exactly where what is asked does

pub record Same (test : Bool) (asked : Type 0) : Type 0 where
  pub holds : test ≡ true → asked
  pub tests : asked → test ≡ true

abbrev pub Says : Rule → Type 0
Says (whole m test asked p) = Same test asked
Says (each m n test asked) = (k : ℕ) → k < n → Same (test k) (asked k)

unfoldable pub AllSay : List Rule → Type 0
AllSay [] = Unit
AllSay (r ∷ rules) = Says r × AllSay rules

-- ---- what follows from a ruling

-- the old value where something is refused, and the new one where all is fine: a refusal writes nothing
abbrev pub unless {ℓ} : {A : Type ℓ} → Ruling → A → A → A
unless (Ok u) old new = new
unless (Err why) old new = old
