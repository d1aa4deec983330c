-- What an entry owes C, by the size of the answer area: another than 32 bytes gives 10 and everything stays, else the part's answer and memory.
-- And that an answer allows one result only.
-- Assumes nothing.
use mathlib.Core.Path.{◌≡◌, sym, ◌∙◌}
use mathlib.Core.Bool.{Bool, true, false}
use mathlib.Core.List.{List}
use Prim.Native.Nat.{ℕ}
use lib.Dec.{eqb}
use lib.ListN.{length}
use Rattle.ground.specs.Choose.{choose}
use Rattle.answers.specs.Area.{Numbers, area_of, Entered}

-- ---- an area of another size

pub other_size : {a : List ℕ} (answer : Numbers) → eqb (length a) 32 ≡ false → Entered a answer 10 a
other_size answer e = record { number = rw e; bytes = rw e }

-- lent memory, which is `entered`
pub stays : {A : Type 0} {b : Bool} {old : A} (new : A) → b ≡ false → old ≡ choose b new old
stays new e = rw e

-- ---- an area of 32 bytes

-- the number and the bytes of the answer
pub right_size : {a : List ℕ} (answer : Numbers) {a' : List ℕ}
    → eqb (length a) 32 ≡ true
    → a' ≡ area_of answer.values
    → Entered a answer answer.number a'
right_size answer e p = record { number = rw e; bytes = rw e p }

-- a reply with the numbers of the part's answer, which are those that are promised
pub reported : {a : List ℕ} {reply found answer : Numbers} {r : ℕ} {a' : List ℕ}
    → Entered a reply r a'
    → reply ≡ found
    → found ≡ answer
    → Entered a answer r a'
reported p q k = rw (← (q ∙ k)) p

-- lent memory, which is `entered`
pub becomes : {A : Type 0} {b : Bool} {new now : A} (old : A) → b ≡ true → now ≡ new → now ≡ choose b new old
becomes old e p = rw e p

-- ---- one result

pub one_return : {a : List ℕ} {answer : Numbers} {r s : ℕ} {a' b' : List ℕ}
    → Entered a answer r a'
    → Entered a answer s b'
    → (r ≡ s) × (a' ≡ b')
one_return p q = (p.number ∙ sym q.number, p.bytes ∙ sym q.bytes)
