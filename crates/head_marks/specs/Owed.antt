-- What the functions that mark the lines owe each other and their callers; no reader of the promises needs it.
-- Assumes nothing.
use Rattle.std.specs.Prelude.{◌≡◌, Bool, true, ◌&&◌, ◌||◌, List, ℕ, suc, ◌<◌, eqb, ltb, length, get_or, replicate}
use Rattle.ground.specs.Choose.{choose, one}
use Rattle.ground.specs.Below.{any_below}
use Rattle.circuit.specs.Record.{pin_at}
use Rattle.circuit.specs.Formed.{WellFormed}
use Rattle.reads.specs.Reads.{reads_of}
use Rattle.reads.specs.Owed.{Sourced, ReadsCounted}
use Rattle.heads.specs.Heads.{some_pin, bound}

-- by the bytes, line i is read twice or bound
unfoldable pub binds : List ℕ → List ℕ → ℕ → Bool
binds reads marks i = eqb (get_or reads i 0) 2 || eqb (get_or marks i 0) 2

-- the mark of a line that is bound or not, and that some bound line reads or none
abbrev pub mark_by : Bool → Bool → ℕ
mark_by b r = choose b 2 (one r)

-- a mark, and the mark once some bound line reads the line
abbrev pub ReadsMore : ℕ → ℕ → Type 0
ReadsMore mark mark' = (b r : Bool) → mark ≡ mark_by b r → mark' ≡ mark_by b true

-- the marks of n lines where `b` says which are bound and `r` which some bound line reads
pub record MarkedBy (n : ℕ) (b r : ℕ → Bool) (marks : List ℕ) : Type 0 where
  pub long : length marks ≡ n
  pub are : (j : ℕ) → j < n → get_or marks j 0 ≡ mark_by (b j) (r j)

-- whatever the marks say, the lines that pass this test are now read by a bound line too
abbrev pub MarksMore : (ℕ → Bool) → List ℕ → List ℕ → Type 0
MarksMore test marks marks' = (b r : ℕ → Bool) → MarkedBy (length marks) b r marks → MarkedBy (length marks) b (λ j. r j || test j) marks'

abbrev pub PinMarked : List ℕ → ℕ → ℕ → List ℕ → List ℕ → Type 0
PinMarked c k s = MarksMore (λ j. eqb (pin_at c k s) j)

abbrev pub SourcesMarked : List ℕ → ℕ → List ℕ → List ℕ → Type 0
SourcesMarked c k = MarksMore (λ j. some_pin c k (λ i. eqb i j))

-- once the lines below k had their turn: line j is one of them and bound; some bound one of them reads it
abbrev pub bound_yet : List ℕ → ℕ → ℕ → ℕ → Bool
bound_yet c n k j = ltb j k && bound c n j

abbrev pub read_yet : List ℕ → ℕ → ℕ → ℕ → Bool
read_yet c n k j = any_below k (λ i. bound c n i && some_pin c i (λ q. eqb q j))

-- the marks then
abbrev pub MarkedTo : List ℕ → ℕ → ℕ → List ℕ → Type 0
MarkedTo c n k = MarkedBy n (bound_yet c n k) (read_yet c n k)

pub record MarkLineReady (c reads : List ℕ) (k n : ℕ) : Type 0 where
  pub inputs : ℕ
  pub well : WellFormed c inputs n
  pub sourced : Sourced c n
  pub counted : ReadsCounted n (reads_of c n) reads
  pub line : k < n

abbrev pub MarkLineDone : List ℕ → ℕ → List ℕ → List ℕ → Type 0
MarkLineDone c k marks marks' = MarkedTo c (length marks) k marks → MarkedTo c (length marks) (suc k) marks'

-- a circuit, and memory that is all 0
pub record MarkReady (c reads marks : List ℕ) : Type 0 where
  pub inputs : ℕ
  pub well : WellFormed c inputs (length marks)
  pub sourced : Sourced c (length marks)
  pub long : length reads ≡ length marks
  pub none_read : reads ≡ replicate (length reads) 0
  pub none_marked : marks ≡ replicate (length marks) 0
