-- What the functions of the chances of all lines owe each other; no reader of the promises needs it.
-- Assumes nothing.
use Rattle.std.specs.Prelude.{◌≡◌, Bool, true, false, List, ℕ, ◌<◌, Float, length, get_or, replicate}
use Rattle.std.specs.Float.{nan}
use Rattle.answers.specs.Rules.{Ruling}
use Rattle.answers.specs.Rules.{Rule}
use Rattle.answers.specs.Lent.{lent_rules}
use Rattle.answers.specs.Owed.{RulesDone}
use Rattle.circuit.specs.Record.{kind_at, inputs_before}
use Rattle.circuit.specs.Formed.{WellFormed, Known}
use Rattle.reads.specs.Reads.{reads_of}
use Rattle.reads.specs.Owed.{Sourced, ReadsCounted}
use Rattle.halves.specs.Half.{half}
use Rattle.chances.specs.Exponents.{Exponents, gate_exponents}
use Rattle.exponents.specs.Lines.{exponents, pin_exponents}
use Rattle.control.specs.Promise.{chances_of}

-- ---- one line

-- before the floor
abbrev pub gate_at : List ℕ → ℕ → ℕ → Exponents
gate_at c n k = gate_exponents (kind_at c k) (pin_exponents c n k)

-- the chances of value v of the lines below k are there
abbrev pub ChancesTo : List ℕ → ℕ → Bool → List Float → ℕ → Type 0
ChancesTo c n v chances k = (j : ℕ) → j < k → get_or chances j nan ≡ half (exponents c n j v)

pub record LineReady (c reads : List ℕ) (ones zeros : List Float) (k : ℕ) : Type 0 where
  pub well : WellFormed c (inputs_before c (length ones)) (length ones)
  pub sourced : Sourced c (length ones)
  pub counted : ReadsCounted (length ones) (reads_of c (length ones)) reads
  pub zeros_long : length zeros ≡ length ones
  pub line : k < length ones
  pub ones_are : ChancesTo c (length ones) true ones k
  pub zeros_are : ChancesTo c (length ones) false zeros k

pub record GateReady (c reads : List ℕ) (ones zeros : List Float) (k : ℕ) : Type 0 where
  pub ready : LineReady c reads ones zeros k
  pub gate : kind_at c k ≡ 0 → ⊥

-- ---- all lines

-- an accepted circuit, memory that is all 0, and room for just its chances
pub record FillReady (c reads : List ℕ) (ones zeros : ℕ) : Type 0 where
  pub inputs : ℕ
  pub known : Known c ones inputs
  pub zeros_long : zeros ≡ ones
  pub reads_long : length reads ≡ ones
  pub none_read : reads ≡ replicate (length reads) 0

pub record RoomReady (c : List ℕ) (n ones zeros : ℕ) : Type 0 where
  pub inputs : ℕ
  pub known : Known c n inputs
  pub ones_long : ones ≡ n
  pub zeros_long : zeros ≡ n

pub record Filled (c : List ℕ) (ones zeros : List Float) : Type 0 where
  pub ones_are : ones ≡ chances_of c true
  pub zeros_are : zeros ≡ chances_of c false

-- both memories as one
abbrev pub Memories : Type 0
Memories = List Float × List Float

-- the answer and both afterwards, where these are the rules
abbrev pub ControlledBy : List Rule → List ℕ → List Float → List Float → Ruling → List Float → List Float → Type 0
ControlledBy rules c ones zeros r ones' zeros' =
    RulesDone {M = Memories} rules tt (ones, zeros) (chances_of c true, chances_of c false) r (ones', zeros')

-- for an accepted circuit of n lines
abbrev pub ControlDone : List ℕ → ℕ → List Float → List Float → Ruling → List Float → List Float → Type 0
ControlDone c n ones zeros r ones' zeros' = ControlledBy (lent_rules n (length ones) n (length zeros)) c ones zeros r ones' zeros'
