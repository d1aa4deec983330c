-- What the functions of the simulation owe each other and their callers; no reader of the promises needs it.
-- Assumes nothing.
use Rattle.std.specs.Prelude.{◌≡◌, true, List, ℕ, ◌+◌, ◌*◌, ◌≤◌, ◌<◌, length, get_or, take}
use Rattle.ground.specs.Choose.{choose}
use Rattle.gates.specs.Gate.{last_kind}
use Rattle.gates.specs.Owed.{SourcesSmall}
use Rattle.circuit.specs.Record.{kind_at, pin_at, is_input, inputs_before}
use Rattle.circuit.specs.Formed.{Lower}
use Rattle.lists.specs.declared.Fault.{Fault}
use Rattle.simulate.specs.Simulate.{Forcing, stuck_at, gate_value, values_to}
use Rattle.simulate.specs.Work.{good_of, both_under}

-- so many lines, every gate above its sources; a line whose kind has no rule is X, and its sources are just lines
pub record Ordered (c : List ℕ) (n : ℕ) : Type 0 where
  pub size : length c ≡ 8 * n
  pub inside : (k : ℕ) → k < n → (kind_at c k ≡ 0 → ⊥) → (s : ℕ) → 1 ≤ s → s ≤ 3 → pin_at c k s < n
  pub lower : (k : ℕ) → k < n → (kind_at c k ≡ 0 → ⊥) → kind_at c k ≤ last_kind → Lower c k

-- and so many of them inputs
pub record Shaped (c : List ℕ) (inputs n : ℕ) : Type 0 where
  pub ordered : Ordered c n
  pub inputs_are : inputs_before c n ≡ inputs

-- each value of a list is 0, 1 or X
abbrev pub AllSmall : List ℕ → Type 0
AllSmall vs = (i : ℕ) → get_or vs i 0 ≤ 2

-- a circuit of n lines, a pattern for it, and room for two values a line
pub record GoodValuesReady (c p : List ℕ) (n room : ℕ) : Type 0 where
  pub shaped : Shaped c (length p) n
  pub small : AllSmall p
  pub two : room ≡ n + n

-- the same circuit and room, and a fault on one of the lines, which is stuck at 0 or 1
pub record FaultyValuesReady (c : List ℕ) (fault : Fault) (n room : ℕ) : Type 0 where
  pub ordered : Ordered c n
  pub two : room ≡ n + n
  pub line : fault.line < n
  pub value : fault.value ≤ 1

-- what an input's line is set to before its turn, where i inputs stand below it; a gate's line is X until its turn
unfoldable pub input_or : List ℕ → List ℕ → ℕ → ℕ → ℕ
input_or c p k i = choose (is_input c k) (get_or p i 0) 2

-- the value of line k, where vs has the values below it and an input's own
unfoldable pub line_in : Forcing → List ℕ → List ℕ → ℕ → ℕ
line_in f c vs k = f k 0 (choose (is_input c k) (get_or vs k 0) (gate_value f c vs k))

-- the first two pins of the gate at line k see 0, 1 or X, if it has a rule
abbrev pub PinsSmall : Forcing → List ℕ → List ℕ → ℕ → Type 0
PinsSmall f c vs k = (kind_at c k ≡ 0 → ⊥) → SourcesSmall (kind_at c k) (f k 1 (get_or vs (pin_at c k 1) 0)) (f k 2 (get_or vs (pin_at c k 2) 0))

-- each input's line from k on holds its value of the pattern p
abbrev pub InputsFrom : List ℕ → List ℕ → List ℕ → ℕ → Type 0
InputsFrom c p vs k = (j : ℕ) → k ≤ j → j < length vs → is_input c j ≡ true → get_or vs j 0 ≡ get_or p (inputs_before c j) 0

-- the lines below k have their values, and the inputs above theirs
pub record SimulatedTo (f : Forcing) (c p vs : List ℕ) (k : ℕ) : Type 0 where
  pub done : take k vs ≡ values_to f c p k
  pub inputs : InputsFrom c p vs k

-- a forcing that leaves every line from start on, and below end, alone
abbrev pub Leaves : Forcing → ℕ → ℕ → Type 0
Leaves f start end = (l s v : ℕ) → start ≤ l → l < end → f l s v ≡ v

-- a forcing that makes no value below b one from b on
abbrev pub Keeps : ℕ → Forcing → Type 0
Keeps b f = (k s x : ℕ) → x < b → f k s x < b

-- which forcings and patterns a simulation is for: all of them, or those that bring no other values than 0, 1 and X
abbrev pub Scope : Type 1
Scope = Forcing → List ℕ → Type 0

abbrev pub Any : Scope
Any f p = Unit {0}

pub record ThreeValued (f : Forcing) (p : List ℕ) : Type 0 where
  pub keeps : Keeps 3 f
  pub pattern : AllSmall p

-- where the lines below start are settled, under a pattern and a forcing in scope that leaves those from there to end alone, so are in vs' all below end
abbrev pub SimulateDone : Scope → List ℕ → List ℕ → ℕ → ℕ → List ℕ → Type 0
SimulateDone scope c vs start end vs' =
    (f : Forcing) (p : List ℕ) → scope f p → Leaves f start end → SimulatedTo f c p vs start → SimulatedTo f c p vs' end

-- the same from the fault's line on, of a forcing that shows there what the fault shows
abbrev pub SimulateFaultDone : Scope → Fault → List ℕ → List ℕ → ℕ → List ℕ → Type 0
SimulateFaultDone scope fault c vs end vs' =
    (f : Forcing) (p : List ℕ)
    → scope f p
    → ((s v : ℕ) → f fault.line s v ≡ stuck_at fault fault.line s v)
    → Leaves f (fault.line + 1) end
    → SimulatedTo f c p vs fault.line
    → SimulatedTo f c p vs' end

-- where vs has the good values, under whatever pattern in scope, vs' has those that the forcing f makes
abbrev pub ForcedDone : Scope → Forcing → List ℕ → List ℕ → List ℕ → Type 0
ForcedDone scope f c vs vs' = (p : List ℕ) → scope f p → vs ≡ good_of c p (length vs) → vs' ≡ values_to f c p (length vs)

-- lines below an end, and the fault's line is one of them
pub record EndInside (fault : Fault) (lines end : ℕ) : Type 0 where
  pub at_most : end ≤ lines
  pub line : fault.line < end

-- steps of so many lines; the fault is on a line of the first
pub record StepsReady (fault : Fault) (step lines : ℕ) : Type 0 where
  pub line : fault.line < step
  pub inside : step ≤ lines
  pub most : lines ≤ 2048

-- where the first half of w has the good values, under whatever pattern of 0, 1 and X, w' has these and then those that the forcing f makes
abbrev pub ForcedValuesDone : Forcing → List ℕ → ℕ → List ℕ → List ℕ → Type 0
ForcedValuesDone f c n w w' = (p : List ℕ) → AllSmall p → take n w ≡ good_of c p n → w' ≡ both_under f c p n
