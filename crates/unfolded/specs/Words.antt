-- The unfolded circuit in the request's words; the definition is proved to say the same.
-- Assumes nothing.
use Rattle.std.specs.Prelude.{◌≡◌, List, ℕ, suc, ◌+◌, ◌*◌, ◌≤◌, ◌<◌, length, get_or}
use Rattle.gates.specs.Gate.{pins_of}
use Rattle.circuit.specs.Record.{lines_of, kind_at, out_at, pin_at}
use Rattle.states.specs.States.{state_count, data_line, state_line}
use Rattle.states.specs.Rules.{lines_after}

-- line m is a state line; it is a data line
abbrev pub StateLine : List ℕ → ℕ → Type 0
StateLine st m = (r : ℕ) × (r < state_count st) × (state_line st r ≡ m)

abbrev pub DataLine : List ℕ → ℕ → Type 0
DataLine st m = (r : ℕ) × (r < state_count st) × (data_line st r ≡ m)

-- the record at line l of u is that of line m, with the sources that its kind has so many lines further on, and 0 for one that it lacks
pub record Moved (c u : List ℕ) (l m further : ℕ) : Type 0 where
  pub kind : kind_at u l ≡ kind_at c m
  pub has : (s : ℕ) → 1 ≤ s → s ≤ pins_of (kind_at c m) → pin_at u l s ≡ further + pin_at c m s
  pub lacks : (s : ℕ) → pins_of (kind_at c m) < s → s ≤ 3 → pin_at u l s ≡ 0

-- line l of u is a buffer of this line
pub record BufferOf (u : List ℕ) (l from : ℕ) : Type 0 where
  pub kind : kind_at u l ≡ 1
  pub first : pin_at u l 1 ≡ from
  pub second : pin_at u l 2 ≡ 0
  pub third : pin_at u l 3 ≡ 0

-- u is the circuit c with the state records st, unfolded over k steps
pub record Unfolds (c st : List ℕ) (k : ℕ) (u : List ℕ) : Type 0 where
  -- bytes, and as many as the records of k N lines have
  pub bytes : (b : ℕ) → get_or u b 0 < 256
  pub size : length u ≡ 8 * lines_after c k
  -- the first step is the circuit
  pub first : (m : ℕ) → m < lines_of c → Moved c u m m 0
  -- a state line of a later step is a buffer of its data line one step earlier
  pub state : (i r : ℕ) → suc i < k → r < state_count st → BufferOf u (suc i * lines_of c + state_line st r) (i * lines_of c + data_line st r)
  -- and every other line is what it was, within its step
  pub other : (i m : ℕ) → suc i < k → m < lines_of c → (StateLine st m → ⊥) → Moved c u (suc i * lines_of c + m) m (suc i * lines_of c)
  -- outputs of all steps stay, data lines of the last step become outputs, and there are no others
  pub stays : (i m : ℕ) → i < k → m < lines_of c → out_at c m ≡ 1 → out_at u (i * lines_of c + m) ≡ 1
  pub becomes : (i m : ℕ) → suc i ≡ k → m < lines_of c → DataLine st m → out_at u (i * lines_of c + m) ≡ 1
  pub none : (i m : ℕ) → i < k → m < lines_of c → (out_at c m ≡ 1 → ⊥) → (suc i ≡ k → DataLine st m → ⊥) → out_at u (i * lines_of c + m) ≡ 0
