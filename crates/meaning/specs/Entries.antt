-- What an entry of the dictionary says about complete input vectors.
-- Assumes nothing.
use Rattle.std.specs.Prelude.{◌≡◌, ◌↔◌, true, List, ℕ, ◌<◌, get_or}
use Rattle.circuit.specs.Record.{is_output}
use Rattle.lists.specs.declared.Fault.{Fault}
use Rattle.simulate.specs.Boolean.{Vector, Detects, good, faulty, truth_at}
use Rattle.simulate.specs.Vectors.{NoX, Fills}
use Rattle.simulate.specs.Work.{good_of}
use Rattle.tables.specs.Entries.{pass, fail, unknown}

-- line k is a compared output: its good value under the pattern p itself is known
pub record Compared (c p : List ℕ) (n k : ℕ) : Type 0 where
  pub inside : k < n
  pub output : is_output c k ≡ true
  pub known : get_or (good_of c p n) k 0 < 2

-- under the vector x good and faulty truth of line k are equal
abbrev pub EqualAt : List ℕ → Fault → ℕ → Vector → ℕ → Type 0
EqualAt c fault n x k = truth_at good c x n k ≡ truth_at (faulty fault) c x n k

-- the pattern p exposes the fault: under every filling of its X's good and faulty truth differ, at one and the same compared output
pub record Exposes (c : List ℕ) (fault : Fault) (n : ℕ) (p : List ℕ) : Type 0 where
  pub line : ℕ
  pub compared : Compared c p n line
  pub differ : (x : Vector) → Fills p x → EqualAt c fault n x line → ⊥

-- the pattern p clears the fault: under no filling does a compared output differ
abbrev pub Clears : List ℕ → Fault → ℕ → List ℕ → Type 0
Clears c fault n p = (x : Vector) → Fills p x → (k : ℕ) → Compared c p n k → EqualAt c fault n x k

-- e, as the entry of the pattern p and a fault in a circuit of n lines
pub record Means (e : ℕ) (c : List ℕ) (fault : Fault) (n : ℕ) (p : List ℕ) : Type 0 where
  -- where the entry is fail, every filling of the X's detects the fault, and more: at one and the same compared output
  pub each_detects : e ≡ fail → (x : Vector) → Fills p x → Detects c fault n x
  pub exposes : e ≡ fail → Exposes c fault n p
  -- where it is pass, under no filling does a compared output differ
  pub clears : e ≡ pass → Clears c fault n p
  -- a pattern without X never gives unknown, and its entry is pass exactly if it does not detect the fault
  pub decided : NoX p → e ≡ unknown → ⊥
  pub undetected : NoX p → (x : Vector) → Fills p x → (e ≡ pass) ↔ (Detects c fault n x → ⊥)
