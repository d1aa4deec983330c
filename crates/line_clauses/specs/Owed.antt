-- What the functions of the clauses of a line owe each other and their callers; no reader of the promises needs it.
-- Assumes nothing.
use Rattle.std.specs.Prelude.{◌≡◌, List, ◌++◌, ℕ, ◌+◌, ◌≤◌, ◌<◌, ℤ, length}
use Rattle.ground.specs.Choose.{choose}
use Rattle.circuit.specs.Record.{lines_of, kind_at, is_input, outputs_before}
use Rattle.circuit.specs.Formed.{Good}
use Rattle.lists.specs.declared.Fault.{Fault}
use Rattle.cnf.specs.declared.Size.{Size}
use Rattle.cnf.specs.Cnf.{Clauses, words_of}
use Rattle.cnf.specs.Owed.{Takes}
use Rattle.lists.specs.Faults.{is_at}
use Rattle.line_clauses.specs.Clauses.{good_clauses, faulty_clauses, difference_clauses}

-- ---- the circuit and its lines

-- an accepted circuit of n lines
pub record CircuitReady (c : List ℕ) (n : ℕ) : Type 0 where
  pub good : Good c
  pub lines : n ≡ lines_of c
  pub few : n ≤ 2048

-- a line of it
pub record LineReady (c : List ℕ) (n k : ℕ) : Type 0 where
  pub circuit : CircuitReady c n
  pub inside : k < n

-- a line that is a gate
pub record GateReady (c : List ℕ) (n k : ℕ) : Type 0 where
  pub line : LineReady c n k
  pub gate : kind_at c k ≡ 0 → ⊥

-- ---- what is taken

-- the kind of the gate that writes a faulty line's clauses
unfoldable pub faulty_kind : List ℕ → Fault → ℕ → ℕ
faulty_kind c f k = choose (is_at f k 0) 1 (choose (is_input c k) 1 (kind_at c k))

pub record LineSizeDone (c : List ℕ) (f : Fault) (n k : ℕ) (r : Size) : Type 0 where
  pub takes : Takes (good_clauses c k ++ faulty_clauses c f n k) r
  pub few_words : r.words ≤ 32
  pub few_clauses : r.clauses ≤ 8

-- ---- room from `at` on

pub record LineClausesReady (c : List ℕ) (n k : ℕ) (cs : Clauses) (w : List ℤ) (at : ℕ) : Type 0 where
  pub line : LineReady c n k
  pub room : at + length (words_of cs) ≤ length w

-- for the difference at line k, below which j outputs stand
pub record DifferenceReady (c : List ℕ) (n k j : ℕ) (w : List ℤ) (at : ℕ) : Type 0 where
  pub own : LineClausesReady c n k (difference_clauses c n k) w at
  pub below : j ≡ outputs_before c k
  pub few : j ≤ n
