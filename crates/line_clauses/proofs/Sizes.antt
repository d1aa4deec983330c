-- How much the clauses of a line take: what the kinds of its two gates do.
-- Assumes nothing.
use mathlib.Core.Path.{◌≡◌}
use mathlib.Core.Bool.{Bool, true, false}
use mathlib.Core.List.{List}
use Prim.Native.Nat.{ℕ, ◌+◌, ◌≤◌}
use native.Mathlib.Omega.{arith}
use lib.ListN.{length, length-append}
use Rattle.ground.specs.Choose.{choose}
use Rattle.gates.specs.Gate.{last_kind}
use Rattle.circuit.specs.Record.{kind_at, is_input}
use Rattle.lists.specs.declared.Fault.{Fault}
use Rattle.cnf.specs.declared.Size.{Size}
use Rattle.cnf.specs.Cnf.{Clauses}
use Rattle.cnf.specs.Table.{clause_table, gate_clauses}
use Rattle.cnf.specs.Owed.{size_of, Takes}
use Rattle.cnf.proofs.Sizes.{size_append, gate_size, gate-length, few}
use Rattle.lists.specs.Faults.{is_at}
use Rattle.line_clauses.specs.Clauses.{faulty_site, good_var, faulty_var, stuck_var, buffer_clauses, good_clauses, faulty_clauses}
use Rattle.line_clauses.specs.Owed.{faulty_kind, LineSizeDone}

-- clauses that take what a row of the clause_table does
record Row (kind : ℕ) (cs : Clauses) : Type 0 where
  size : size_of cs ≡ size_of (clause_table kind)
  count : length cs ≡ length (clause_table kind)

row : (kind : ℕ) (number : ℕ → ℕ) → Row kind (gate_clauses kind number)
row kind number = record { size = gate_size kind number; count = gate-length kind number }

good-row : (c : List ℕ) (k : ℕ) → Row (kind_at c k) (good_clauses c k)
unfolding good_clauses
good-row c k = row (kind_at c k) _

faulty-row : (c : List ℕ) (f : Fault) (n k : ℕ) → Row (faulty_kind c f k) (faulty_clauses c f n k)
unfolding faulty_clauses faulty_kind
faulty-row c f n k = go (is_at f k 0) (is_input c k)
  where
    -- by whether the line is stuck itself, and is an input
    go : (s t : Bool)
        → Row (choose s 1 (choose t 1 (kind_at c k)))
        (choose s (buffer_clauses (faulty_var k) (stuck_var n))
        (choose t (buffer_clauses (faulty_var k) (good_var k))
        (gate_clauses (kind_at c k) (faulty_site c f n k))))
    go true t = row 1 _
    go false true = row 1 _
    go false false = row (kind_at c k) _

pub line-takes : {c : List ℕ} {f : Fault} {n k : ℕ} (good faulty : ℕ) {g h : Size}
    → good ≡ kind_at c k
    → Takes (clause_table good) g
    → good ≤ last_kind
    → faulty ≡ faulty_kind c f k
    → Takes (clause_table faulty) h
    → faulty ≤ last_kind
    → LineSizeDone c f n k (record { words = g.words + h.words; clauses = g.clauses + h.clauses })
line-takes {c} {f} {n} {k} good faulty {g} {h} e p l d q m = record {
  takes = record {
    words = rw (size_append, (good-row c k).size, (faulty-row c f n k).size, ← e, ← d, p.words, q.words);
    clauses = rw (length-append, (good-row c k).count, (faulty-row c f n k).count, ← e, ← d, p.clauses, q.clauses);
  };
  few_words = omega (arith, (few good l).0, (few faulty m).0, p.words, q.words);
  few_clauses = omega (arith, (few good l).1, (few faulty m).1, p.clauses, q.clauses);
}
