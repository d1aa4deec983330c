-- The entry of a pattern and a fault, from the good values g and the faulty values f of the n lines of a circuit c.
-- Assumes nothing.
use Rattle.std.specs.Prelude.{Bool, not, ◌&&◌, ◌||◌, List, ℕ, eqb, get_or}
use Rattle.ground.specs.Choose.{choose}
use Rattle.ground.specs.Below.{all_below, any_below}
use Rattle.gates.specs.Gate.{known}
use Rattle.circuit.specs.Record.{is_output}
use Rattle.lists.specs.declared.Fault.{Fault}
use Rattle.simulate.specs.Simulate.{Forcing, stuck_at, values_to}
use Rattle.simulate.specs.Work.{good_of}
use Rattle.tables.specs.Entries.{pass, fail, unknown}

-- a test of a line's good and faulty value
abbrev pub Test : Type 0
Test = ℕ → ℕ → Bool

-- both are known, and they differ
unfoldable pub differ : Test
differ a b = known a && (known b && not (eqb a b))

-- both are known and equal
unfoldable pub agree : Test
agree a b = known a && (known b && eqb a b)

-- where the good one is known, they agree; where it is X, a tester can't expect anything and masks the output
unfoldable pub as_expected : Test
as_expected a b = not (known a) || agree a b

-- at some output
abbrev pub some_output : Test → List ℕ → List ℕ → List ℕ → ℕ → Bool
some_output t c g f n = any_below n (λ k. is_output c k && t (get_or g k 0) (get_or f k 0))

-- at every output
abbrev pub every_output : Test → List ℕ → List ℕ → List ℕ → ℕ → Bool
every_output t c g f n = all_below n (λ k. not (is_output c k) || t (get_or g k 0) (get_or f k 0))

-- fail if at some output both are known and differ; pass if at every output they pass the test; otherwise unknown
unfoldable pub entry_by : Test → List ℕ → List ℕ → List ℕ → ℕ → ℕ
entry_by t c g f n = choose (some_output differ c g f n) fail (choose (every_output t c g f n) pass unknown)

-- the dictionary's entry: pass if every output is as expected
abbrev pub entry_of : List ℕ → List ℕ → List ℕ → ℕ → ℕ
entry_of c g f n = entry_by as_expected c g f n

-- of the pattern p, where the faulty circuit is the one in which f is forced
unfoldable pub entry_under : Forcing → List ℕ → List ℕ → ℕ → ℕ
entry_under f c p n = entry_of c (good_of c p n) (values_to f c p n) n

-- of the pattern p and a fault
abbrev pub entry_at : Fault → List ℕ → List ℕ → ℕ → ℕ
entry_at fault c p n = entry_under (stuck_at fault) c p n
