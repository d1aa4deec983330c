-- Every marked example holds: the definitions are computed, and give what the clause_table says.
-- Assumes nothing.
use mathlib.Core.Path.{refl}
use Rattle.ground.specs.Below.{count_below, first_not}
use Rattle.ground.specs.Lists.{grow}
use Rattle.answers.specs.Rules.{said, refusal}
use Rattle.answers.specs.Records.{records_ok}
use Rattle.answers.specs.Small.{small_ok}
use Rattle.gates.specs.Gate.{pins_of, gate_table, three_of, gate_of}
use Rattle.little.specs.Little.{pair_at}
use Rattle.answers.specs.Lent.{lent_rules}
use Rattle.circuit.specs.Layout.{pin_ok, field_ok, line_ok}
use Rattle.circuit.specs.Promise.{layout_rules, count_rules, check_of}
use Rattle.lists.specs.Faults.{fault_at, fault_ok, fault_rules}
use Rattle.lists.specs.Patterns.{pattern_rules}
use Rattle.simulate.specs.Simulate.{stuck_at, gate_value, line_value}
use Rattle.entry.specs.Entry.{differ, agree, as_expected, entry_by, entry_under}
use Rattle.rows.specs.Table.{table_under}
use Rattle.needs.specs.Needs.{tells, lost, lost_pair, lacks, turn, turns, compacted}
use Rattle.tables.specs.Table.{sizes_ok, table_rules}
use Rattle.tables.specs.Marks.{marks_rules}
use Rattle.decimals.specs.Digits.{digits}
use Rattle.letters.specs.Text.{letter_of, mark_of}
use Rattle.listing.specs.Promise.{output_of}
use Rattle.nodes.specs.Node.{count_x, first_x, fill}
use Rattle.nodes.specs.Order.{order, upto, found, test_in}
use Rattle.nodes.specs.Budget.{verdict_in}
use Rattle.sides.specs.Look.{look_of}
use Rattle.search.specs.Promise.{verdict_for, test_for}
use Rattle.cnf.specs.Cnf.{decode_from}
use Rattle.cnf.specs.Table.{clause_table, gate_clauses}
use Rattle.line_clauses.specs.Clauses.{good_clauses, faulty_clauses, difference_clauses, clauses_of}
use Rattle.clauses.specs.Promise.{room_rules, words_for, written_of}
use Rattle.marked.specs.Example.{AllYield}
use Rattle.marked.specs.Marked.{stuck, inverter, marked}
use Rattle.marked.proofs.Solve.{only_solution, solved}

infixr 4 ◌and◌
abbrev ◌and◌ : {A B : Type 0} → A → B → A × B
◌and◌ a b = (a, b)

-- row by row; the one about all assignments by computing it for every set of true variables
-- what is computed: rules; circuits and lists; the dictionary; the compactor; the listing; the search; clauses
pub all_hold : AllYield marked
unfolding count_below first_not said refusal records_ok small_ok lent_rules
    pair_at pins_of gate_table three_of gate_of pin_ok field_ok line_ok layout_rules count_rules check_of fault_ok fault_rules pattern_rules
    stuck_at gate_value line_value grow differ agree as_expected entry_by entry_under table_under
    tells lost lost_pair lacks turn turns compacted sizes_ok table_rules marks_rules
    digits letter_of mark_of output_of
    count_x first_x fill order upto found test_in verdict_in look_of verdict_for test_for
    decode_from clause_table gate_clauses good_clauses faulty_clauses difference_clauses clauses_of room_rules written_of only_solution
all_hold =
    refl
    and (refl, refl)
    and (refl, refl)
    and (refl, refl)
    and (refl, refl)
    and (refl, refl)
    and (refl, refl)
    and (refl, refl)
    and (refl, refl)
    and refl
    and refl
    and solved 6 (words_for inverter (fault_at (stuck 1 0) 0)) _ refl refl
    and refl
    and refl
    and refl
    and refl
    and tt
