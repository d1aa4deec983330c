-- What the functions of nets owe each other and their callers; no reader of the promises needs it.
-- Assumes nothing.
use Rattle.std.specs.Prelude.{◌≡◌, List, ◌++◌, map, ℕ, ◌+◌, ◌≤◌, length, Ok, Result}
use Rattle.ground.specs.Put.{laid_on}
use Rattle.answers.specs.Owed.{RulesDone}
use Rattle.answers.specs.Rules.{Rule, refusal}
use Rattle.circuit.specs.Record.{lines_of}
use Rattle.names.specs.Names.{name_rules, name_number}
use Rattle.names.specs.Owed.{Within}
use Rattle.records.specs.Net.{Net, gates_of, placed_of, records_of}
use Rattle.records.specs.Owed.{net_of, Below, NumbersBelow}
use Rattle.nets.specs.Rules.{record_rules, net_rules}
use Rattle.answers.specs.declared.Refusal.{Refusal}

-- the answer and the buffer afterwards, where these are the rules and the records
abbrev pub ReadDone : List Rule → List ℕ → List ℕ → List ℕ → Result ℕ Refusal → Type 0
ReadDone rules records c c' r = RulesDone rules (lines_of records) c (laid_on c records) r c'

-- of records
abbrev pub RecordsDone : List ℕ → List ℕ → List ℕ → Result ℕ Refusal → Type 0
RecordsDone records c c' r = ReadDone (record_rules records (length c)) records c c' r

-- and of a net whose gates find their order: where none of the rules refuses, it is the order
pub record OrderDone (rules : List Rule) (net : Net) (order c c' : List ℕ) (r : Result ℕ Refusal) : Type 0 where
  pub done : ReadDone rules (records_of net) c c' r
  pub order_is : refusal rules ≡ Ok tt → order ≡ placed_of net

abbrev pub NetDone : Net → List ℕ → List ℕ → List ℕ → Result ℕ Refusal → Type 0
NetDone net order c c' r = OrderDone (net_rules net (length c)) net order c c' r

-- so many records, no more than a circuit may have
pub record LayRoom (records : List ℕ) (n : ℕ) : Type 0 where
  pub lines : n ≡ lines_of records
  pub fits : length records ≤ 16384

-- ---- nets

-- tables of one length, and outputs that are gates or inputs
pub record ReadNetReady (net : Net) : Type 0 where
  pub few : gates_of net ≤ 8192
  pub few_inputs : net.inputs ≤ 8192
  pub kinds : length net.kinds ≡ gates_of net
  pub seconds : length net.seconds ≡ gates_of net
  pub output_numbers : NumbersBelow net net.outputs

-- and all gates are placed
pub record ReadOrderReady (net : Net) (order : List ℕ) : Type 0 where
  pub resolved : ReadNetReady net
  pub order_is : order ≡ placed_of net
  pub placed : length order ≡ gates_of net

-- ---- a net whose sources and outputs are names

-- a name is the byte where it begins; each definition has a number
pub record NamedNet : Type 0 where
  pub defs : List ℕ
  pub numbers : List ℕ
  pub inputs : ℕ
  pub kinds : List ℕ
  pub firsts : List ℕ
  pub seconds : List ℕ
  pub outs : List ℕ

abbrev pub named_of : List ℕ → List ℕ → ℕ → List ℕ → List ℕ → List ℕ → List ℕ → NamedNet
named_of defs numbers inputs kinds firsts seconds outs = record {
  defs = defs;
  numbers = numbers;
  inputs = inputs;
  kinds = kinds;
  firsts = firsts;
  seconds = seconds;
  outs = outs;
}

abbrev pub uses_of : NamedNet → List ℕ
uses_of n = n.outs ++ (n.firsts ++ n.seconds)

-- with numbers for names
abbrev pub numbered : List ℕ → NamedNet → Net
numbered t n =
    let number = name_number t n.defs n.numbers in
    net_of n.inputs n.kinds (map number n.firsts) (map number n.seconds) (map number n.outs)

abbrev pub NamesDone : List ℕ → NamedNet → List ℕ → List ℕ → List ℕ → Result ℕ Refusal → Type 0
NamesDone t n order c c' r = OrderDone (name_rules t n.defs (uses_of n) ++ net_rules (numbered t n) (length c)) (numbered t n) order c c' r

-- few of each, names in the text, tables of one length, and numbers that are those of gates and inputs
pub record ReadNamesReady (t : List ℕ) (n : NamedNet) : Type 0 where
  pub short : length t ≤ 32768
  pub few_defs : length n.defs ≤ 8192
  pub few_inputs : n.inputs ≤ 8192
  pub few_gates : length n.firsts ≤ 8192
  pub few_outs : length n.outs ≤ 8192
  pub defs_inside : Within t n.defs
  pub firsts_inside : Within t n.firsts
  pub seconds_inside : Within t n.seconds
  pub outs_inside : Within t n.outs
  pub kinds : length n.kinds ≡ length n.firsts
  pub seconds : length n.seconds ≡ length n.firsts
  pub numbers : length n.numbers ≡ length n.defs
  pub numbers_below : Below n.numbers (n.inputs + length n.firsts)
