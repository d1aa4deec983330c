-- The records say of each name what the text says: its kind, and the lines of its sources' names.
-- Assumes nothing.
use mathlib.Core.Path.{◌≡◌, ap, ◌∙◌}
use mathlib.Core.List.{List}
use Prim.Native.Nat.{ℕ, ◌≤◌, ◌<◌}
use native.Mathlib.Omega.{arith}
use borrow.Author.Tests.{lt-ltb, le-ltb, le-leb}
use Rattle.answers.specs.Rules.{refusal}
use Rattle.gates.specs.Gate.{pins_of}
use Rattle.gates.proofs.Laws.{few_pins}
use Rattle.forms.specs.Forms.{says_input, says_gate, gates_to}
use Rattle.names.specs.Names.{name_rules}
use Rattle.records.specs.Net as net
use Rattle.records.specs.Net.{net_size, net_line, number_on, records_of}
use Rattle.netlist.specs.Solved.{Right}
use Rattle.netlist.proofs.Numbers.{line-gate}
use Rattle.netlist.proofs.Fields.{net_kind_lem, net_pin}
use Rattle.texts.specs.Text.{forms_in, defs_in, uses_in, net_in}
use Rattle.equations.specs.Meaning.{name_on, kind_on, source_on}
use Rattle.equations.specs.Right.{Line, Defined}
use Rattle.equations.specs.Numbers.{line_for}
use Rattle.equations.specs.Computes.{OwnLines, OwnRecords}
use Rattle.equations.proofs.Tables.{counted, gates_are, inputs_are, kind_get, pin_get}
use Rattle.texts.proofs.Numbers.{size_is}
use Rattle.equations.proofs.SameMeaning.{gate-defines, input-defines, number_of_gate}
use Rattle.equations.proofs.Lines.{number-on, own_lines}
use Rattle.std.specs.Prelude.{Ok}

module _ (t : List ℕ) (none : refusal (name_rules t (defs_in t) (uses_in t)) ≡ Ok tt) (r : Right (net_in t)) (few : net_size (net_in t) ≤ 65536) where
  own : OwnLines t
  own = own_lines t none r

  inside : (w : List ℕ) → Defined t w → line_for t w < net_size (net_in t)
  inside w d = rw (size_is t) (own.inside w d)

  -- ---- an input

  input_kind : (k : ℕ) → Line says_input t k → net.net_kind (net_in t) (line_for t (name_on t k)) ≡ 0
  unfolding net.net_kind
  input_kind k l =
      let e : line_for t (name_on t k) < (net_in t).inputs = omega (arith, own.inputs_first k l, counted l, inputs_are t) in
      rw (lt-ltb (line_for t (name_on t k)) (net_in t).inputs e)

  -- ---- a gate

  module _ (k : ℕ) (l : Line says_gate t k) where
    number_is : number_on (net_in t) (line_for t (name_on t k)) ≡ gates_to (forms_in t) k
    number_is = number-on t none r (name_on t k) (k, gate-defines l) ∙ number_of_gate t none l

    -- its line stands behind the inputs'
    behind : (net_in t).inputs ≤ line_for t (name_on t k)
    unfolding line_for
    behind =
        let e = ap (net_line (net_in t)) (number_of_gate t none l) ∙ line-gate (net_in t) (gates_to (forms_in t) k) (rw (gates_are t) (counted l)) in
        omega (arith, e)

    gate_kind : net.net_kind (net_in t) (line_for t (name_on t k)) ≡ kind_on t k
    unfolding net.net_kind
    gate_kind = rw (le-ltb (line_for t (name_on t k)) (net_in t).inputs behind, number_is) (kind_get l)

    gate-pin : (s : ℕ) → s ≤ pins_of (kind_on t k) → net.net_source (net_in t) (line_for t (name_on t k)) s ≡ line_for t (source_on t k s)
    unfolding net.net_source line_for
    gate-pin s h = rw (gate_kind, le-leb s (pins_of (kind_on t k)) h, number_is, pin_get l s)

  pub own_records : OwnRecords t (records_of (net_in t))
  own_records = record {
    input = λ k l. net_kind_lem (net_in t) (line_for t (name_on t k)) (inside (name_on t k) (k, input-defines l)) ∙ input_kind k l;
    kind = λ k l. net_kind_lem (net_in t) (line_for t (name_on t k)) (inside (name_on t k) (k, gate-defines l)) ∙ gate_kind k l;
    pin = λ k l s a b.
        net_pin (net_in t) (line_for t (name_on t k)) (inside (name_on t k) (k, gate-defines l)) r few s a (omega (arith, few_pins (kind_on t k)))
        ∙ gate-pin k l s b;
  }
