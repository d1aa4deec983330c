-- The net of a text that is right in syntax and names, and whose gates can all be placed, is right.
-- Assumes nothing.
use mathlib.Core.Path.{◌≡◌, sym, ◌∙◌}
use mathlib.Core.List.{List}
use Prim.Native.Nat.{ℕ, ◌≤◌, ◌<◌}
use lib.ListN.{length, get_or, length-map}
use Rattle.answers.specs.Rules.{refusal}
use Rattle.gates.specs.Gate.{selector}
use Rattle.words.specs.Words.{words_in, ends_in}
use Rattle.syntax.specs.Syntax.{Formed}
use Rattle.statements.proofs.Lengths.{seconds_length, kinds-length}
use Rattle.shape.proofs.Forms.{gate_sources}
use Rattle.names.specs.Names.{name_rules}
use Rattle.order.specs.Order.{cycle_rules}
use Rattle.records.specs.Net.{gates_of, net_size, pin_of}
use Rattle.netlist.specs.Solved.{Right}
use Rattle.texts.proofs.Numbers.{size_is}
use Rattle.texts.specs.Text.{forms_in, defs_in, uses_in, seconds_in, number_in, net_in}
use Rattle.shape.specs.Shape.{word_on}
use Rattle.equations.specs.Meaning.{source_on}
use Rattle.equations.specs.Right.{Defined}
use Rattle.equations.specs.Numbers.{number_for}
use Rattle.equations.proofs.Tables.{gates_are, gate-line, output_line, kind_get, pin_get, output_get, number_inside}
use Rattle.equations.proofs.Names.{names_right, number_of_name}
use Rattle.std.specs.Prelude.{Ok}

module _ (t : List ℕ) where
  kinds_long : length (net_in t).kinds ≡ gates_of (net_in t)
  unfolding net_in
  kinds_long = kinds-length (words_in t) (ends_in t) (forms_in t) t ∙ sym (gates_are t)

  seconds_long : length (net_in t).seconds ≡ gates_of (net_in t)
  unfolding net_in
  seconds_long = length-map (seconds_in t) (number_in t) ∙ seconds_length (words_in t) (ends_in t) (forms_in t) ∙ sym (gates_are t)

  kind_in_lem : Formed t → (g : ℕ) → g < gates_of (net_in t) → (1 ≤ get_or (net_in t).kinds g 0) × (get_or (net_in t).kinds g 0 < selector)
  kind_in_lem f g l = let n = gate-line t l in let w = (gate_sources t f n.place n.line.passes).0 in rw (← n.before, kind_get n.line) (w.some_kind, w.no_selector)

  module _ (none : refusal (name_rules t (defs_in t) (uses_in t)) ≡ Ok tt) where
    -- the number of a name that is defined is a gate's or an input's
    pub number_below : (w : List ℕ) → Defined t w → number_for t w < net_size (net_in t)
    number_below w (k, d) = rw (number_of_name t none d, size_is t) (number_inside d.line)

    pin_below : (g s : ℕ) → g < gates_of (net_in t) → pin_of (net_in t) g s < net_size (net_in t)
    pin_below g s l =
        let n = gate-line t l in
        rw (← n.before, pin_get n.line s) (number_below (source_on t n.place s) ((names_right t none).sources n.place n.line s))

    output_below : (i : ℕ) → i < length (net_in t).outputs → get_or (net_in t).outputs i 0 < net_size (net_in t)
    output_below i l =
        let n = output_line t l in
        rw (← n.before, output_get n.line) (number_below (word_on t n.place 1) ((names_right t none).outputs n.place n.line))

    pub right_net : Formed t → refusal (cycle_rules (net_in t).firsts (net_in t).seconds) ≡ Ok tt → Right (net_in t)
    unfolding pin_of
    right_net f placed = record {
      kinds_long = kinds_long;
      seconds_long = seconds_long;
      some_kind = λ g l. (kind_in_lem f g l).0;
      no_selector = λ g l. (kind_in_lem f g l).1;
      firsts_inside = λ g l. pin_below g 1 l;
      seconds_inside = λ g l. pin_below g 2 l;
      outputs_inside = output_below;
      placed = placed;
    }
