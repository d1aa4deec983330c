-- Each name that is defined has a line of its own in the records, and each line is some name's.
-- Assumes nothing.
use mathlib.Core.Path.{◌≡◌, sym, ap, ◌∙◌}
use mathlib.Core.List.{List}
use Prim.Native.Nat.{ℕ, ◌+◌, ◌<◌}
use Rattle.answers.specs.Rules.{refusal}
use Rattle.forms.specs.Forms.{inputs_to}
use Rattle.names.specs.Names.{name_rules}
use Rattle.records.specs.Net.{gates_of, net_size, net_line, number_on}
use Rattle.netlist.specs.Solved.{Right}
use Rattle.netlist.proofs.Numbers.{line-input, number_cases, line_inside, number_inside, line-number, number-line}
use Rattle.texts.specs.Text.{forms_in, defs_in, uses_in, net_in}
use Rattle.equations.specs.Meaning.{name_on}
use Rattle.equations.specs.Right.{Defined}
use Rattle.equations.specs.Numbers.{name_of, number_for, line_for}
use Rattle.equations.specs.Computes.{OwnLines}
use Rattle.equations.proofs.Tables.{gate-line, input-line}
use Rattle.texts.proofs.Numbers.{size_is}
use Rattle.equations.proofs.RightNet.{number_below}
use Rattle.equations.proofs.SameMeaning.{gate-defines, input-defines, name_of_lem, number_of_gate, number_of_input}
use Rattle.std.specs.Prelude.{Ok}

module _ (t : List ℕ) (none : refusal (name_rules t (defs_in t) (uses_in t)) ≡ Ok tt) where
  -- a name with the number x
  record Named (x : ℕ) : Type 0 where
    word : List ℕ
    is-defined : Defined t word
    is : number_for t word ≡ x

  -- each number of a gate or an input has one
  named : (x : ℕ) → x < net_size (net_in t) → Named x
  named =
      number_cases (net_in t) Named
      (λ j h.
      let n = input-line t h in
      record {
        word = name_on t n.place;
        is-defined = (n.place, input-defines n.line);
        is = number_of_input t none n.line ∙ ap (λ (i : ℕ). gates_of (net_in t) + i) n.before;
      })
      (λ g h.
      let n = gate-line t h in
      record { word = name_on t n.place; is-defined = (n.place, gate-defines n.line); is = number_of_gate t none n.line ∙ n.before })

  module _ (r : Right (net_in t)) where
    -- the number on the line of a name is its number
    pub number-on : (w : List ℕ) → Defined t w → number_on (net_in t) (line_for t w) ≡ number_for t w
    unfolding line_for
    number-on w d = number-line (net_in t) r (number_for t w) (number_below t none w d)

    pub own_lines : OwnLines t
    unfolding line_for
    own_lines = record {
      inside = λ w d. rw (← size_is t) (line_inside (net_in t) r (number_for t w) (number_below t none w d));
      apart = λ v w d e q.
          let z : number_for t v ≡ number_for t w = sym (number-on v d) ∙ ap (number_on (net_in t)) q ∙ number-on w e in
          sym (name_of_lem t none v d) ∙ ap (name_of t) z ∙ name_of_lem t none w e;
      all = λ k l.
          let s : k < net_size (net_in t) = rw (size_is t) l in
          let n = named (number_on (net_in t) k) (number_inside (net_in t) r k s) in
          (n.word, n.is-defined, ap (net_line (net_in t)) n.is ∙ line-number (net_in t) r k s);
      inputs_first = λ k l. ap (net_line (net_in t)) (number_of_input t none l) ∙ line-input (net_in t) (inputs_to (forms_in t) k);
    }
