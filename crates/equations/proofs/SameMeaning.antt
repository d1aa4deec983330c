-- A text and its net mean the same: what solves the one solves the other, by the number of each name.
-- Assumes nothing.
use mathlib.Core.Path.{◌≡◌, refl, sym, ap, ◌∙◌, fun_ext}
use mathlib.Core.Bool.{or-true}
use mathlib.Core.List.{List}
use Prim.Native.Nat.{ℕ, ◌+◌}
use Rattle.answers.specs.Rules.{refusal}
use Rattle.forms.specs.Forms.{says_input, says_gate, gates_to, inputs_to}
use Rattle.names.specs.Names.{name_rules}
use Rattle.records.specs.Net.{gates_of, pin_of}
use Rattle.netlist.specs.Solved.{Solved}
use Rattle.texts.specs.Text.{forms_in, defs_in, uses_in, net_in}
use Rattle.equations.specs.Meaning.{name_on, kind_on, source_on, Solves}
use Rattle.equations.specs.Right.{Line, Defined, Defines}
use Rattle.equations.specs.Numbers.{name_of, number_for}
use Rattle.equations.proofs.Tables.{counted, gates_are, inputs_are, gate-line, input-line, kind_get, pin_get, gate-number, input-number, name_of_number}
use Rattle.equations.proofs.Names.{names_right, number_of_name}
use Rattle.std.specs.Prelude.{Ok}

-- a gate's line and an input's define a name
pub gate-defines : {t : List ℕ} {k : ℕ} → Line says_gate t k → Defines t k (name_on t k)
gate-defines l = record { line = record { inside = l.inside; passes = rw (l.passes, or-true) }; is = refl }

pub input-defines : {t : List ℕ} {k : ℕ} → Line says_input t k → Defines t k (name_on t k)
input-defines l = record { line = record { inside = l.inside; passes = rw l.passes }; is = refl }

module _ (t : List ℕ) (none : refusal (name_rules t (defs_in t) (uses_in t)) ≡ Ok tt) where
  -- the name of the number of a name that is defined
  pub name_of_lem : (w : List ℕ) → Defined t w → name_of t (number_for t w) ≡ w
  name_of_lem w (k, d) = ap (name_of t) (number_of_name t none d) ∙ name_of_number d.line ∙ d.is

  module _ {k : ℕ} where
    pub number_of_gate : Line says_gate t k → number_for t (name_on t k) ≡ gates_to (forms_in t) k
    number_of_gate l = number_of_name t none (gate-defines l) ∙ gate-number l

    pub name_of_gate : Line says_gate t k → name_of t (gates_to (forms_in t) k) ≡ name_on t k
    name_of_gate l = ap (name_of t) (sym (number_of_gate l)) ∙ name_of_lem (name_on t k) (k, gate-defines l)

    pub number_of_input : Line says_input t k → number_for t (name_on t k) ≡ gates_of (net_in t) + inputs_to (forms_in t) k
    number_of_input l = number_of_name t none (input-defines l) ∙ rw (gates_are t) (input-number l)

    name_of_input : Line says_input t k → name_of t (gates_of (net_in t) + inputs_to (forms_in t) k) ≡ name_on t k
    name_of_input l = ap (name_of t) (sym (number_of_input l)) ∙ name_of_lem (name_on t k) (k, input-defines l)

    -- the name at a pin of the net is the source's in the text
    pub name_of_pin : Line says_gate t k → (s : ℕ) → name_of t (pin_of (net_in t) (gates_to (forms_in t) k) s) ≡ source_on t k s
    name_of_pin l s = ap (name_of t) (pin_get l s) ∙ name_of_lem (source_on t k s) ((names_right t none).sources k l s)

  module _ {A : Type 0} {gate : ℕ → (ℕ → A) → A} {inputs : ℕ → A} where
    -- from the text to the net
    pub net_solved : {value : List ℕ → A} → Solves gate t inputs value → Solved gate (net_in t) inputs (λ x. value (name_of t x))
    net_solved {value} s = record {
      given = λ j h.
          let n = input-line t h in
          rw (← n.before) (ap value (name_of_input n.line) ∙ s.given n.place n.line.inside n.line.passes);
      equation = λ g h.
          let n = gate-line t h in
          rw (← n.before, kind_get n.line)
          (ap value (name_of_gate n.line)
          ∙ s.equation n.place n.line.inside n.line.passes
          ∙ ap (gate (kind_on t n.place)) (fun_ext (λ i. ap value (sym (name_of_pin n.line i)))));
    }

    -- and back
    pub text_solves : {v : ℕ → A} → Solved gate (net_in t) inputs v → Solves gate t inputs (λ w. v (number_for t w))
    text_solves {v} s = record {
      given = λ k h e.
          let l : Line says_input t k = record { inside = h; passes = e } in
          ap v (number_of_input l) ∙ s.given (inputs_to (forms_in t) k) (rw (inputs_are t) (counted l));
      equation = λ k h e.
          let l : Line says_gate t k = record { inside = h; passes = e } in
          ap v (number_of_gate l)
          ∙ s.equation (gates_to (forms_in t) k) (rw (gates_are t) (counted l))
          ∙ ap (λ (x : ℕ). gate x (λ i. v (pin_of (net_in t) (gates_to (forms_in t) k) i))) (kind_get l)
          ∙ ap (gate (kind_on t k)) (fun_ext (λ i. ap v (pin_get l i)));
    }
