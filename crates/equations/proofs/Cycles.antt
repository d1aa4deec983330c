-- The text has a cycle exactly if its net has one.
-- Assumes nothing.
use mathlib.Core.Path.{◌≡◌, sym, ap, ◌∙◌}
use mathlib.Core.Logic.{inl, inr, ⊎_elim}
use mathlib.Core.Bool.{Bool, true, false}
use mathlib.Core.List.{List}
use Prim.Native.Nat.{ℕ, ◌<◌}
use lib.Dec.{eqb}
use lib.ListN.{get_or}
use Rattle.ground.specs.Choose.{choose}
use Rattle.answers.specs.Rules.{refusal}
use Rattle.forms.specs.Forms.{says_gate, gates_to}
use Rattle.names.specs.Names.{name_rules}
use Rattle.order.specs.Order as order
use Rattle.records.specs.Net.{gates_of, pin_of}
use Rattle.texts.specs.Text.{forms_in, defs_in, uses_in, net_in}
use Rattle.equations.specs.Right.{Line, ReadsFrom, TextWay, last, then, TextCycle}
use Rattle.equations.specs.Numbers.{name_of, number_for}
use Rattle.equations.proofs.Tables.{NthLine, counted, gates_are, gate-line, pin_get}
use Rattle.equations.proofs.SameMeaning.{name_of_gate, name_of_pin, number_of_gate}
use Rattle.std.specs.Prelude.{Ok}

module _ (t : List ℕ) where
  -- sources and ways in the net
  abbrev Source : ℕ → ℕ → Type 0
  Source = order.Source (net_in t).firsts (net_in t).seconds

  abbrev NetWay : ℕ → ℕ → Type 0
  NetWay = order.Way (net_in t).firsts (net_in t).seconds

  abbrev pub NetCycle : Type 0
  NetCycle = order.Cycle (net_in t).firsts (net_in t).seconds

  -- a source at some pin is the first or the second
  pin_source : (g s x : ℕ) → x < gates_of (net_in t) → pin_of (net_in t) g s ≡ x → Source g x
  unfolding pin_of
  pin_source g s x l e = go (eqb s 1) e
    where
      go : (b : Bool) → choose b (get_or (net_in t).firsts g 0) (get_or (net_in t).seconds g 0) ≡ x → Source g x
      go true q = record { gate = l; is = inl q }
      go false q = record { gate = l; is = inr q }

  source_pin : (g x : ℕ) → Source g x → (s : ℕ) × (pin_of (net_in t) g s ≡ x)
  unfolding pin_of
  source_pin g x r = ⊎_elim (λ e. (1, e)) (λ e. (2, e)) r.is

  module _ (none : refusal (name_rules t (defs_in t) (uses_in t)) ≡ Ok tt) where
    -- ---- from the text to the net

    net_source_lem : {k h : ℕ} → Line says_gate t k → ReadsFrom t k h → Source (gates_to (forms_in t) k) (gates_to (forms_in t) h)
    net_source_lem {k} {h} l r =
        pin_source (gates_to (forms_in t) k) r.pin (gates_to (forms_in t) h) (rw (gates_are t) (counted r.gate))
        (pin_get l r.pin ∙ ap (number_for t) r.is ∙ number_of_gate t none r.gate)

    net_way : {k h : ℕ} → Line says_gate t k → TextWay t k h → NetWay (gates_to (forms_in t) k) (gates_to (forms_in t) h)
    net_way l (last r) = order.last (net_source_lem l r)
    net_way l (then r w) = order.then (net_source_lem l r) (net_way r.gate w)

    pub net_cycle : TextCycle t → NetCycle
    net_cycle c = (gates_to (forms_in t) c.line, rw (gates_are t) (counted c.gate), net_way c.gate c.way)

    -- ---- and back

    text_reads : {g x : ℕ} (n : NthLine says_gate t g) (m : NthLine says_gate t x) → Source g x → ReadsFrom t n.place m.place
    text_reads {g} {x} n m r =
        let p = source_pin g x r in
        let e : pin_of (net_in t) (gates_to (forms_in t) n.place) p.0 ≡ gates_to (forms_in t) m.place =
        ap (λ (i : ℕ). pin_of (net_in t) i p.0) n.before ∙ p.1 ∙ sym m.before in
        record {
          gate = m.line;
          pin = p.0;
          is = sym (name_of_pin t none n.line p.0) ∙ ap (name_of t) e ∙ name_of_gate t none m.line;
        }

    text_way : {g x : ℕ} (n : NthLine says_gate t g) (m : NthLine says_gate t x) → NetWay g x → TextWay t n.place m.place
    text_way n m (order.last r) = last (text_reads n m r)
    text_way n m (order.then r w) = let o = gate-line t r.gate in then (text_reads n o r) (text_way o m w)

    pub text_cycle : NetCycle → TextCycle t
    text_cycle (g, l, w) = let n = gate-line t l in record { line = n.place; gate = n.line; way = text_way n n w }
