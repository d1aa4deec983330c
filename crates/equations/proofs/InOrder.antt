-- The lines of the records follow the order over the text; and the first gate that can't be placed is the same in the text and in its net.
-- Assumes nothing.
use mathlib.Core.Path.{◌≡◌, refl, sym, ap, ◌∙◌}
use mathlib.Core.List.{List}
use Prim.Native.Nat.{ℕ, ◌+◌, ◌<◌}
use native.Mathlib.Omega.{arith}
use lib.ListN.{length, get_or, length-map}
use Rattle.ground.specs.Lists.{elem}
use Rattle.ground.proofs.Elem.{elem_at}
use Rattle.answers.specs.Rules.{refusal}
use Rattle.syntax.specs.Syntax.{Formed}
use Rattle.names.specs.Names.{name_rules}
use Rattle.order.proofs.Says as order
use Rattle.records.specs.Net.{gates_of, placed_of, net_line}
use Rattle.netlist.specs.Solved.{Right}
use Rattle.netlist.proofs.Numbers.{line-gate, order_long, order-gate, order_at}
use Rattle.texts.specs.Text.{defs_in, uses_in, net_in}
use Rattle.equations.specs.Meaning.{name_on}
use Rattle.equations.specs.Numbers.{number_for, line_for}
use Rattle.equations.specs.Placing.{InOrder, FirstLeft}
use Rattle.equations.proofs.Tables.{inputs_are, map_get, gate-line}
use Rattle.equations.proofs.SameMeaning.{number_of_gate}
use Rattle.equations.proofs.Placing.{number, number_inside, later, later-line, order_gates, elem-same, Whole, whole, one-order, places_to, places_from}
use Rattle.std.specs.Prelude.{Ok}
use Rattle.answers.specs.declared.Reason.TheVariants.{BenchCycle}

module _ (t : List ℕ) (f : Formed t) (none : refusal (name_rules t (defs_in t) (uses_in t)) ≡ Ok tt) where
  -- ---- where all gates are placed

  module _ (r : Right (net_in t)) where
    w : Whole t f none
    w = whole t f none

    long : length w.lines ≡ gates_of (net_in t)
    long = sym (length-map w.lines (number t)) ∙ ap length w.are ∙ order_long (net_in t) r

    -- the number of gate i of the order
    number_at : (i : ℕ) → i < length w.lines → number_for t (name_on t (get_or w.lines i 0)) ≡ get_or (placed_of (net_in t)) i 0
    number_at i l =
        number_of_gate t none (order_gates t w.placed.steps (get_or w.lines i 0) (elem_at w.lines i l))
        ∙ sym (map_get (number t) w.lines i l)
        ∙ ap (λ (q : List ℕ). get_or q i 0) w.are

    pub in_order : InOrder t
    unfolding line_for
    in_order = record {
      order = w.lines;
      placed = w.placed;
      only = λ p d. one-order t f none d w.placed;
      every = λ k l.
          sym (elem-same t w.lines (order_gates t w.placed.steps) l)
          ∙ ap (λ (q : List ℕ). elem q (number t k)) w.are
          ∙ order.all_placed (net_in t).firsts (net_in t).seconds r.placed (number t k) (number_inside t l);
      lines = λ i l.
          let h : i < gates_of (net_in t) = omega (arith, long) in
          ap (net_line (net_in t)) (number_at i l)
          ∙ line-gate (net_in t) (get_or (placed_of (net_in t)) i 0) (order-gate (net_in t) r i h)
          ∙ ap (λ (j : ℕ). (net_in t).inputs + j) (order_at (net_in t) r i h)
          ∙ ap (λ (n : ℕ). n + i) (inputs_are t);
    }

  -- ---- where one can't be

  abbrev NetLeft : ℕ → Type 0
  NetLeft g = order.LowestLeft (net_in t).firsts (net_in t).seconds BenchCycle g

  pub text_left : (g : ℕ) → NetLeft g → FirstLeft t g
  text_left g e =
      let n = gate-line t e.inside in
      record {
        line = n.place;
        gate = n.line;
        number = n.before;
        left = λ p. e.left (rw n.before at (places_to t f none n.line p));
        first = λ k l m. places_from t f none m (e.first (number t k) (rw n.before at (later t m l)));
      }

  pub net_left : (g : ℕ) → FirstLeft t g → NetLeft g
  net_left g e = record {
    reason = refl;
    inside = rw (← e.number) (number_inside t e.gate);
    left = λ p. e.left (places_from t f none e.gate (rw e.number p));
    first = λ j l.
        let n = gate-line t {g = j} (omega (arith, e.number, number_inside t e.gate)) in
        rw n.before at (places_to t f none n.line (e.first n.place (later-line t e.gate (rw (n.before, e.number) l)) n.line));
  }
