-- The order over the text is that of its net: the gate on a line is ready, the earliest or placed exactly if its number is.
-- Assumes nothing.
use mathlib.Core.Path.{◌≡◌, refl, sym, ap, ◌∙◌}
use mathlib.Core.Logic.{⊎_elim}
use mathlib.Core.Bool.{Bool, true, false, not, ◌&&◌, or-true, false≢true}
use mathlib.Core.List.{List, [], ◌∷◌, ◌++◌, map, map-append}
use Prim.Native.Nat.{ℕ, ◌+◌, ◌-◌, ◌≤◌, ◌<◌}
use native.Mathlib.Decide.{ℕ_discrete, dec_le}
use native.Mathlib.Omega.{arith}
use lib.Dec.{eqb}
use lib.ListN.{get_or}
use borrow.Author.Tests.{eq-eqb, ne_eqb, le-leb, lt-leb, leb-true}
use Rattle.ground.specs.Choose.{choose}
use Rattle.ground.specs.Lists.{elem}
use Rattle.ground.proofs.Tests.{either, both}
use Rattle.ground.proofs.Lists.{elem_other}
use Rattle.ground.proofs.Counting.{count_mono, count_below_lem}
use Rattle.ground.proofs.Collect.{count_one}
use Rattle.answers.specs.Rules.{refusal}
use Rattle.gates.specs.Gate.{pins_of}
use Rattle.syntax.specs.Syntax.{Formed}
use Rattle.forms.specs.Forms.{says_gate, inputs_to, gates_to}
use Rattle.shape.proofs.Forms.{gate_sources}
use Rattle.names.specs.Names.{name_rules}
use Rattle.order.specs.Order as order
use Rattle.order.specs.Order.{there, ready, order_of}
use Rattle.order.proofs.Ready.{ready_new}
use Rattle.order.proofs.Unique as unique
use Rattle.records.specs.Net.{Net, gates_of, pin_of}
use Rattle.texts.specs.Text.{forms_in, defs_in, uses_in, net_in}
use Rattle.equations.specs.Meaning.{kind_on, source_on}
use Rattle.equations.specs.Right.{Line, Defined}
use Rattle.equations.specs.Numbers.{number_for}
use Rattle.equations.specs.Placing.{There, input, gate, Placeable, EarliestGate, TextOrder, nothing, next, TextPlaced, TextPlaces}
use Rattle.equations.proofs.Tables.{counted, gates_are, gate-line, pin_get, gate-number, by_cases}
use Rattle.equations.proofs.Names.{names_right, number_of_name}
use Rattle.equations.proofs.SameMeaning.{number_of_gate, number_of_input}
use Rattle.std.specs.Prelude.{Ok}

-- at each pin of a gate that is ready the source is there
pins_there : (net : Net) (q : List ℕ) (g : ℕ) → ready net.firsts net.seconds q g ≡ true → (s : ℕ) → there (gates_of net) q (pin_of net g s) ≡ true
unfolding ready pin_of
pins_there net q g e s = let u = (both (not (elem q g)) (at true && at false) e).1 in let v = both (at true) (at false) u in go (eqb s 1) v.0 v.1
  where
    at : Bool → Bool
    at b = there (gates_of net) q (choose b (get_or net.firsts g 0) (get_or net.seconds g 0))

    go : (b : Bool) → at true ≡ true → at false ≡ true → at b ≡ true
    go true x y = x
    go false x y = y

module _ (t : List ℕ) where
  -- the number of the gate on line k
  abbrev pub number : ℕ → ℕ
  number k = gates_to (forms_in t) k

  abbrev pub numbers : List ℕ → List ℕ
  numbers p = map number p

  abbrev NetReady : List ℕ → ℕ → Bool
  NetReady = ready (net_in t).firsts (net_in t).seconds

  -- ---- lines of gates and their numbers

  module _ {k : ℕ} (l : Line says_gate t k) where
    pub number_inside : number k < gates_of (net_in t)
    number_inside = rw (gates_are t) (counted l)

    pub later : {h : ℕ} → k < h → number k < number h
    later {h} e = count_below_lem (says_gate (forms_in t)) k h e l.passes

    pub later-line : {h : ℕ} → number h < number k → h < k
    later-line {h} e = ⊎_elim (λ y. y) (λ y. absurd (omega (arith, count_mono (says_gate (forms_in t)) k h y))) (either h k)

    module _ {j : ℕ} (m : Line says_gate t j) where
      one_line : number j ≡ number k → j ≡ k
      one_line = count_one (says_gate (forms_in t)) j k m.passes l.passes

      eqb_same : eqb (number j) (number k) ≡ eqb j k
      eqb_same = go (ℕ_discrete j k)
        where
          go : Dec (j ≡ k) → eqb (number j) (number k) ≡ eqb j k
          go (yes q) = eq-eqb (number j) (number k) (ap number q) ∙ sym (eq-eqb j k q)
          go (no n) = ne_eqb (number j) (number k) (λ q. n (one_line q)) ∙ sym (ne_eqb j k n)

  -- all of p are gates' lines
  abbrev pub Gates : List ℕ → Type 0
  Gates p = (k : ℕ) → elem p k ≡ true → Line says_gate t k

  head-gate : (j : ℕ) (p : List ℕ) → Gates (j ∷ p) → Line says_gate t j
  unfolding elem
  head-gate j p g = g j (rw (eq-eqb j j refl))

  tail_gates : (j : ℕ) (p : List ℕ) → Gates (j ∷ p) → Gates p
  unfolding elem
  tail_gates j p g k e = g k (rw (e, or-true))

  pub elem-same : (p : List ℕ) → Gates p → {k : ℕ} → Line says_gate t k → elem (numbers p) (number k) ≡ elem p k
  unfolding elem
  elem-same [] g l = refl
  elem-same (j ∷ p) g l = rw (eqb_same l (head-gate j p g), elem-same p (tail_gates j p g) l)

  numbers-one : (p q : List ℕ) → Gates p → Gates q → numbers p ≡ numbers q → p ≡ q
  numbers-one [] [] g h e = refl
  numbers-one [] (y ∷ q) g h e = let z : ◌≡◌ {A = ℕ} 0 1 = cc in absurd (omega arith)
  numbers-one (x ∷ p) [] g h e = let z : ◌≡◌ {A = ℕ} 0 1 = cc in absurd (omega arith)
  numbers-one (x ∷ p) (y ∷ q) g h e =
      let i : number x ≡ number y = cc in
      let j : numbers p ≡ numbers q = cc in
      let a = one_line (head-gate y q h) (head-gate x p g) i in
      let b = numbers-one p q (tail_gates x p g) (tail_gates y q h) j in
      cc

  -- what is placed are gates
  pub order_gates : {p : List ℕ} → TextOrder t p → Gates p
  unfolding elem
  order_gates nothing k e = absurd (false≢true e)
  order_gates (next q j o r i) k e = go (ℕ_discrete j k) (rw i at e) (order_gates o k)
    where
      go : Dec (j ≡ k) → elem (q ++ (j ∷ [])) k ≡ true → (elem q k ≡ true → Line says_gate t k) → Line says_gate t k
      go (yes y) f ih = rw (← y) r.is_ready.gate
      go (no n) f ih = ih (sym (elem_other q j k n) ∙ f)

  module _ (f : Formed t) (none : refusal (name_rules t (defs_in t) (uses_in t)) ≡ Ok tt) where
    -- ---- ready in the text is ready in the net

    module _ {k : ℕ} (l : Line says_gate t k) where
      -- a gate's form is two more than its kind's pins
      form : get_or (forms_in t) k 0 ≡ 2 + pins_of (kind_on t k)
      form = let w = gate_sources t f k l.passes in w.1 ∙ w.0.words

      some-pin : 1 ≤ pins_of (kind_on t k)
      some-pin = omega (arith, form, leb-true 3 (get_or (forms_in t) k 0) l.passes)

    module _ {p : List ℕ} (g : Gates p) where
      there_to : {w : List ℕ} → There t p w → there (gates_of (net_in t)) (numbers p) (number_for t w) ≡ true
      unfolding there
      there_to (input k l e) = rw (← e, number_of_input t none l, le-leb (gates_of (net_in t)) (gates_of (net_in t) + inputs_to (forms_in t) k) (omega arith))
      there_to (gate k l m e) = rw (← e, number_of_gate t none l, elem-same p g l, m, or-true)

      there_from : {w : List ℕ} → Defined t w → there (gates_of (net_in t)) (numbers p) (number_for t w) ≡ true → There t p w
      unfolding there
      there_from {w} (k, d) e = by_cases (λ l. gate k l (is-placed l (number_of_name t none d ∙ gate-number l)) d.is) (λ l. input k l d.is) d.line
        where
          is-placed : Line says_gate t k → number_for t w ≡ number k → elem p k ≡ true
          is-placed l n =
              sym (elem-same p g l) ∙ simp (lt-leb (gates_of (net_in t)) (number k) (number_inside l)) at (rw n at e)

      module _ {k : ℕ} where
        -- with one pin the last word is the third
        two_sources : Placeable t p k → There t p (source_on t k 2)
        two_sources r = go (dec_le 2 (pins_of (kind_on t k)))
          where
            go : Dec (2 ≤ pins_of (kind_on t k)) → There t p (source_on t k 2)
            go (yes y) = r.sources 2 (omega arith) y
            go (no n) =
                let last : get_or (forms_in t) k 0 - 1 ≡ 2 = omega (arith, form r.gate, some-pin r.gate) in
                rw last (r.sources 1 (omega arith) (some-pin r.gate))

        ready_to : Placeable t p k → NetReady (numbers p) (number k) ≡ true
        unfolding ready pin_of
        ready_to r =
            rw (
              elem-same p g r.gate,
              r.waits,
              pin_get r.gate 1,
              pin_get r.gate 2,
              there_to (r.sources 1 (omega arith) (some-pin r.gate)),
              there_to (two_sources r),
            )

        ready_from : Line says_gate t k → NetReady (numbers p) (number k) ≡ true → Placeable t p k
        ready_from l e = record {
          gate = l;
          waits = sym (elem-same p g l) ∙ ready_new (net_in t).firsts (net_in t).seconds (numbers p) (number k) e;
          sources = λ s i j.
              there_from ((names_right t none).sources k l s) (rw (pin_get l s) at (pins_there (net_in t) (numbers p) (number k) e s));
        }

      earliest_to : {k : ℕ} → EarliestGate t p k → order.Earliest (net_in t).firsts (net_in t).seconds (numbers p) (number k)
      earliest_to {k} e = record {
        inside = number_inside e.is_ready.gate;
        is_ready = ready_to e.is_ready;
        none_before = λ h l. go h l (NetReady (numbers p) h) refl;
      }
        where
          go : (h : ℕ) → h < number k → (b : Bool) → NetReady (numbers p) h ≡ b → b ≡ false
          go h l true q =
              let n = gate-line t {g = h} (omega (arith, number_inside e.is_ready.gate)) in
              absurd (e.none_before n.place (later-line e.is_ready.gate (rw n.before l)) (ready_from n.line (rw n.before q)))
          go h l false q = refl

      earliest_from : {k : ℕ} → Line says_gate t k → order.Earliest (net_in t).firsts (net_in t).seconds (numbers p) (number k) → EarliestGate t p k
      earliest_from {k} l e = record {
        is_ready = ready_from l e.is_ready;
        none_before = λ h y r. false≢true (sym (e.none_before (number h) (later r.gate y)) ∙ ready_to r);
      }

    -- ---- orders

    order_to : {p : List ℕ} → TextOrder t p → order.Order (net_in t).firsts (net_in t).seconds (numbers p)
    order_to nothing = order.nothing
    order_to (next q k o e j) =
        order.next (numbers q) (number k) (order_to o) (earliest_to (order_gates o) e) (ap numbers j ∙ map-append number q (k ∷ []))

    -- an order of the text with these numbers
    record From (q : List ℕ) : Type 0 where
      lines : List ℕ
      steps : TextOrder t lines
      are : numbers lines ≡ q

    order_from_lem : {q : List ℕ} → order.Order (net_in t).firsts (net_in t).seconds q → From q
    order_from_lem order.nothing = record { lines = []; steps = nothing; are = refl }
    order_from_lem (order.next q g o e j) =
        let w = order_from_lem o in
        let n = gate-line t e.inside in
        record {
          lines = w.lines ++ (n.place ∷ []);
          steps = next w.lines n.place w.steps (earliest_from (order_gates w.steps) n.line (rw (w.are, n.before) e)) refl;
          are = map-append number w.lines (n.place ∷ []) ∙ rw (w.are, n.before) (sym j);
        }

    placed_to : {p : List ℕ} → TextPlaced t p → order.Placed (net_in t).firsts (net_in t).seconds (numbers p)
    placed_to {p} d = record { steps = order_to d.steps; ended = λ h l. go h l (NetReady (numbers p) h) refl }
      where
        go : (h : ℕ) → h < gates_of (net_in t) → (b : Bool) → NetReady (numbers p) h ≡ b → b ≡ false
        go h l true q = let n = gate-line t l in absurd (d.ended n.place (ready_from (order_gates d.steps) n.line (rw n.before q)))
        go h l false q = refl

    -- the order of the text, and there is no other
    pub record Whole : Type 0 where
      pub lines : List ℕ
      pub placed : TextPlaced t lines
      pub are : numbers lines ≡ order_of (net_in t).firsts (net_in t).seconds

    pub whole : Whole
    whole =
        let d = unique.order_placed (net_in t).firsts (net_in t).seconds in
        let w = order_from_lem d.steps in
        record {
          lines = w.lines;
          placed = record {
            steps = w.steps;
            ended = λ k r. false≢true (sym (d.ended (number k) (number_inside r.gate)) ∙ rw w.are at (ready_to (order_gates w.steps) r));
          };
          are = w.are;
        }

    pub one-order : {p q : List ℕ} → TextPlaced t p → TextPlaced t q → p ≡ q
    one-order {p} {q} d e =
        numbers-one p q (order_gates d.steps) (order_gates e.steps) (unique.same-order (placed_to d) (placed_to e))

    -- ---- which gates can be placed

    module _ {k : ℕ} (l : Line says_gate t k) where
      pub places_to : TextPlaces t k → order.Places (net_in t).firsts (net_in t).seconds (number k)
      places_to w = record {
        order = numbers w.order;
        steps = order_to w.steps;
        placed = elem-same w.order (order_gates w.steps) l ∙ w.placed;
      }

      pub places_from : order.Places (net_in t).firsts (net_in t).seconds (number k) → TextPlaces t k
      places_from w =
          let o = order_from_lem w.steps in
          record {
            order = o.lines;
            steps = o.steps;
            placed = sym (elem-same o.lines (order_gates o.steps) l) ∙ rw o.are w.placed;
          }
