-- The places of the names, where nothing is refused: what writing them asks for, and that they are the text's.
-- Assumes nothing.
use mathlib.Core.Path.{◌≡◌, sym, ap, ◌∙◌}
use mathlib.Core.List.{List}
use Prim.Native.Nat.{ℕ, ◌-◌, ◌<◌}
use native.Mathlib.Omega.{arith}
use lib.ListN.{length, get_or}
use Rattle.ground.specs.Put.{laid_on}
use Rattle.ground.proofs.Grow.{grow-same}
use Rattle.answers.specs.Rules.{refusal}
use Rattle.answers.proofs.Rules.{both_fine}
use Rattle.answers.proofs.Answer.{ruling_of, was_ruled}
use Rattle.words.specs.Words.{words_in, ends_in}
use Rattle.statements.proofs.Lengths.{numbers-length, defs_length}
use Rattle.names.specs.Names.{name_rules}
use Rattle.order.specs.Order.{cycle_rules}
use Rattle.order.proofs.Says.{order_inside, full_order}
use Rattle.records.specs.Net.{gates_of, net_size, number_on}
use Rattle.places.specs.Owed.{number_by, place_by, places_by, PutPlacesReady}
use Rattle.nets.specs.Rules.{net_rules}
use Rattle.nets.proofs.Order.{few_lines}
use Rattle.texts.specs.Text.{forms_in, defs_in, uses_in, net_in, place_on, places_in}
use Rattle.texts.specs.Owed.{text_rules, UsesDone, DefsKnown}
use Rattle.bench.specs.Promise.{records_in}
use Rattle.bench.specs.Owed.{TextDone}
use Rattle.texts.proofs.Numbers.{size_is, numbers_below, each_number}
use Rattle.std.specs.Prelude.{Ok, Result}
use Rattle.answers.specs.declared.Refusal.{Refusal}

module _ {t ws es fs defs numbers : List ℕ} {inputs : ℕ} (u : DefsKnown t ws es fs inputs defs numbers) {order c c' : List ℕ} {r : Result ℕ Refusal}
    (o : UsesDone t order c c' r) {n : ℕ} (e : r ≡ Ok n) where
  fine : refusal (text_rules t (length c)) ≡ Ok tt
  fine = was_ruled _ o.done.answer (ap ruling_of e)

  net_fine : refusal (net_rules (net_in t) (length c)) ≡ Ok tt
  net_fine = (both_fine (name_rules t (defs_in t) (uses_in t)) _ fine).1

  all_placed : length order ≡ gates_of (net_in t)
  all_placed =
      let firsts = (net_in t).firsts in
      let seconds = (net_in t).seconds in
      ap length (o.order_is fine) ∙ full_order firsts seconds (both_fine (cycle_rules firsts seconds) _ net_fine).0

  numbers_long : length numbers ≡ net_size (net_in t)
  numbers_long = ap length u.numbers_are ∙ numbers-length (forms_in t) ∙ sym (size_is t)

  defs_long : length defs ≡ net_size (net_in t)
  defs_long = ap length u.defs_are ∙ defs_length (words_in t) (ends_in t) (forms_in t) ∙ sym (size_is t)

  gate_below : (i : ℕ) → i < length order → get_or order i 0 < length defs
  gate_below i l =
      let p = o.order_is fine in
      let b = order_inside (net_in t).firsts (net_in t).seconds i (rw p at l) in
      rw p (omega (arith, b, defs_long))

  pub places_ready : {places : List ℕ} → length places ≡ 2048 → PutPlacesReady defs numbers order places
  places_ready room =
      let few = few_lines (net_in t) (length c) net_fine in
      record {
        few = omega (arith, few, defs_long);
        room = omega (arith, few, defs_long);
        paired = numbers_long ∙ sym defs_long;
        numbers_below = λ i l.
            let b = numbers_below (forms_in t) i (rw u.numbers_are at l) in
            rw u.numbers_are (omega (arith, b, size_is t, defs_long));
        each = λ x l. rw u.numbers_are (each_number (forms_in t) x (omega (arith, l, size_is t, defs_long)));
        gates = omega (arith, all_placed, defs_long);
        gates_below = gate_below;
      }

  same_number : (k : ℕ) → number_by (length defs - length order) order k ≡ number_on (net_in t) k
  unfolding number_by number_on
  same_number k =
      let inputs_are : length defs - length order ≡ (net_in t).inputs = omega (arith, all_placed, defs_long) in
      rw (inputs_are, all_placed, o.order_is fine)

  same_place : (k : ℕ) → place_by defs numbers order k ≡ place_on t k
  unfolding place_by place_on
  same_place k = rw (same_number k, u.defs_are, u.numbers_are)

  places_are : places_by defs numbers order ≡ places_in t
  unfolding places_in
  places_are = grow-same (λ _. place_by defs numbers order) (λ _. place_on t) (length defs) (λ k l. same_place k) ∙ rw defs_long

  pub placed : {p p' : List ℕ} → p' ≡ laid_on p (places_by defs numbers order) → TextDone t p p' c c' (Ok n)
  placed {p} {p'} q =
      let lines : p' ≡ laid_on p (places_in t) = q ∙ ap (laid_on p) places_are in
      let records : c' ≡ laid_on c (records_in t) = rw fine at o.done.memory in
      record { answer = rw e at o.done.answer; memory = rw (fine, lines, records) }
