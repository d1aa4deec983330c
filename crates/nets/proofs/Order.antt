-- What the order of a net and its records ask for, what an arranged net comes to, and refusal 1 of one with too many lines.
-- Assumes nothing.
use mathlib.Core.Path.{◌≡◌, sym, ap, ◌∙◌}
use mathlib.Core.Logic.{⊎_elim}
use mathlib.Core.List.{List}
use Prim.Native.Nat.{ℕ, ◌*◌, ◌≤◌, ◌<◌}
use native.Mathlib.Omega.{arith}
use lib.ListN.{length}
use Rattle.ground.proofs.Tests.{either}
use Rattle.answers.specs.Rules.{Ruling, refusal}
use Rattle.circuit.specs.Promise.{circuit_rules}
use Rattle.circuit.proofs.Sizes as sealed
use Rattle.order.specs.Order.{cycle_rules}
use Rattle.order.specs.Owed.{ArrangeDone}
use Rattle.order.proofs.Says.{full_order}
use Rattle.records.specs.Net.{Net, net_size, placed_of, records_of}
use Rattle.records.specs.Owed.{PutRecordsReady}
use Rattle.records.proofs.Size.{records_length}
use Rattle.nets.specs.Rules.{buffer_rules, record_rules, net_rules}
use Rattle.nets.specs.Owed.{ReadDone, RecordsDone, NetDone, ReadNetReady, ReadOrderReady}
use Rattle.answers.proofs.Rules.{both_fine, not_fine}
use Rattle.answers.proofs.Answer.{first_refused, first_fine}
use Rattle.std.specs.Prelude.{Ok, Err, Result}
use Rattle.answers.specs.declared.Refusal.{Refusal}
use Rattle.answers.specs.declared.Reason.TheVariants.{CircuitSize}

pub ordered : {net : Net} {order : List ℕ} {r : Ruling} → ReadNetReady net → ArrangeDone net.firsts net.seconds order r → r ≡ Ok tt → ReadOrderReady net order
ordered {net} p q e =
    let o = q.order_is e in
    record { resolved = p; order_is = o; placed = ap length o ∙ full_order net.firsts net.seconds (sym q.ruling ∙ e) }

pub fits : {net : Net} {order records : List ℕ} → ReadOrderReady net order → net_size net ≤ 2048 → length records ≡ 8 * net_size net → PutRecordsReady net order records
fits o few room = record {
  few = few;
  room = room;
  order_is = o.order_is;
  placed = o.placed;
  kinds = o.resolved.kinds;
  seconds = o.resolved.seconds;
  output_numbers = o.resolved.output_numbers;
}

-- ---- what an arranged net comes to

in_order : (net : Net) {order : List ℕ} {v : Ruling} → ArrangeDone net.firsts net.seconds order v
    → (room : ℕ) → refusal (net_rules net room) ≡ Ok tt → order ≡ placed_of net
in_order net q room e = q.order_is (q.ruling ∙ (both_fine (cycle_rules net.firsts net.seconds) _ e).0)

module _ {net : Net} {order : List ℕ} {v : Ruling} (q : ArrangeDone net.firsts net.seconds order v) where
  -- where some gate can't be placed
  pub unordered : {c : List ℕ} {why : Refusal} → v ≡ Err why → NetDone net order c c (Err why)
  unordered e = record { done = first_refused _ _ (sym q.ruling ∙ e); order_is = in_order net q _ }

  -- and where all are
  pub read_ordered : {c c' : List ℕ} {r : Result ℕ Refusal} → v ≡ Ok tt → RecordsDone (records_of net) c c' r → NetDone net order c c' r
  read_ordered e d = record { done = first_fine _ _ (sym q.ruling ∙ e) d; order_is = in_order net q _ }

-- ---- more lines than a circuit may have

refused_lines : (net : Net) → 2048 < net_size net → refusal (circuit_rules (records_of net)) ≡ Err (CircuitSize, 0)
refused_lines net l = sealed.too_many (records_of net) (omega (arith, records_length net (net_size net)))

pub too_many : (net : Net) {c : List ℕ} → 2048 < net_size net → ReadDone (record_rules (records_of net) (length c)) (records_of net) c c (Err (CircuitSize, 0))
too_many net {c} l = first_refused (circuit_rules (records_of net)) (buffer_rules (length c)) (refused_lines net l)

-- so what is not refused has no more
pub few_lines : (net : Net) (room : ℕ) → refusal (net_rules net room) ≡ Ok tt → net_size net ≤ 2048
few_lines net room e =
    let checked = (both_fine (circuit_rules (records_of net)) _ (both_fine (cycle_rules net.firsts net.seconds) _ e).1).0 in
    ⊎_elim (λ l. absurd (not_fine (sym checked ∙ refused_lines net l))) (λ l. l) (either 2048 (net_size net))
