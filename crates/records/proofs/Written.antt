-- The records as they are written, by the lines of the gates and the flags, are those of the net.
-- Assumes nothing.
use mathlib.Core.Path.{◌≡◌, refl, ◌∙◌}
use mathlib.Core.Logic.{◌⊎◌, inl, inr, ⊎_elim}
use mathlib.Core.Bool.{true}
use mathlib.Core.List.{List}
use Prim.Native.Nat.{ℕ, ◌+◌, ◌-◌, ◌≤◌, ◌<◌}
use native.Mathlib.Decide.{dec_lt}
use native.Mathlib.Omega.{arith}
use lib.ListN.{length, get_or}
use borrow.Author.Tests.{lt-ltb, le-ltb}
use Rattle.ground.proofs.Tests.{either}
use Rattle.ground.specs.Lists.{elem}
use Rattle.ground.proofs.Gather.{gather-same}
use Rattle.ground.proofs.Elem.{elem_front}
use Rattle.order.proofs.Says.{order_inside, sources_before}
use Rattle.records.specs.Net.{Net, gates_of, net_size, pin_of, placed_of, net_line, number_on, net_kind, net_source, record_on, records_to}
use Rattle.records.specs.Owed.{NumberLinesDone, MarkOutputsDone, line_by, source_by, gate_record, lined_of, record_by, records_by}
use Rattle.records.proofs.Stands.{record_is, input-number, input_kind, input_source, gate-number, gate_kind}

-- the lines and the flags are those of the net
pub record WrittenTold (net : Net) (order line flag : List ℕ) : Type 0 where
  pub order_is : order ≡ placed_of net
  pub placed : length order ≡ gates_of net
  pub lines : length line ≡ gates_of net
  pub flags : length flag ≡ net_size net
  pub numbered : NumberLinesDone order net.inputs line
  pub marked : MarkOutputsDone net.outputs flag

module _ {net : Net} {order line flag : List ℕ} (t : WrittenTold net order line flag) where
  -- a number is an input, or a gate that is placed
  abbrev There : ℕ → Type 0
  There x = x < gates_of net → elem (placed_of net) x ≡ true

  -- its line
  same_line : (x : ℕ) → There x → line_by line x ≡ net_line net x
  unfolding line_by net_line
  same_line x e = go (dec_lt x (gates_of net))
    where
      go : Dec (x < gates_of net) → line_by line x ≡ net_line net x
      go (yes l) =
          rw (t.lines, lt-ltb x (gates_of net) l)
          (t.numbered x (rw t.order_is (e l)) ∙ rw t.order_is)
      go (no l) = rw (t.lines, le-ltb x (gates_of net) (omega arith))

  module _ (k : ℕ) where
    same_source : (s : ℕ) → There (pin_of net (number_on net k) s)
        → source_by line (net_kind net k) s (pin_of net (number_on net k) s) ≡ net_source net k s
    unfolding source_by net_source
    same_source s e = rw (same_line (pin_of net (number_on net k) s) e)

    same-input : k < net.inputs → record_by (lined_of net order line flag) k ≡ record_on net k
    unfolding record_by
    same-input l =
        rw (
          lt-ltb k net.inputs l,
          t.lines,
          t.marked (gates_of net + k) (omega (arith, t.flags)),
          record_is net k,
          input_kind net k l,
          input-number net k l,
          input_source net k l 0,
          input_source net k l 1,
        )

    same-gate : net.inputs ≤ k → k < net_size net → record_by (lined_of net order line flag) k ≡ record_on net k
    unfolding record_by gate_record pin_of
    same-gate l m =
        let i : ℕ = k - net.inputs in
        let i-in : i < length (placed_of net) = rw (← t.order_is) (omega (arith, t.placed)) in
        let n : number_on net k ≡ get_or (placed_of net) i 0 = gate-number net k l in
        let source : (x : ℕ) → (get_or net.firsts (get_or (placed_of net) i 0) 0 ≡ x) ⊎ (get_or net.seconds (get_or (placed_of net) i 0) 0 ≡ x) → There x =
        λ x is gate. elem_front (placed_of net) i x (sources_before net.firsts net.seconds i x i-in (record { gate = gate; is = is })) in
        rw (
          le-ltb k net.inputs l,
          t.order_is,
          ← n,
          ← (gate_kind net k l),
          t.marked (number_on net k) (omega (arith, t.flags, order_inside net.firsts net.seconds i i-in, n)),
          same_source 1 (rw n (source _ (inl refl))),
          same_source 2 (rw n (source _ (inr refl))),
          record_is net k,
        )

    pub same_record : k < net_size net → record_by (lined_of net order line flag) k ≡ record_on net k
    same_record m = ⊎_elim same-input (λ l. same-gate l m) (either k net.inputs)

  pub same_records : (k : ℕ) → k ≤ net_size net → records_by (lined_of net order line flag) k ≡ records_to net k
  unfolding records_to
  same_records k l = gather-same (record_by (lined_of net order line flag)) (record_on net) k (λ i m. same_record i (omega arith))
