-- `line_clauses::put_faulty` meets its contract: a buffer, or the gate as the fault leaves it, a selector with its select.
-- Assumes nothing.
use native.Mathlib.Omega.{arith}
use Rattle.line_clauses.proofs.Lines.{kind_last, gate-line, faulty-stuck, faulty-input, faulty-gate, gate_room, put_line}
use Rattle.line_clauses.proofs.put_faulty.Goals as goal

pub put_gate-requires : goal.put_gate-requires
put_gate-requires c =
    (omega arith, gate_room _ _ _ _ _ (faulty-stuck _ _ _ _ c.is_at.ensures c.if-is_at.true) c.requires.room (omega arith) (omega arith) (omega arith) (omega arith))

pub returns-then-is_at : goal.returns-then-is_at
returns-then-is_at c = put_line (faulty-stuck _ _ _ _ c.is_at.ensures c.if-is_at.true) c.put_gate.ensures

pub put_gate-requires-then-kind-eq0 : goal.put_gate-requires-then-kind-eq0
put_gate-requires-then-kind-eq0 c =
    (omega arith, gate_room _ _ _ _ _ (faulty-input _ _ _ _ c.is_at.ensures c.if-is_at.false c.if-kind-eq0.true) c.requires.room (omega arith) (omega arith) (omega arith) (omega arith))

pub returns-then-kind-eq0 : goal.returns-then-kind-eq0
returns-then-kind-eq0 c = put_line (faulty-input _ _ _ _ c.is_at.ensures c.if-is_at.false c.if-kind-eq0.true) c.put_gate-then-kind-eq0.ensures

pub pin_variable-a-requires : goal.pin_variable-a-requires
pin_variable-a-requires c = (gate-line c.requires.line c.if-kind-eq0.false, omega arith, omega arith)

pub pin_variable-b-requires : goal.pin_variable-b-requires
pin_variable-b-requires c = (gate-line c.requires.line c.if-kind-eq0.false, omega arith, omega arith)

pub pin_variable-s-requires : goal.pin_variable-s-requires
pin_variable-s-requires c = (gate-line c.requires.line c.if-kind-eq0.false, omega arith, omega arith)

pub put_selector-requires : goal.put_selector-requires
put_selector-requires c =
    let pre = c.requires in
    gate_room _ _ _ _ _ (rw c.if-kind-eq-SELECTOR.true at
    (faulty-gate _ _ _ _ c.is_at.ensures c.if-is_at.false c.if-kind-eq0.false (kind_last c.requires.line)
    c.pin_variable-a.ensures.0 c.pin_variable-b.ensures.0 (λ _. c.pin_variable-s.ensures.0))) pre.room (omega arith) (omega arith) (omega arith) (omega arith)

pub returns-then-kind-eq-SELECTOR : goal.returns-then-kind-eq-SELECTOR
returns-then-kind-eq-SELECTOR c = put_line (rw c.if-kind-eq-SELECTOR.true at
    (faulty-gate _ _ _ _ c.is_at.ensures c.if-is_at.false c.if-kind-eq0.false (kind_last c.requires.line)
    c.pin_variable-a.ensures.0 c.pin_variable-b.ensures.0 (λ _. c.pin_variable-s.ensures.0))) c.put_selector.ensures

pub put_gate-requires-2 : goal.put_gate-requires-2
put_gate-requires-2 c =
    let pre = c.requires in (
      omega (arith, kind_last pre.line, c.if-kind-eq-SELECTOR.false),
      gate_room _ _ _ _ _ (faulty-gate _ _ _ _ c.is_at.ensures c.if-is_at.false c.if-kind-eq0.false (kind_last c.requires.line)
          c.pin_variable-a.ensures.0 c.pin_variable-b.ensures.0 (λ e. absurd (c.if-kind-eq-SELECTOR.false e))) pre.room (omega arith) (omega arith) (omega arith) (omega arith),
    )

pub returns : goal.returns
returns c = put_line (faulty-gate _ _ _ _ c.is_at.ensures c.if-is_at.false c.if-kind-eq0.false (kind_last c.requires.line)
    c.pin_variable-a.ensures.0 c.pin_variable-b.ensures.0 (λ e. absurd (c.if-kind-eq-SELECTOR.false e))) c.put_gate-2.ensures
