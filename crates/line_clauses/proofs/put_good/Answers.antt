-- `line_clauses::put_good` meets its contract: nothing for an input, else the gate, a selector's with its select.
-- Assumes nothing.
use mathlib.Core.Path.{◌≡◌}
use native.Mathlib.Omega.{arith}
use mathlib.Core.List.{List}
use Prim.Native.Nat.{ℕ, ◌<◌, ◌≤◌}
use Rattle.circuit.specs.Record.{kind_at, pin_at}
use Rattle.line_clauses.specs.Owed.{LineReady}
use Rattle.line_clauses.proofs.Lines.{kind_last, gate-line, lower, good_none, good-gate, gate_room, put_line}
use Rattle.ground.proofs.Put.{put_none}
use Rattle.line_clauses.proofs.put_good.Goals as goal

-- the sources are lower than the line
low : {c : List ℕ} {n k r : ℕ} (s : ℕ)
    → LineReady c n k
    → (kind_at c k ≡ 0 → ⊥)
    → r ≡ pin_at c k s
    → 1 ≤ s
    → s ≤ 3
    → (r < k) × (k < 2048)
low s l ne e p q = (omega (arith, e, lower (gate-line l ne) s p q), omega (arith, l.inside, l.circuit.few))

pub returns-then-kind-eq0 : goal.returns-then-kind-eq0
returns-then-kind-eq0 c = rw (good_none _ _ c.if-kind-eq0.true) (put_none _ _)

pub overflow_mul-a : goal.overflow_mul-a
overflow_mul-a c = omega (arith, low 1 c.requires.line c.if-kind-eq0.false c.source-a.ensures (omega arith) (omega arith))

pub overflow_add-a : goal.overflow_add-a
overflow_add-a c = omega (arith, low 1 c.requires.line c.if-kind-eq0.false c.source-a.ensures (omega arith) (omega arith))

pub overflow_mul-b : goal.overflow_mul-b
overflow_mul-b c = omega (arith, low 2 c.requires.line c.if-kind-eq0.false c.source-b.ensures (omega arith) (omega arith))

pub overflow_add-b : goal.overflow_add-b
overflow_add-b c = omega (arith, low 2 c.requires.line c.if-kind-eq0.false c.source-b.ensures (omega arith) (omega arith))

pub overflow_mul-s : goal.overflow_mul-s
overflow_mul-s c = omega (arith, low 3 c.requires.line c.if-kind-eq0.false c.source-s.ensures (omega arith) (omega arith))

pub overflow_add-s : goal.overflow_add-s
overflow_add-s c = omega (arith, low 3 c.requires.line c.if-kind-eq0.false c.source-s.ensures (omega arith) (omega arith))

pub put_selector-requires : goal.put_selector-requires
put_selector-requires c =
    let a = low 1 c.requires.line c.if-kind-eq0.false c.source-a.ensures (omega arith) (omega arith) in
    let b = low 2 c.requires.line c.if-kind-eq0.false c.source-b.ensures (omega arith) (omega arith) in
    let s = low 3 c.requires.line c.if-kind-eq0.false c.source-s.ensures (omega arith) (omega arith) in
    gate_room _ _ _ _ _ (rw c.if-kind-eq-SELECTOR.true at
    (good-gate _ _ (kind_last c.requires.line) c.source-a.ensures c.source-b.ensures (λ _. c.source-s.ensures))) c.requires.room (omega arith) (omega arith) (omega arith) (omega arith)

pub returns-then-kind-eq-SELECTOR : goal.returns-then-kind-eq-SELECTOR
returns-then-kind-eq-SELECTOR c = put_line (rw c.if-kind-eq-SELECTOR.true at
    (good-gate _ _ (kind_last c.requires.line) c.source-a.ensures c.source-b.ensures (λ _. c.source-s.ensures))) c.put_selector.ensures

pub overflow_mul-a-2 : goal.overflow_mul-a-2
overflow_mul-a-2 c = omega (arith, low 1 c.requires.line c.if-kind-eq0.false c.source-a.ensures (omega arith) (omega arith))

pub overflow_add-a-2 : goal.overflow_add-a-2
overflow_add-a-2 c = omega (arith, low 1 c.requires.line c.if-kind-eq0.false c.source-a.ensures (omega arith) (omega arith))

pub overflow_mul-b-2 : goal.overflow_mul-b-2
overflow_mul-b-2 c = omega (arith, low 2 c.requires.line c.if-kind-eq0.false c.source-b.ensures (omega arith) (omega arith))

pub overflow_add-b-2 : goal.overflow_add-b-2
overflow_add-b-2 c = omega (arith, low 2 c.requires.line c.if-kind-eq0.false c.source-b.ensures (omega arith) (omega arith))

pub put_gate-requires : goal.put_gate-requires
put_gate-requires c =
    let a = low 1 c.requires.line c.if-kind-eq0.false c.source-a.ensures (omega arith) (omega arith) in
    let b = low 2 c.requires.line c.if-kind-eq0.false c.source-b.ensures (omega arith) (omega arith) in
    let pre = c.requires in (
      omega (arith, kind_last pre.line, c.if-kind-eq-SELECTOR.false),
      gate_room _ _ _ _ _ (good-gate _ _ (kind_last c.requires.line) c.source-a.ensures c.source-b.ensures (λ e. absurd (c.if-kind-eq-SELECTOR.false e))) pre.room (omega arith) (omega arith) (omega arith) (omega arith),
    )

pub returns : goal.returns
returns c = put_line (good-gate _ _ (kind_last c.requires.line) c.source-a.ensures c.source-b.ensures (λ e. absurd (c.if-kind-eq-SELECTOR.false e))) c.put_gate.ensures
