-- `line_clauses::pin_variable` meets its contract: the stuck value, or the source.
-- Assumes nothing.
use native.Mathlib.Omega.{arith}
use mathlib.Core.Path.{◌≡◌}
use mathlib.Core.List.{List}
use Prim.Native.Nat.{ℕ, ◌<◌, ◌≤◌}
use Rattle.circuit.specs.Record.{pin_at}
use Rattle.line_clauses.specs.Owed.{GateReady}
use Rattle.line_clauses.proofs.Lines.{lower, pin-stuck, pin_source}
use Rattle.line_clauses.proofs.pin_variable.Goals as goal

-- the source is lower than the line
low : {c : List ℕ} {n k s s' r : ℕ} → GateReady c n k → 1 ≤ s → s ≤ 3 → s' ≡ s → r ≡ pin_at c k s' → (r < k) × (k < 2048)
low {s = s} g p q e is =
    (omega (arith, rw e at is, lower g s p q), omega (arith, g.line.inside, g.line.circuit.few))

pub returns-then-is_at : goal.returns-then-is_at
returns-then-is_at c = (pin-stuck _ _ _ _ _ c.is_at.ensures c.if-is_at.true, omega arith)

pub overflow_mul-result-2 : goal.overflow_mul-result-2
overflow_mul-result-2 c =
    let p = c.requires in
    omega (arith, low p.0 p.1 p.2 c.from.ensures c.source.ensures)

pub overflow_add-result-2 : goal.overflow_add-result-2
overflow_add-result-2 c =
    let p = c.requires in
    omega (arith, low p.0 p.1 p.2 c.from.ensures c.source.ensures)

pub returns : goal.returns
returns c =
    let is-source = pin_source _ _ _ _ _ c.is_at.ensures c.if-is_at.false c.requires.1 c.from.ensures c.source.ensures in
    let p = c.requires in
    (is-source, omega (arith, low p.0 p.1 p.2 c.from.ensures c.source.ensures))
