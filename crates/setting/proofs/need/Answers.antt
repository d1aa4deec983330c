-- `setting::need` meets its contract: X asks for nothing, and each kind chooses what the table has.
-- Assumes nothing.
use mathlib.Core.Path.{◌≡◌, ◌∙◌}
use Prim.Native.Nat.{ℕ, ◌<◌, ◌≤◌}
use native.Mathlib.Omega.{arith}
use borrow.Author.Tests.{ne_eqb}
use Rattle.trees.specs.Need.{need_of}
use Rattle.setting.specs.Owed.{need_by}
use Rattle.setting.proofs.Needs.{by_kind, none_asked}
use Rattle.setting.proofs.need.Goals as goal

-- what the kind of the gate says is what the table has
met : (kind v s : ℕ) {r : ℕ} → v < 2 → (1 ≤ s) × (s ≤ 3) → r ≡ need_by kind v s → r ≡ need_of kind v s
met kind v s known pin e = e ∙ by_kind kind v s known pin.0 pin.1

pub returns-then-v-gt1 : goal.returns-then-v-gt1
returns-then-v-gt1 c = none_asked _ _ _ c.if-v-gt1.true

pub returns-in-1 : goal.returns-in-1
unfolding need_by
returns-in-1 c = met _ _ _ (omega arith) c.requires (rw c.in-1.is c.on_first.ensures)

pub returns-in-2 : goal.returns-in-2
unfolding need_by
returns-in-2 c = met _ _ _ (omega arith) c.requires (rw c.in-2.is c.on_first-in-2.ensures)

pub returns-in-3 : goal.returns-in-3
unfolding need_by
returns-in-3 c = met _ _ _ (omega arith) c.requires (rw c.in-3.is c.on_first_or_both.ensures)

pub returns-in-4 : goal.returns-in-4
unfolding need_by
returns-in-4 c = met _ _ _ (omega arith) c.requires (rw c.in-4.is c.on_first_or_both-in-4.ensures)

pub returns-in-5 : goal.returns-in-5
unfolding need_by
returns-in-5 c = met _ _ _ (omega arith) c.requires (rw c.in-5.is c.on_first_or_both-in-5.ensures)

pub returns-in-6 : goal.returns-in-6
unfolding need_by
returns-in-6 c = met _ _ _ (omega arith) c.requires (rw c.in-6.is c.on_first_or_both-in-6.ensures)

pub returns-in-7 : goal.returns-in-7
unfolding need_by
returns-in-7 c = met _ _ _ (omega arith) c.requires (rw c.in-7.is c.after_zero.ensures)

pub returns-in-8 : goal.returns-in-8
unfolding need_by
returns-in-8 c = met _ _ _ (omega arith) c.requires (rw c.in-8.is c.after_zero-in-8.ensures)

pub returns-in-9 : goal.returns-in-9
unfolding need_by
returns-in-9 c = met _ _ _ (omega arith) c.requires (rw c.in-9.is c.on_selected.ensures)

pub returns-in_default : goal.returns-in_default
unfolding need_by
returns-in_default c =
    let k = c.args.kind in
    met _ _ _ (omega arith) c.requires
    (simp (
      ne_eqb k 1 (omega arith),
      ne_eqb k 2 (omega arith),
      ne_eqb k 3 (omega arith),
      ne_eqb k 4 (omega arith),
      ne_eqb k 5 (omega arith),
      ne_eqb k 6 (omega arith),
      ne_eqb k 7 (omega arith),
      ne_eqb k 8 (omega arith),
      ne_eqb k 9 (omega arith),
    ))
