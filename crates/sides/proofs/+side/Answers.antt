-- `sides::side` meets its contract. The measure is the number of X's of the node; each answer is a law of `Ways`.
-- Assumes nothing.
use mathlib.Core.Path.{◌≡◌, sym, ◌∙◌, subst}
use mathlib.Core.List.{List}
use Prim.Native.Nat.{ℕ, ◌<◌}
use native.Mathlib.Omega.{arith}
use lib.ListN.{set, length-set}
use Rattle.circuit.specs.Record.{inputs_before}
use Rattle.lists.specs.declared.Fault.{Fault}
use Rattle.nodes.specs.declared.Verdict.{Verdict}
use Rattle.nodes.specs.declared.Verdict.TheVariants.{Redundant}
use Rattle.nodes.specs.Node.{Node, IsNode, count_x, first_x}
use Rattle.nodes.specs.Order.{Look}
use Rattle.nodes.specs.Owed.{SideDone}
use Rattle.nodes.proofs.Node.{found_first, fewer, restored, set-again, set_is}
use Rattle.nodes.proofs.Ways.{Open, from_node, fits, spent, failed, passed, first_test, first_spent, second_test, second_none, second_spent}
use Rattle.sides.specs.Look.{look_of, look_work}
use Rattle.sides.specs.Owed.{SideReady, VisitDone}
use Rattle.sides.proofs.+side.Goals as goal

-- once the work memory is another of that length
ready_with : {c : List ℕ} {fault : Fault} {n room other : ℕ} → SideReady c fault n room → other ≡ room → SideReady c fault n other
ready_with r same = record { shaped = r.shaped; line = r.line; value = r.value; looks = r.looks; two = same ∙ r.two }

module _ {fault : Fault} {c : List ℕ} {n e : ℕ} {s : Node} {w : List ℕ} where
  -- the place of the first X, where the visit says neither
  opened : {room left at : ℕ}
      → SideReady c fault n room
      → IsNode (inputs_before c n) s
      → (left ≡ 0 → ⊥)
      → VisitDone fault c n s e w
      → e ≡ 2
      → at ≡ first_x s
      → Open (look_of fault c n) left s at
  opened r i some told neither e =
      let unknown = sym told.says ∙ neither in
      record { more = omega arith; unknown = unknown; first = found_first e (r.looks.unknown _ i unknown) }

  -- the first side begins with the work memory of the visit
  first_side : {look : Look} {after : Node → List ℕ} {b : ℕ} {s0 s1 : Node} {r : Verdict} {w1 : List ℕ}
      → VisitDone fault c n s e w
      → SideDone look after b s0 w r s1 w1
      → SideDone look after b s0 (look_work fault c n s) r s1 w1
  first_side {look} {after} {b} {s0} {s1} {r} {w1} told f = subst (λ (x : List ℕ). SideDone look after b s0 x r s1 w1) told.work f

-- the node of the second side is first known as the first side left it, which is the entry's with a 1
module _ (s : Node) (at : ℕ) {look : Look} {after : Node → List ℕ} {b m : ℕ} {s1 : Node} {w w1 : List ℕ} (f : SideDone look after b (set s at 0) w (Redundant m) s1 w1) where
  again : set s1 at 1 ≡ set s at 1
  again = set-again s at 0 1 f.node

  second_side : {d : ℕ} {r : Verdict} {s2 : Node} {w2 : List ℕ} → SideDone look after d (set s1 at 1) w1 r s2 w2 → SideDone look after d (set s at 1) w1 r s2 w2
  second_side g = from_node g again

pub returns-then-left-eq0 : goal.returns-then-left-eq0
returns-then-left-eq0 t c = rw c.if-left-eq0.true spent

pub returns-then-e-eq1 : goal.returns-then-e-eq1
returns-then-e-eq1 t c =
    let told = c.visit-e.ensures in
    failed (omega arith) told.work (sym told.says ∙ c.if-e-eq1.true)

pub returns-then-e-ne2 : goal.returns-then-e-ne2
returns-then-e-ne2 t c =
    let told = c.visit-e.ensures in
    passed (omega arith) told.work (λ p. c.if-e-eq1.false (told.says ∙ p)) (λ p. c.if-e-ne2.true (told.says ∙ p))

pub bounds-node-at : goal.bounds-node-at
bounds-node-at t c =
    (opened c.requires.0 c.requires.1 c.if-left-eq0.false c.visit-e.ensures c.if-e-ne2.false c.first_x-at.ensures).first.inside

pub side-a-requires : goal.side-a-requires
side-a-requires t c =
    let o = opened c.requires.0 c.requires.1 c.if-left-eq0.false c.visit-e.ensures c.if-e-ne2.false c.first_x-at.ensures in (
      fewer (omega arith) o.first c.decreases,
      (ready_with c.requires.0 c.visit-e.auto.work, set_is _ 0 (omega arith) c.requires.1),
    )

pub bounds-node-at-in-Redundant : goal.bounds-node-at-in-Redundant
bounds-node-at-in-Redundant t c =
    let o = opened c.requires.0 c.requires.1 c.if-left-eq0.false c.visit-e.ensures c.if-e-ne2.false c.first_x-at.ensures in
    omega (arith, o.first.inside, length-set c.args.node.now c.first_x-at.result 0, c.side-a.auto.node)

pub overflow_sub-left-in-Redundant-2 : goal.overflow_sub-left-in-Redundant-2
overflow_sub-left-in-Redundant-2 t c =
    fits (first_side c.visit-e.ensures c.in-Redundant.ensures)

pub side-b-requires : goal.side-b-requires
side-b-requires t c =
    let o = opened c.requires.0 c.requires.1 c.if-left-eq0.false c.visit-e.ensures c.if-e-ne2.false c.first_x-at.ensures in
    let f = first_side c.visit-e.ensures c.in-Redundant.ensures in
    let same = again c.args.node.now c.first_x-at.result f in
    let falls : count_x (set c.args.node.now c.first_x-at.result 1) < t = fewer (omega arith) o.first c.decreases in (
      subst (λ (s : Node). count_x s < t) (sym same) falls,
      (
        ready_with c.requires.0 (c.side-a.auto.work ∙ c.visit-e.auto.work),
        subst (IsNode _) (sym same) (set_is _ 1 (omega arith) c.requires.1),
      ),
    )

pub bounds-node-at-in-Redundant-b : goal.bounds-node-at-in-Redundant-b
bounds-node-at-in-Redundant-b t c =
    let o = opened c.requires.0 c.requires.1 c.if-left-eq0.false c.visit-e.ensures c.if-e-ne2.false c.first_x-at.ensures in
    omega (arith, o.first.inside, length-set c.args.node.now c.first_x-at.result 0, c.side-a.auto.node, length-set c.side-a.new.node c.first_x-at.result 1, c.side-b.auto.node)

pub overflow_add-result : goal.overflow_add-result
overflow_add-result t c =
    let o = opened c.requires.0 c.requires.1 c.if-left-eq0.false c.visit-e.ensures c.if-e-ne2.false c.first_x-at.ensures in
    let f = first_side c.visit-e.ensures c.in-Redundant.ensures in
    omega (arith, fits f, o.more, c.ranges.left)

pub overflow_add-result-in-Redundant-b : goal.overflow_add-result-in-Redundant-b
overflow_add-result-in-Redundant-b t c =
    let o = opened c.requires.0 c.requires.1 c.if-left-eq0.false c.visit-e.ensures c.if-e-ne2.false c.first_x-at.ensures in
    let f = first_side c.visit-e.ensures c.in-Redundant.ensures in
    let g = second_side c.args.node.now c.first_x-at.result f c.in-Redundant-b.ensures in
    omega (arith, fits f, fits g, o.more, c.ranges.left)

pub overflow_add-result-in-Test-b : goal.overflow_add-result-in-Test-b
overflow_add-result-in-Test-b t c =
    let o = opened c.requires.0 c.requires.1 c.if-left-eq0.false c.visit-e.ensures c.if-e-ne2.false c.first_x-at.ensures in
    let f = first_side c.visit-e.ensures c.in-Redundant.ensures in
    omega (arith, fits f, o.more, c.ranges.left)

pub overflow_add-result-in-Test-b-2 : goal.overflow_add-result-in-Test-b-2
overflow_add-result-in-Test-b-2 t c =
    let o = opened c.requires.0 c.requires.1 c.if-left-eq0.false c.visit-e.ensures c.if-e-ne2.false c.first_x-at.ensures in
    let f = first_side c.visit-e.ensures c.in-Redundant.ensures in
    let g = second_side c.args.node.now c.first_x-at.result f c.in-Test-b.ensures in
    omega (arith, fits f, fits g, o.more, c.ranges.left)

pub overflow_add-result-in-Test : goal.overflow_add-result-in-Test
overflow_add-result-in-Test t c =
    let o = opened c.requires.0 c.requires.1 c.if-left-eq0.false c.visit-e.ensures c.if-e-ne2.false c.first_x-at.ensures in
    let f = first_side c.visit-e.ensures c.in-Test.ensures in
    omega (arith, fits f, o.more, c.ranges.left)

pub returns-in-Redundant-b : goal.returns-in-Redundant-b
returns-in-Redundant-b t c =
    let o = opened c.requires.0 c.requires.1 c.if-left-eq0.false c.visit-e.ensures c.if-e-ne2.false c.first_x-at.ensures in
    let f = first_side c.visit-e.ensures c.in-Redundant.ensures in
    let g = second_side c.args.node.now c.first_x-at.result f c.in-Redundant-b.ensures in
    second_none o f (restored 1 o.first g.node) g

pub returns-in-Test-b : goal.returns-in-Test-b
returns-in-Test-b t c =
    let o = opened c.requires.0 c.requires.1 c.if-left-eq0.false c.visit-e.ensures c.if-e-ne2.false c.first_x-at.ensures in
    let f = first_side c.visit-e.ensures c.in-Redundant.ensures in
    let g = second_side c.args.node.now c.first_x-at.result f c.in-Test-b.ensures in
    second_test o f g

pub returns-in-GivenUp-b : goal.returns-in-GivenUp-b
returns-in-GivenUp-b t c =
    let o = opened c.requires.0 c.requires.1 c.if-left-eq0.false c.visit-e.ensures c.if-e-ne2.false c.first_x-at.ensures in
    let f = first_side c.visit-e.ensures c.in-Redundant.ensures in
    let g = second_side c.args.node.now c.first_x-at.result f c.in-GivenUp-b.ensures in
    second_spent o f g

pub returns-in-Test : goal.returns-in-Test
returns-in-Test t c =
    let o = opened c.requires.0 c.requires.1 c.if-left-eq0.false c.visit-e.ensures c.if-e-ne2.false c.first_x-at.ensures in
    first_test o (first_side c.visit-e.ensures c.in-Test.ensures)

pub returns-in-GivenUp : goal.returns-in-GivenUp
returns-in-GivenUp t c =
    let o = opened c.requires.0 c.requires.1 c.if-left-eq0.false c.visit-e.ensures c.if-e-ne2.false c.first_x-at.ensures in
    first_spent o (first_side c.visit-e.ensures c.in-GivenUp.ensures)
