-- `sides::visit` meets its contract: the good values, and a look at them.
-- Assumes nothing.
use mathlib.Core.Path.{◌≡◌, ap, ◌∙◌}
use mathlib.Core.List.{List}
use Prim.Native.Nat.{ℕ}
use lib.ListN.{take, drop}
use Rattle.simulate.specs.Owed.{Shaped}
use Rattle.simulate.proofs.Work.{good_front}
use Rattle.sides.proofs.Look.{node_small}
use Rattle.sides.proofs.visit.Goals as goal

sized : {c : List ℕ} {m l n : ℕ} → l ≡ m → Shaped c m n → Shaped c l n
sized e w = rw e w

pub good_values-requires : goal.good_values-requires
good_values-requires c = record { shaped = sized c.requires.1.size c.requires.0.shaped; small = node_small c.requires.1; two = c.requires.0.two }

pub returns : goal.returns
returns c =
    c.look_at.ensures c.args.node.now (node_small c.requires.1)
    (ap (take c.args.n) c.good_values.ensures ∙ good_front c.args.circuit.now c.args.node.now c.args.n (drop c.args.n c.args.work.now))
