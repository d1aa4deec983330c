-- What a node says of a fault is so for every filling, in the Boolean meaning: fail, it detects; left, it does not.
-- Assumes nothing.
use mathlib.Core.Path.{◌≡◌, sym}
use mathlib.Core.List.{List}
use Prim.Native.Nat.{ℕ, ◌≤◌}
use borrow.Author.Tests.{eqb-true, eq-eqb}
use Rattle.circuit.specs.Record.{inputs_before}
use Rattle.circuit.specs.Formed.{WellFormed}
use Rattle.lists.specs.declared.Fault.{Fault}
use Rattle.simulate.specs.Boolean.{Vector, Detects}
use Rattle.simulate.specs.Vectors.{Fills}
use Rattle.entry.proofs.Fillings.{differ_truths, agree_truths}
use Rattle.nodes.specs.Node.{Node, IsNode}
use Rattle.nodes.specs.Walk.{Looks}
use Rattle.sides.specs.Look.{look_of}
use Rattle.sides.proofs.Look.{look-fails, look-leaves, look_three, unknown-has_x}
use Rattle.verdicts.specs.Meaning.{FaithfulLook}

-- of whatever circuit, if a node without X always says something
module _ (fault : Fault) (c : List ℕ) (n : ℕ) (small : fault.value ≤ 1) (looks : Looks (inputs_before c n) (look_of fault c n)) where
  fail-detects : (s : Node) → IsNode (inputs_before c n) s → look_of fault c n s ≡ 1 → (x : Vector) → Fills s x → Detects c fault n x
  fail-detects s i e x fills =
      let w = look-fails fault c n s e in
      record {
        line = w.0;
        inside = w.1.inside;
        output = eq-eqb _ 1 w.1.output;
        differ = differ_truths fault small c s n (sym i.size) x fills w.0 w.1.holds;
      }

  left_not : (s : Node) → IsNode (inputs_before c n) s → look_of fault c n s ≡ 0 → (x : Vector) → Fills s x → Detects c fault n x → ⊥
  left_not s i e x fills d =
      let h = look-leaves fault c n s e d.line d.inside (eqb-true _ 1 d.output) in
      d.differ (agree_truths fault small c s n (sym i.size) x fills d.line h)

  pub looks_mean : FaithfulLook (inputs_before c n) (look_of fault c n) (Detects c fault n)
  looks_mean = record { looks = looks; fail = fail-detects; left = left_not }

-- so of an accepted one
pub means : (fault : Fault) (c : List ℕ) (n : ℕ) → fault.value ≤ 1 → WellFormed c (inputs_before c n) n → FaithfulLook (inputs_before c n) (look_of fault c n) (Detects c fault n)
means fault c n small well =
    looks_mean fault c n small
    (record { three = λ s i. look_three fault c n s; unknown = λ s i. unknown-has_x fault c n s small well i })
