-- What the verdicts of the search over head lines mean for complete vectors of the circuit itself, and that both searches agree.
-- Assumes nothing.
use mathlib.Core.Path.{◌≡◌, sym, ap, ◌∙◌, subst}
use mathlib.Core.Logic.{◌↔◌}
use mathlib.Core.List.{List}
use Prim.Native.Nat.{ℕ, ◌+◌, ◌-◌, ◌^◌, ◌≤◌}
use native.Mathlib.Omega.{arith}
use lib.ListN.{length, get_or}
use Rattle.ground.specs.Choose.{one}
use Rattle.ground.proofs.Counting.{nth}
use Rattle.ground.proofs.Collect.{collect_nth}
use Rattle.gates.specs.Gate.{Refines}
use Rattle.circuit.specs.Record.{inputs_before}
use Rattle.circuit.specs.Formed.{WellFormed}
use Rattle.lists.specs.declared.Fault.{Fault}
use Rattle.simulate.specs.Boolean.{Vector, good, truth_at, Detects}
use Rattle.simulate.specs.Vectors.{Fills}
use Rattle.simulate.specs.Work.{good_of}
use Rattle.simulate.proofs.Fillings.{good-truth}
use Rattle.nodes.specs.declared.Verdict.TheVariants.{Test, Redundant}
use Rattle.nodes.specs.Node.{Node, IsNode, start}
use Rattle.nodes.specs.Order.{trail, nodes, test_of}
use Rattle.nodes.specs.Budget.{Decided}
use Rattle.nodes.proofs.Node.{start_is}
use Rattle.nodes.proofs.Verdicts.{says}
use Rattle.nodes.proofs.Walk.{walks}
use Rattle.nodes.proofs.Budget.{enough}
use Rattle.heads.specs.Heads.{head, heads_of}
use Rattle.trees.specs.Setting.{set_trees}
use Rattle.trees.proofs.Tree.{trees_set, trees_length}
use Rattle.cut.specs.Cut.{cut, head_line, head_vector}
use Rattle.cut.specs.Words.{HeadsServe}
use Rattle.cut.proofs.Detects.{detects-cut}
use Rattle.verdicts.proofs.Fillings.{filling, filling_fills}
use Rattle.verdicts.proofs.Meaning as meaning
use Rattle.head_verdicts.specs.Look.{head_look, head_verdict, head_test}
use Rattle.head_verdicts.proofs.Look.{head_looks, heads_mean}

-- a filling of the trees set for a node gives the head lines a filling of that node
pub fills_heads : {c : List ℕ} {m n : ℕ} → WellFormed c m n → (s : Node) → length s ≡ heads_of c n → (x : Vector) → Fills (set_trees c n s) x → Fills s (head_vector c n x)
unfolding head_vector head_line
fills_heads {c} {m} {n} well s size x fills i l known =
    let w = nth (head c n) n i (omega arith) in
    let set : Refines (get_or s i 0) (get_or (good_of c (set_trees c n s) n) w.place 0) =
    subst (λ (j : ℕ). Refines (get_or s j 0) (get_or (good_of c (set_trees c n s) n) w.place 0)) w.before (trees_set well s w.place w.below w.passes) in
    let e = set known in
    ap (λ (k : ℕ). one (truth_at good c x n k)) (collect_nth (head c n) (λ k. k) n i w)
    ∙ good-truth c (set_trees c n s) n (sym (trees_length c n s)) x fills w.place (rw e known)
    ∙ e

module _ (fault : Fault) {c : List ℕ} {n : ℕ} (small : fault.value ≤ 1) (well : WellFormed c (inputs_before c n) n) (serves : HeadsServe c n fault) where
  -- the test is a node of head lines
  test_node : (b k : ℕ) → head_verdict fault c n b ≡ Test k → IsNode (heads_of c n) (test_of (head_look fault c n) (start (heads_of c n)))
  test_node b k e =
      (meaning.fails
      (rw (says (head_look fault c n) b (nodes (head_look fault c n) (start (heads_of c n))) (sym e)).fails-is
      at (walks (head_looks fault well small) (start (heads_of c n)) (start_is (heads_of c n))))
      (start_is (heads_of c n))).0

  -- its test detects the fault: every filling of it, in the Boolean meaning
  pub test_detects : (b k : ℕ) → head_verdict fault c n b ≡ Test k → (x : Vector) → Fills (head_test fault c n) x → Detects c fault n x
  unfolding head_test
  test_detects b k e x fills =
      (detects-cut well fault serves x).1
      (meaning.test_detects (heads_mean fault well small) b k e (head_vector c n x)
      (fills_heads well (test_of (head_look fault c n) (start (heads_of c n))) (test_node b k e).size x fills))

  -- how many nodes the search without a budget looks at
  abbrev all : ℕ
  all = length (trail (head_look fault c n) (start (heads_of c n)))

  -- a test exactly if some vector detects
  pub test_exactly : (b k : ℕ) → (head_verdict fault c n b ≡ Test k) ↔ (((x : Vector) × Detects c fault n x) × (k ≡ all) × (k ≤ b))
  test_exactly b k =
      let t = meaning.test_exactly (heads_mean fault well small) b k in (
        λ e. let p = t.0 e in ((filling (head_test fault c n), test_detects b k e (filling (head_test fault c n)) (filling_fills (head_test fault c n))), p.1, p.2),
        λ p. t.1 ((head_vector c n p.0.0, (detects-cut well fault serves p.0.0).0 p.0.1), p.1, p.2),
      )

  -- redundant exactly if none does
  pub redundant_exactly : (b k : ℕ) → (head_verdict fault c n b ≡ Redundant k) ↔ (((x : Vector) → Detects c fault n x → ⊥) × (k ≡ all) × (k ≤ b))
  redundant_exactly b k =
      let r = meaning.redundant_exactly (heads_mean fault well small) b k in (
        λ e. let p = r.0 e in (λ x w. p.0 (head_vector c n x) ((detects-cut well fault serves x).0 w), p.1, p.2),
        λ p. r.1 (none p, p.1, p.2),
      )
    where
      none : ((x : Vector) → Detects c fault n x → ⊥) × (k ≡ all) × (k ≤ b) → (y : Vector) → Detects (cut c n) fault n y → ⊥
      none p y w =
          let t = (test_exactly b k).0 ((meaning.test_exactly (heads_mean fault well small) b k).1 ((y, w), p.1, p.2)) in
          p.0 t.0.0 t.0.1

  -- for h head lines a budget of 2 ^ (h + 1) - 1 brings a verdict
  pub heads_enough : heads_of c n ≤ 63 → Decided (head_verdict fault c n (2 ^ (heads_of c n + 1) - 1))
  heads_enough few = (enough (head_look fault c n) (heads_of c n) few).1
