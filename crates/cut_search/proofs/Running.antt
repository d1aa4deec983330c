-- The search of the cut circuit, as the functions put it together.
-- Assumes nothing.
use mathlib.Core.Path.{◌≡◌, refl, sym, ap, ◌∙◌, subst}
use mathlib.Core.List.{List, ◌++◌}
use Prim.Native.Nat.{ℕ, ◌*◌, ◌≤◌}
use native.Mathlib.Nat.{le_refl}
use native.Mathlib.Omega.{arith}
use lib.Dec.{eqb}
use lib.ListN.{length, get_or, take, drop}
use Rattle.ground.specs.Below.{count_below}
use Rattle.ground.proofs.Counting.{count_same}
use Rattle.ground.proofs.Put.{copied}
use Rattle.circuit.specs.Record.{inputs_before}
use Rattle.lists.specs.declared.Fault.{Fault}
use Rattle.nodes.specs.declared.Verdict.{Verdict}
use Rattle.nodes.specs.declared.Verdict.TheVariants.{Test, Redundant, GivenUp}
use Rattle.nodes.specs.Node.{Node, IsNode, start}
use Rattle.nodes.specs.Order.{Look, test_of}
use Rattle.nodes.specs.Budget.{test_by}
use Rattle.nodes.specs.Owed.{NodeLeft, SideDone}
use Rattle.nodes.proofs.Node.{start_is}
use Rattle.sides.specs.Look.{look_of, look_work}
use Rattle.sides.specs.Owed.{SideReady}
use Rattle.heads.specs.Heads.{heads_of}
use Rattle.heads.proofs.Marks.{heads}
use Rattle.trees.specs.Setting.{set_trees}
use Rattle.setting.specs.Owed.{TreesReady}
use Rattle.cut.specs.Cut.{cut}
use Rattle.cut.proofs.Lines.{cut-inputs}
use Rattle.cut_lines.specs.Owed.{CutReady}
use Rattle.cut_search.specs.Owed.{SearchCutReady, RunCutReady, RunHeadsReady, HeadRunDone}
use Rattle.cut_search.proofs.Cut.{well, sourced, few_heads, cut-ready, test_size}

-- ---- the cut circuit is there

module _ {c marks lines : List ℕ} {fault : Fault} {s : Node} {n test room : ℕ} (p : SearchCutReady c marks lines fault s n test room) where
  pub side-ready : SideReady lines fault n room × IsNode (inputs_before lines n) s
  side-ready = rw p.lines_are (cut-ready p.ready, rw (cut-inputs (well p.ready.known) n (le_refl n)) p.node)

  pub trees_ready : {h : ℕ} → h ≡ length s → TreesReady c marks h n test
  trees_ready e = record {
    sourced = sourced p.ready.known;
    marked = p.ready.marked;
    heads_are = e ∙ p.node.size;
    inputs_are = test_size p.ready;
  }

  -- what is left of the node, with its trees set
  trees_left : (look : Look) (s' : Node) (r : Verdict) (t : List ℕ) → NodeLeft look s s' r → test_by r t (set_trees c n s') ≡ test_by r t (set_trees c n (test_of look s))
  trees_left look s' (Test k) t e = ap (set_trees c n) e
  trees_left look s' (Redundant k) t e = refl
  trees_left look s' (GivenUp k) t e = refl

  pub cut-done : {b : ℕ} {t w : List ℕ} {r : Verdict} {s' t' w' : List ℕ}
      → SideDone (look_of fault lines n) (look_work fault lines n) b s w r s' w'
      → t' ≡ test_by r t (set_trees c n s')
      → HeadRunDone fault c n s b t w r t' w'
  cut-done {b} {t} {w} {r} {s'} {t'} {w'} q e =
      let a : SideDone (look_of fault (cut c n) n) (look_work fault (cut c n) n) b s w r s' w' =
      subst (λ (l : List ℕ). SideDone (look_of fault l n) (look_work fault l n) b s w r s' w') p.lines_are q in
      record { verdict = a.verdict; test = e ∙ trees_left (look_of fault (cut c n) n) s' r t a.node; work = a.memory }

-- ---- before the circuit is cut

module _ {c marks : List ℕ} {lines : ℕ} {fault : Fault} {s : Node} {n test room : ℕ} (p : RunCutReady c marks lines fault s n test room) where
  pub size : length c ≡ 8 * n
  size = (well p.ready.known).size

  pub copy_room : length c ≤ lines
  copy_room = omega (arith, size, p.lines_size)

  pub lines_ready : (l : List ℕ) {l' : List ℕ} → length l ≡ lines → l' ≡ take (length c) c ++ drop (length c) l → CutReady c marks l'
  lines_ready l e q = record {
    size = rw p.ready.marked.long size;
    marked = rw p.ready.marked.long p.ready.marked;
    copied = q ∙ copied c l (size ∙ sym p.lines_size ∙ sym e);
  }

  pub search_ready : {l : List ℕ} → l ≡ cut c (length marks) → SearchCutReady c marks l fault s n test room
  search_ready e = record { ready = p.ready; node = p.node; lines_are = e ∙ ap (cut c) p.ready.marked.long }

-- ---- before the head lines are counted

module _ {c marks : List ℕ} {lines : ℕ} {fault : Fault} {n test room : ℕ} (p : RunHeadsReady c marks lines fault n test room) where
  pub heads_are : {h : ℕ} → h ≡ count_below (length marks) (λ k. eqb (get_or marks k 0) 1) → h ≡ heads_of c n
  heads_are e = e ∙ rw p.ready.marked.long (count_same n _ _ (heads p.ready.marked))

  pub few : {h : ℕ} → h ≡ count_below (length marks) (λ k. eqb (get_or marks k 0) 1) → h ≤ 64
  few e = omega (arith, heads_are e, few_heads p.ready.known)

  pub cut_run_ready : {s : Node} → s ≡ start (heads_of c n) → RunCutReady c marks lines fault s n test room
  cut_run_ready e = record { ready = p.ready; node = rw e (start_is (heads_of c n)); lines_size = p.lines_size }

-- what is left of an equal node
pub done_of : {fault : Fault} {c : List ℕ} {n : ℕ} {s s₂ : Node} {b : ℕ} {t w : List ℕ} {r : Verdict} {t' w' : List ℕ}
    → s ≡ s₂
    → HeadRunDone fault c n s b t w r t' w'
    → HeadRunDone fault c n s₂ b t w r t' w'
done_of e p = rw (← e) p
