-- What the search over head lines leaves in lent memory, and that a larger budget changes neither a verdict nor the test.
-- Assumes nothing.
use mathlib.Core.Path.{◌≡◌, refl, sym, ap, ◌∙◌, subst}
use mathlib.Core.Logic.{⊎_elim}
use mathlib.Core.Bool.{Bool, true, false}
use mathlib.Core.List.{List, []}
use Prim.Native.Nat.{ℕ, ◌+◌, ◌-◌, ◌≤◌, ◌<◌}
use native.Mathlib.Omega.{arith}
use lib.ListN.{length, get_or, take, drop}
use lib.Seq.{get_or-take, get_or-drop}
use Rattle.ground.proofs.Tests.{either}
use Rattle.gates.specs.Gate.{X}
use Rattle.circuit.specs.Record.{lines_of}
use Rattle.lists.specs.Faults.{fault_at}
use Rattle.simulate.specs.Work.{good_of, faulty_of}
use Rattle.simulate.proofs.Work.{good_front, behind-good}
use Rattle.nodes.specs.declared.Verdict.{Verdict}
use Rattle.nodes.specs.declared.Verdict.TheVariants.{Test}
use Rattle.nodes.specs.Node.{Node, start}
use Rattle.nodes.specs.Order.{trail}
use Rattle.nodes.specs.Budget.{Decided, test_by}
use Rattle.nodes.proofs.Budget as budget
use Rattle.sides.specs.Look.{look_work}
use Rattle.verdicts.proofs.Verdicts as inputs
use Rattle.heads.specs.Heads.{bound, head}
use Rattle.cut.specs.Cut.{cut}
use Rattle.head_verdicts.specs.Look.{head_look, head_test}
use Rattle.head_verdicts.proofs.Look.{others_x}
use Rattle.search_heads.specs.Promise.{served, head_test_for, head_work_for, HeadSearches}
use Rattle.head_meaning.specs.Told.{head_count, all_head_nodes, head_trail, head_works}
use Rattle.head_meaning.proofs.Meaning.{fine, well, serves, is, buffer, as_search}
use Rattle.std.specs.Prelude.{Ok}

-- ---- of a fault that is served

module _ {c f : List ℕ} {b : ℕ} {t w : List ℕ} {v : Verdict} {t' w' : List ℕ} (p : HeadSearches c f b t w (Ok v) t' w') (s : served c (fault_at f 0) ≡ true) where
  -- the test buffer is written only for a test: the node with its trees set
  pub test_buffer : t' ≡ test_by v t (head_test (fault_at f 0) c (lines_of c))
  unfolding head_test_for
  test_buffer = p.test ∙ rw ((fine p).0, s, ← is p s)

  -- with budget 0 the work memory is untouched
  pub work_untouched : b ≡ 0 → w' ≡ w
  unfolding head_work_for
  work_untouched e = p.work ∙ rw ((fine p).0, s, e) (budget.untouched (head_look (fault_at f 0) c (lines_of c)) (head_works c (fault_at f 0)) w (start (head_count c)))

  -- given up, it holds good and faulty values of the b-th node; else of the last one looked at
  pub work_of_b_th : 0 < b → b ≤ all_head_nodes c (fault_at f 0) → w' ≡ head_works c (fault_at f 0) (get_or (head_trail c (fault_at f 0)) (b - 1) [])
  unfolding head_work_for
  work_of_b_th some h = p.work ∙ rw ((fine p).0, s) (budget.of_b_th (head_look (fault_at f 0) c (lines_of c)) (head_works c (fault_at f 0)) w (start (head_count c)) b some h)

  pub work_of_last : 0 < b → all_head_nodes c (fault_at f 0) ≤ b → w' ≡ head_works c (fault_at f 0) (get_or (head_trail c (fault_at f 0)) (all_head_nodes c (fault_at f 0) - 1) [])
  unfolding head_work_for
  work_of_last some h = p.work ∙ rw ((fine p).0, s) (budget.of_last (head_look (fault_at f 0) c (lines_of c)) (head_works c (fault_at f 0)) w (start (head_count c)) b some h)

  -- so it is that of some node
  of_some_node : 0 < b → (node : Node) × (w' ≡ head_works c (fault_at f 0) node)
  of_some_node some =
      ⊎_elim (λ l. (_, work_of_b_th some (omega arith))) (λ l. (_, work_of_last some l)) (either b (all_head_nodes c (fault_at f 0)))

  -- and every free line that is no head line is X in it, in both halves
  pub others_are_x : 0 < b
      → (k : ℕ)
      → k < lines_of c
      → bound c (lines_of c) k ≡ false
      → head c (lines_of c) k ≡ false
      → (get_or w' k 0 ≡ X) × (get_or w' (lines_of c + k) 0 ≡ X)
  unfolding look_work
  others_are_x some k l free none =
      let n = lines_of c in
      let d = cut c n in
      let last = of_some_node some in
      let x = others_x (fault_at f 0) (well p) (serves p s) last.0 k l free none in
      let faulty = faulty_of (fault_at f 0) d last.0 n in (
        sym (get_or-take n w' k 0 l) ∙ ap (λ (vs : List ℕ). get_or (take n vs) k 0) last.1 ∙ ap (λ (vs : List ℕ). get_or vs k 0) (good_front d last.0 n faulty) ∙ x.0,
        sym (get_or-drop n w' k 0) ∙ ap (λ (vs : List ℕ). get_or (drop n vs) k 0) last.1 ∙ ap (λ (vs : List ℕ). get_or vs k 0) (behind-good d last.0 n faulty) ∙ x.1,
      )

-- ---- served or not

-- a larger budget never changes a verdict, nor the test
module _ {c f : List ℕ} {b b₂ : ℕ} {t w t₂ w₂ : List ℕ} {v v₂ : Verdict} {t' w' t₂' w₂' : List ℕ} (more : b ≤ b₂)
    (p : HeadSearches c f b t w (Ok v) t' w') (q : HeadSearches c f b₂ t₂ w₂ (Ok v₂) t₂' w₂') (d : Decided v) where
  pub larger : v₂ ≡ v
  larger = go (served c (fault_at f 0)) refl
    where
      go : (u : Bool) → served c (fault_at f 0) ≡ u → v₂ ≡ v
      go true s = is q s ∙ budget.larger (head_look (fault_at f 0) c (lines_of c)) (start (head_count c)) b b₂ more (subst Decided (is p s) d) ∙ sym (is p s)
      go false s = inputs.larger more (as_search p s) (as_search q s) d

  pub larger_test : (k : ℕ) → v ≡ Test k → t₂' ≡ t'
  larger_test k e = go (served c (fault_at f 0)) refl
    where
      go : (u : Bool) → served c (fault_at f 0) ≡ u → t₂' ≡ t'
      go true s = buffer q s k (larger ∙ e) ∙ sym (buffer p s k e)
      go false s = inputs.larger_test more (as_search p s) (as_search q s) d k e
