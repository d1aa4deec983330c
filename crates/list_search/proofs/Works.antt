-- The work memory that the searches leave, one after the other: it is that of the last whose budget is not 0.
-- Assumes nothing.
use mathlib.Core.Path.{◌≡◌, sym, ap, ◌∙◌}
use mathlib.Core.Logic.{⊎_elim}
use mathlib.Core.List.{List}
use Prim.Native.Nat.{ℕ, zero, suc, ◌-◌, ◌≤◌, ◌<◌}
use native.Mathlib.Nat.{eq-or-lt_of_le}
use native.Mathlib.Omega.{arith}
use lib.ListN.{length, get_or}
use Rattle.ground.proofs.Tests.{either}
use Rattle.circuit.specs.Record.{lines_of, inputs_of}
use Rattle.lists.specs.declared.Fault.{Fault}
use Rattle.lists.specs.Faults.{fault_at}
use Rattle.nodes.specs.Node.{Node, start}
use Rattle.nodes.specs.Order.{Look, trail}
use Rattle.nodes.specs.Budget.{memory_of}
use Rattle.nodes.proofs.Budget.{untouched, of_b_th, of_last}
use Rattle.sides.specs.Look.{look_work}
use Rattle.search.specs.Promise.{look, work_for}
use Rattle.list_search.specs.Works.{works_to}
use Rattle.list_search.specs.Owed.{AfterLast}

-- a search that looks at a node leaves nothing of what was there
memory_any : (look : Look) (after : Node → List ℕ) (b : ℕ) (w v : List ℕ) (s : Node) → 0 < b → memory_of look after b w s ≡ memory_of look after b v s
memory_any look after b w v s some =
    ⊎_elim
    (λ h. of_b_th look after w s b some (omega arith) ∙ sym (of_b_th look after v s b some (omega arith)))
    (λ h. of_last look after w s b some h ∙ sym (of_last look after v s b some h))
    (either b (length (trail look s)))

module _ (c : List ℕ) (fault : Fault) where
  pub work_any : (b : ℕ) (w v : List ℕ) → 0 < b → work_for c fault b w ≡ work_for c fault b v
  unfolding work_for
  work_any b w v some = memory_any (look c fault) (look_work fault c (lines_of c)) b w v (start (inputs_of c)) some

  -- and one that looks at none leaves all of it
  pub work_none : (w : List ℕ) → work_for c fault 0 w ≡ w
  unfolding work_for
  work_none w = untouched (look c fault) (look_work fault c (lines_of c)) w (start (inputs_of c))

module _ (c fs bs w : List ℕ) {stop : ℕ} (a : AfterLast bs stop) where
  works_stop : (n : ℕ) → stop ≤ n → works_to c fs bs w n ≡ works_to c fs bs w stop
  unfolding works_to
  works_stop zero h = let e : stop ≡ 0 = omega arith in rw e
  works_stop (suc n) h =
      ⊎_elim
      (λ (e : stop ≡ suc n). rw e)
      (λ (l : stop < suc n). rw (a.none n (omega arith)) (work_none c (fault_at fs n) (works_to c fs bs w n)) ∙ works_stop n (omega arith))
      (eq-or-lt_of_le h)

  pub works_none : (n : ℕ) → stop ≡ 0 → works_to c fs bs w n ≡ w
  unfolding works_to
  works_none n e = works_stop n (omega arith) ∙ rw e

  pub works_last : (n : ℕ) → stop ≤ n → 0 < stop → (v : List ℕ) → works_to c fs bs w n ≡ work_for c (fault_at fs (stop - 1)) (get_or bs (stop - 1) 0) v
  unfolding works_to
  works_last n h some v =
      let e : stop ≡ suc (stop - 1) = omega arith in
      works_stop n h
      ∙ ap (works_to c fs bs w) e
      ∙ work_any c (fault_at fs (stop - 1)) (get_or bs (stop - 1) 0) (works_to c fs bs w (stop - 1)) v (a.last some)
