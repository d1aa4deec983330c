-- Which faults are served: the test says what the words say.
-- Assumes nothing.
use mathlib.Core.Path.{◌≡◌, refl}
use mathlib.Core.Logic.{inl, inr}
use mathlib.Core.Bool.{Bool, true, false, ◌&&◌, ◌||◌, or-true}
use mathlib.Core.List.{List}
use Prim.Native.Nat.{ℕ}
use lib.Dec.{eqb}
use borrow.Author.Tests.{eq-eqb, eqb-true}
use Rattle.ground.proofs.Tests.{both}
use Rattle.answers.specs.Rules.{Same}
use Rattle.lists.specs.declared.Fault.{Fault}
use Rattle.heads.specs.Heads.{bound, head}
use Rattle.cut.specs.Cut.{heads_serve}
use Rattle.cut.specs.Words.{HeadsServe}

pub serves_says : (c : List ℕ) (n : ℕ) (fault : Fault) → Same (heads_serve c n fault) (HeadsServe c n fault)
unfolding heads_serve
serves_says c n fault = record { holds = holds (bound c n fault.line) refl; tests = tests }
  where
    holds : (t : Bool) → bound c n fault.line ≡ t → (t || (head c n fault.line && eqb fault.site 0)) ≡ true → HeadsServe c n fault
    holds true e h = inl e
    holds false e h = let w = both (head c n fault.line) _ h in inr (w.0, eqb-true _ 0 w.1)

    tests : HeadsServe c n fault → (bound c n fault.line || (head c n fault.line && eqb fault.site 0)) ≡ true
    tests (inl e) = rw e
    tests (inr w) = rw (w.0, eq-eqb fault.site 0 w.1, or-true)
