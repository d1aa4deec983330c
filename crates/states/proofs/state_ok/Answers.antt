-- `states::state_ok` meets its contract: each part of the layout is tested.
-- Assumes nothing.
use mathlib.Core.Bool.{Bool}
use Prim.Native.Nat.{ℕ}
use lib.Dec.{eqb}
use Rattle.std.proofs.Common.{rules, arith}
use Rattle.std.proofs.lemmas.Grind.{common_steps}
use Rattle.std.proofs.lemmas.Bool.Decides.{nat_tests}
use borrow.Author.Tests.{tests}
use Rattle.ground.proofs.Search.{any_over}
use Rattle.states.specs.States.{state_line}
use Rattle.states.specs.Rules.{state_ok}
use Rattle.states.proofs.state_ok.Goals as goal

pub returns-then-circuit-m-eq0 : goal.returns-then-circuit-m-eq0
unfolding state_ok
returns-then-circuit-m-eq0 c =
    let seen : ℕ → Bool = λ q. eqb (state_line c.args.states.now q) (state_line c.args.states.now c.args.r) in
    let found = any_over seen _ _ _ c.any.ensures.ran (λ x q k l. search (rules, tests)) (λ x q k. search (rules, tests)) in
    grind (arith, common_steps, nat_tests)

pub returns-else-circuit-m-eq0 : goal.returns-else-circuit-m-eq0
unfolding state_ok
returns-else-circuit-m-eq0 c = grind (arith, common_steps, nat_tests)
