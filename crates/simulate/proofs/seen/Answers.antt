-- `simulate::seen` meets its contract: at the fault's site the stuck value, elsewhere the value itself.
-- Assumes nothing.
use mathlib.Core.Path.{sym}
use Rattle.simulate.proofs.Below.{stuck_site, stuck_off}
use Rattle.simulate.proofs.seen.Goals as goal

pub returns-then-site-fault : goal.returns-then-site-fault
returns-then-site-fault c = sym (stuck_site _ _ _ c.if-site-fault.true)

pub returns-else-site-fault : goal.returns-else-site-fault
returns-else-site-fault c = sym (stuck_off _ _ _ _ (λ _ e. c.if-site-fault.false e))
