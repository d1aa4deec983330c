-- `suspect_areas::open_area` meets its contract: the rules first, then the bytes of the state in which all faults remain.
-- Assumes nothing.
use mathlib.Core.Path.{refl, sym, ap, ◌∙◌}
use native.Mathlib.Omega.{arith}
use Rattle.answers.proofs.Answer.{handed_on}
use Rattle.suspects.proofs.State.{state_opened}
use Rattle.suspects.proofs.Promise.{is_refused, is_taken}
use Rattle.suspect_areas.specs.Bytes.{bytes_of}
use Rattle.suspect_areas.proofs.Says.{fine_open}
use Rattle.suspect_areas.proofs.open_area.Goals as goal

pub all_remain-requires : goal.all_remain-requires
all_remain-requires c = let a = c.args in omega (arith, (fine_open a.area.now a.fault_count a.pattern_count a.table.now (sym c.check_opening.ensures ∙ c.in_ok-check_opening.was)).1.few_faults)

pub put_state-requires : goal.put_state-requires
put_state-requires c =
    let a = c.args in
    let w = fine_open a.area.now a.fault_count a.pattern_count a.table.now (sym c.check_opening.ensures ∙ c.in_ok-check_opening.was) in
    (rw c.all_remain.ensures (state_opened _ _ _ w.1.some_fault w.1.few_faults w.1.some_pattern w.1.few_patterns), w.0)

pub returns-in_err-check_opening : goal.returns-in_err-check_opening
returns-in_err-check_opening c = rw (handed_on c.from_residual.ensures.1) (is_refused (sym c.check_opening.ensures ∙ c.in_err-check_opening.was))

pub returns : goal.returns
returns c =
    is_taken (sym c.check_opening.ensures ∙ c.in_ok-check_opening.was) refl (c.put_state.ensures ∙ ap bytes_of c.all_remain.ensures)
