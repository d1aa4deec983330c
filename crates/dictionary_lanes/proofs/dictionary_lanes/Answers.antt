-- `dictionary_lanes::dictionary_lanes` meets its contract: a refusal is handed on, else the table is filled.
-- Assumes nothing.
use Rattle.dictionary.proofs.Checked.{all_accepts}
use Rattle.dictionary.proofs.Answer.{ready, refused_answer, made_answer}
use Rattle.answers.proofs.Answer.{handed_on}
use Rattle.dictionary_lanes.proofs.dictionary_lanes.Goals as goal

pub fill_groups-requires : goal.fill_groups-requires
fill_groups-requires c =
    let k = all_accepts c.check_all-checked.ensures c.in_ok-counts.was in
    rw (k.1, k.2) (ready k.0)

pub returns-in_err-counts : goal.returns-in_err-counts
returns-in_err-counts c = rw (handed_on c.from_residual.ensures.1) (refused_answer c.check_all-checked.ensures c.in_err-counts.was)

pub returns : goal.returns
returns c =
    let k = all_accepts c.check_all-checked.ensures c.in_ok-counts.was in
    let done = rw (k.1, k.2) at c.fill_groups.ensures in
    made_answer k.0 done.table_is done.work_is
