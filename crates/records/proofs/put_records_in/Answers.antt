-- `records::put_records_in` meets its contract: the lines are numbered, the outputs marked, the records written.
-- Assumes nothing.
use Rattle.records.proofs.Whole.{number_room, not_set, room_is, has_lines, told, all_written}
use Rattle.records.proofs.put_records_in.Goals as goal

pub number_lines-requires : goal.number_lines-requires
number_lines-requires c = number_room c.requires

pub mark_outputs-requires : goal.mark_outputs-requires
mark_outputs-requires c = not_set c.requires

pub put_lines-requires : goal.put_lines-requires
put_lines-requires c =
    record {
      put_lines_ready = has_lines c.requires c.number_lines.auto.line c.mark_outputs.auto.flag;
      records_len = room_is c.requires;
    }

pub returns : goal.returns
returns c =
    let n = c.number_lines in
    let o = c.mark_outputs in
    all_written (told c.requires n.auto.line o.auto.flag n.ensures o.ensures) c.put_lines.ensures
