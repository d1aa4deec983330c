-- `clauses::put_all` meets its contract: the five parts, one after the other.
-- Assumes nothing.
use Rattle.clauses.proofs.Whole.{room_good, room_stuck, room_faulty, room_difference, room_last, all_laid}
use Rattle.clauses.proofs.put_all.Goals as goal

pub put_goods-a-requires : goal.put_goods-a-requires
put_goods-a-requires c = room_good c.requires

pub put_stuck-b-requires : goal.put_stuck-b-requires
put_stuck-b-requires c = room_stuck c.requires c.put_goods-a.ensures

pub put_faulties-c-requires : goal.put_faulties-c-requires
put_faulties-c-requires c =
    room_faulty c.requires c.put_goods-a.ensures c.put_stuck-b.ensures

pub put_differences-d-requires : goal.put_differences-d-requires
put_differences-d-requires c =
    room_difference c.requires c.put_goods-a.ensures c.put_stuck-b.ensures c.put_faulties-c.ensures

pub put_last-requires : goal.put_last-requires
put_last-requires c =
    room_last c.requires c.put_goods-a.ensures c.put_stuck-b.ensures c.put_faulties-c.ensures c.put_differences-d.ensures

pub returns : goal.returns
returns c =
    all_laid c.requires c.put_goods-a.ensures c.put_stuck-b.ensures c.put_faulties-c.ensures
    c.put_differences-d.ensures c.put_last.ensures
