-- `answers::put_numbers` meets its contract: four numbers, one behind the other.
-- Assumes nothing.
use Rattle.answers.proofs.Area.{four_numbers}
use Rattle.answers.proofs.put_numbers.Goals as goal

pub returns : goal.returns
returns c =
    four_numbers c.args.area.now c.put_eight.new.out c.put_eight-2.new.out c.put_eight-3.new.out _ c.requires
    c.put_eight.ensures c.put_eight-2.ensures c.put_eight-3.ensures c.put_eight-4.ensures
