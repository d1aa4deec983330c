-- `inspect::find` meets its contract: what is found is what is defined, since nothing before it was.
-- Assumes nothing.
use Rattle.inspect.proofs.InOrder.{found-lost, found-pair, spare-ready, found-spare, found_sound}
use Rattle.inspect.proofs.find.Goals as goal

pub returns-in-Some : goal.returns-in-Some
returns-in-Some c = found-lost c.requires c.in-Some.ensures

pub returns-in-Some-first_paired : goal.returns-in-Some-first_paired
returns-in-Some-first_paired c = found-pair c.requires c.in_default.ensures c.in-Some-first_paired.ensures

pub first_spare-requires : goal.first_spare-requires
first_spare-requires c = spare-ready c.requires c.in_default.ensures c.in_default-first_paired.ensures

pub returns-in-Some-first_spare : goal.returns-in-Some-first_spare
returns-in-Some-first_spare c =
    found-spare c.requires c.in_default.ensures c.in_default-first_paired.ensures c.in-Some-first_spare.ensures

pub returns : goal.returns
returns c =
    found_sound c.requires c.in_default.ensures c.in_default-first_paired.ensures c.in_default-first_spare.ensures
