-- `order::readers` meets its contract. The invariant: what is written is right for the gates from h on.
-- Assumes nothing.
use Rattle.order.proofs.FirstReaders.{ReadersFrom}
use Rattle.order.proofs.readers.Given as goal

abbrev pub invariant-loop-h : goal.invariant-loop-h
invariant-loop-h l = ReadersFrom l.a l.b l.reader l.h
