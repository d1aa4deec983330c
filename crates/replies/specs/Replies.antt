-- What the fields of a reply say.
-- Assumes nothing.
use Rattle.answers.specs.Area.{Numbers}
use Rattle.replies.specs.declared.Reply.{Reply}

-- a reply in the paper's numbers
abbrev pub numbers_in : Reply → Numbers
numbers_in r = record { number = r.number; values = record { first = r.first; second = r.second; third = r.third; fourth = 0 } }
