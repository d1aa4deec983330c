-- What a node says of a fault, in the search's own words, and the work memory once it was looked at.
-- Assumes nothing.
use Rattle.std.specs.Prelude.{List, ℕ}
use Rattle.lists.specs.declared.Fault.{Fault}
use Rattle.simulate.specs.Work.{good_of, faulty_of, both_of}
use Rattle.entry.specs.Entry.{Test, agree, entry_by}
use Rattle.entry.specs.Words.{Agree}
use Rattle.nodes.specs.Node.{Node}
use Rattle.nodes.specs.Order.{Look}

-- an output is settled if it is known in both circuits and equal; the search leaves a node exactly if every output is
abbrev pub settled : Test
settled = agree

-- in words
abbrev pub Settled : ℕ → ℕ → Type 0
Settled = Agree

-- 1 fail: at some output both are known and differ; 0 it is left: every output is settled; 2 neither
unfoldable pub look_of : Fault → List ℕ → ℕ → Look
look_of fault c n s = entry_by settled c (good_of c s n) (faulty_of fault c s n) n

-- its good, then its faulty values
unfoldable pub look_work : Fault → List ℕ → ℕ → Node → List ℕ
look_work fault c n s = both_of fault c s n
