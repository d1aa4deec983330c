-- `bench::read_lines_in` meets its contract: the forms of the lines, and how many gates there are.
-- Assumes nothing.
use Rattle.texts.proofs.Steps.{told}
use Rattle.bench.proofs.read_lines_in.Goals as goal

pub read_defs-requires : goal.read_defs-requires
read_defs-requires c =
    record { read_defs_ready = (told c.requires.read_lines_ready.0 c.put_forms-gates.ensures, c.put_forms-gates.ensures.gates_are); places_len = c.requires.places_len }
