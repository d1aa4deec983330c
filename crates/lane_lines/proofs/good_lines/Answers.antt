-- `lane_lines::good_lines` meets its contract: the inputs' lines are set, and then every line is simulated.
-- Assumes nothing.
use mathlib.Core.Path.{◌∙◌}
use native.Mathlib.Omega.{arith}
use Rattle.lane_lines.proofs.Inputs.{lines_ready, good_lines_made}
use Rattle.lane_lines.proofs.good_lines.Goals as goal

pub simulate_words-requires : goal.simulate_words-requires
simulate_words-requires c =
    (rw (c.put_input_words.auto.words, c.requires.2) (lines_ready c.requires.0), omega arith, omega arith)

pub returns : goal.returns
returns c =
    good_lines_made c.args.circuit.now c.args.inputs c.args.n c.args.patterns.now
    (c.put_input_words.auto.words ∙ c.requires.2) c.put_input_words.ensures c.simulate_words.ensures
