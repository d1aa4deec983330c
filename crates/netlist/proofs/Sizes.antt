-- Of a net's records the check refuses what the sizes of the net say, and nothing else.
-- Assumes nothing.
use mathlib.Core.Path.{◌≡◌, sym, ◌∙◌}
use native.Mathlib.Omega.{arith}
use lib.Dec.{leb}
use lib.ListN.{length}
use borrow.Author.Tests.{leb-true, le-leb}
use Rattle.ground.proofs.Tests.{some, same_test}
use Rattle.answers.specs.Rules.{refusal}
use Rattle.answers.specs.Answer.{answered}
use Rattle.circuit.specs.Record.{outputs_of}
use Rattle.circuit.specs.Promise.{circuit_rules, check_of, counts_are}
use Rattle.circuit.specs.Sizes.{SizesHold}
use Rattle.circuit.proofs.Sizes.{sizes_fine, fine_sizes, sizes_decide, same_sizes}
use Rattle.records.specs.Net.{Net, net_size, records_of}
use Rattle.netlist.specs.Solved.{Right}
use Rattle.netlist.specs.Sizes.{net_sizes}
use Rattle.netlist.proofs.Fields.{net_long, net_lines}
use Rattle.netlist.proofs.KeepsLayout.{net_layout}
use Rattle.netlist.proofs.Counts.{net_inputs, some_output_lem, no_output}
use Rattle.std.specs.Prelude.{Ok}

module _ (net : Net) (r : Right net) where
  outputs_ok : leb 1 (outputs_of (records_of net)) ≡ leb 1 (length net.outputs)
  outputs_ok =
      same_test _ _
      (λ e. some (length net.outputs) (λ z. omega (arith, leb-true 1 (outputs_of (records_of net)) e, no_output net z)))
      (λ e. le-leb _ _ (some_output_lem net r (leb-true _ _ e)))

  pub net_refusal : refusal (circuit_rules (records_of net)) ≡ refusal (net_sizes net)
  net_refusal =
      sizes_decide (records_of net) (net_size net) (net_long net) (λ few k l. net_layout net r (omega arith) k l)
      ∙ rw (net_inputs net r) (same_sizes (net_size net) net.inputs (outputs_of (records_of net)) (length net.outputs) outputs_ok)

  -- the answer of the check
  pub net_check : check_of (records_of net) ≡ answered (refusal (net_sizes net)) (counts_are (net_size net) net.inputs (outputs_of (records_of net)))
  unfolding check_of
  net_check = rw (net_refusal, net_inputs net r, net_lines net)

  module _ (hold : SizesHold (net_size net) net.inputs (length net.outputs)) where
    pub net_fine : refusal (circuit_rules (records_of net)) ≡ Ok tt
    net_fine = net_refusal ∙ sizes_fine hold

    pub net_accepted : check_of (records_of net) ≡ Ok (counts_are (net_size net) net.inputs (outputs_of (records_of net)))
    net_accepted = rw (sizes_fine hold) at net_check

  pub net_sizes_lem : refusal (circuit_rules (records_of net)) ≡ Ok tt → SizesHold (net_size net) net.inputs (length net.outputs)
  net_sizes_lem e = fine_sizes _ _ _ (sym net_refusal ∙ e)
