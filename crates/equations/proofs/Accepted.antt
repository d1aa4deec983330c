-- A text is accepted, where the buffer has its size, exactly if it is right in syntax and names, has no cycle, keeps the sizes and has an output.
-- Assumes nothing.
use mathlib.Core.Path.{◌≡◌, refl, sym, ◌∙◌}
use mathlib.Core.List.{List}
use Prim.Native.Nat.{ℕ}
use native.Mathlib.Omega.{arith}
use Rattle.answers.specs.Rules.{Ruling, said, refusal, AllSay, AllHold}
use Rattle.answers.proofs.Rules.{not_fine, all_hold}
use Rattle.answers.proofs.Same.{eq_same}
use Rattle.syntax.proofs.Says.{right_text, text_fine}
use Rattle.names.specs.Names.{name_rules}
use Rattle.order.specs.Order.{cycle_rules}
use Rattle.order.proofs.Cycle.{cycle_refused, refused_cycle}
use Rattle.netlist.proofs.Sizes.{net_fine, net_sizes_lem}
use Rattle.nets.specs.Rules.{buffer_bytes, buffer_rules}
use Rattle.texts.specs.Text.{defs_in, uses_in, net_in}
use Rattle.bench.specs.Promise.{bench_rules}
use Rattle.equations.specs.Right.{TextCycle}
use Rattle.equations.specs.Computes.{Acceptable}
use Rattle.equations.proofs.Tables.{counted, inputs_are, outputs_are, output_line, number_inside}
use Rattle.equations.proofs.Names.{names_right, right_names}
use Rattle.texts.proofs.Numbers.{size_is}
use Rattle.equations.proofs.RightNet.{right_net}
use Rattle.equations.proofs.Cycles.{net_cycle, text_cycle}
use Rattle.equations.proofs.Parts.{parts, all_parts}
use Rattle.equations.proofs.Computes.{parts_right}
use Rattle.std.specs.Prelude.{Ok, Err}

-- ---- cycles

module _ (t : List ℕ) (none : refusal (name_rules t (defs_in t) (uses_in t)) ≡ Ok tt) where
  pub no_cycle_fine : (TextCycle t → ⊥) → refusal (cycle_rules (net_in t).firsts (net_in t).seconds) ≡ Ok tt
  no_cycle_fine n = go (refusal (cycle_rules (net_in t).firsts (net_in t).seconds)) refl
    where
      go : (v : Ruling) → refusal (cycle_rules (net_in t).firsts (net_in t).seconds) ≡ v → v ≡ Ok tt
      go (Ok u) e = refl
      go (Err why) e = absurd (n (text_cycle t none (refused_cycle (net_in t).firsts (net_in t).seconds e)))

  pub fine_no_cycle : refusal (cycle_rules (net_in t).firsts (net_in t).seconds) ≡ Ok tt → TextCycle t → ⊥
  fine_no_cycle e c = let w = cycle_refused (net_in t).firsts (net_in t).seconds (net_cycle t none c) in not_fine (sym e ∙ w.1)

-- ---- the buffer

buffer_fine : refusal (buffer_rules buffer_bytes) ≡ Ok tt
unfolding refusal buffer_rules said
buffer_fine = refl

fine_buffer : (room : ℕ) → refusal (buffer_rules room) ≡ Ok tt → room ≡ buffer_bytes
unfolding buffer_rules AllSay AllHold
fine_buffer room e = (all_hold (buffer_rules room) (eq_same room buffer_bytes, tt) e).0

-- ---- both ways

pub accepted : (t : List ℕ) → Acceptable t → refusal (bench_rules t buffer_bytes) ≡ Ok tt
accepted t a =
    let none = right_names t a.names in
    let cycles = no_cycle_fine t none a.no_cycle in
    let r = right_net t none a.syntax.is_formed cycles in
    let o = a.has_output.1 in
    let d = (a.names.outputs a.has_output.0 o).1 in
    all_parts t buffer_bytes
    (record {
      syntax = text_fine t a.syntax;
      names = none;
      cycles = cycles;
      circuit =
          net_fine (net_in t) r
          (record {
            some_lines = omega (arith, number_inside d.line, size_is t);
            most_lines = omega (arith, a.few_lines, size_is t);
            most_inputs = omega (arith, a.few_inputs, inputs_are t);
            some_outputs = omega (arith, counted o, outputs_are t);
          });
      buffer = buffer_fine;
    })

pub acceptable : (t : List ℕ) (room : ℕ) → refusal (bench_rules t room) ≡ Ok tt → Acceptable t × (room ≡ buffer_bytes)
acceptable t room e =
    let p = parts t room e in
    let s = net_sizes_lem (net_in t) (parts_right p) p.circuit in
    let n = output_line t s.some_outputs in (
      record {
        syntax = right_text t p.syntax;
        names = names_right t p.names;
        no_cycle = fine_no_cycle t p.names p.cycles;
        few_lines = omega (arith, s.most_lines, size_is t);
        few_inputs = omega (arith, s.most_inputs, inputs_are t);
        has_output = (n.place, n.line);
      },
      fine_buffer room p.buffer,
    )
