-- The rules of the reader part by part: nothing is refused exactly if no part refuses, and each part has its own numbers.
-- Assumes nothing.
use mathlib.Core.Path.{◌≡◌, ◌∙◌}
use mathlib.Core.List.{List}
use Prim.Native.Nat.{ℕ}
use Rattle.answers.specs.Rules.{refusal}
use Rattle.answers.proofs.Rules.{after_fine, both_fine}
use Rattle.circuit.specs.Promise.{circuit_rules}
use Rattle.syntax.specs.Syntax.{syntax_rules}
use Rattle.names.specs.Names.{name_rules}
use Rattle.order.specs.Order.{cycle_rules}
use Rattle.nets.specs.Rules.{buffer_rules}
use Rattle.texts.specs.Text.{defs_in, uses_in, net_in}
use Rattle.bench.specs.Promise.{bench_rules, records_in}
use Rattle.std.specs.Prelude.{Ok}

pub record Parts (t : List ℕ) (room : ℕ) : Type 0 where
  pub syntax : refusal (syntax_rules t) ≡ Ok tt
  pub names : refusal (name_rules t (defs_in t) (uses_in t)) ≡ Ok tt
  pub cycles : refusal (cycle_rules (net_in t).firsts (net_in t).seconds) ≡ Ok tt
  pub circuit : refusal (circuit_rules (records_in t)) ≡ Ok tt
  pub buffer : refusal (buffer_rules room) ≡ Ok tt

module _ (t : List ℕ) (room : ℕ) where
  pub parts : refusal (bench_rules t room) ≡ Ok tt → Parts t room
  parts e =
      let a = both_fine (syntax_rules t) _ e in
      let b = both_fine (name_rules t (defs_in t) (uses_in t)) _ a.1 in
      let c = both_fine (cycle_rules (net_in t).firsts (net_in t).seconds) _ b.1 in
      let d = both_fine (circuit_rules (records_in t)) _ c.1 in
      record { syntax = a.0; names = b.0; cycles = c.0; circuit = d.0; buffer = d.1 }

  pub all_parts : Parts t room → refusal (bench_rules t room) ≡ Ok tt
  all_parts p =
      after_fine (syntax_rules t) _ p.syntax
      ∙ after_fine (name_rules t (defs_in t) (uses_in t)) _ p.names
      ∙ after_fine (cycle_rules (net_in t).firsts (net_in t).seconds) _ p.cycles
      ∙ after_fine (circuit_rules (records_in t)) _ p.circuit
      ∙ p.buffer
