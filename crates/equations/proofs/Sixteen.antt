-- Without 14 or 15, 16 is given exactly if the text has a cycle, and names the first gate in the text that can't be placed.
-- Assumes nothing.
use mathlib.Core.Path.{◌≡◌, refl, sym, ap, ◌∙◌}
use mathlib.Core.Logic.{◌↔◌}
use mathlib.Core.List.{List, ◌++◌}
use Prim.Native.Nat.{ℕ, ◌≤◌}
use native.Mathlib.Omega.{arith}
use Rattle.answers.specs.Rules.{Ruling, refusal}
use Rattle.answers.proofs.Rules.{after_refused, after_fine, same_reason}
use Rattle.circuit.specs.Promise.{circuit_rules}
use Rattle.circuit.proofs.Sizes.{refused_small}
use Rattle.syntax.specs.Syntax.{syntax_rules}
use Rattle.syntax.proofs.Says.{right_text}
use Rattle.names.specs.Names.{name_rules}
use Rattle.order.specs.Order.{cycle_rules}
use Rattle.order.proofs.Says.{refused_left, left_refused}
use Rattle.order.proofs.Cycle.{cycle_refused, refused_cycle}
use Rattle.nets.specs.Rules.{buffer_rules, record_rules, net_rules}
use Rattle.texts.specs.Text.{defs_in, uses_in, net_in}
use Rattle.bench.specs.Promise.{bench_rules, records_in}
use Rattle.equations.specs.Right.{TextCycle}
use Rattle.equations.specs.Placing.{FirstLeft}
use Rattle.equations.proofs.Cycles.{net_cycle, text_cycle}
use Rattle.equations.proofs.InOrder as placing
use Rattle.answers.proofs.Numbers.{refused_number}
use Rattle.std.specs.Prelude.{Ok, Err}
use Rattle.answers.specs.declared.Reason.{Reason}
use Rattle.answers.specs.declared.Reason.TheVariants.{BenchSyntax, BenchName, BenchCycle, BufferSize}
use Rattle.answers.specs.Area.{number_of}

syntax_14 : (t : List ℕ) {m : Reason} {k : ℕ} → refusal (syntax_rules t) ≡ Err (m, k) → m ≡ BenchSyntax
unfolding syntax_rules
syntax_14 t = refused_number (λ m. m ≡ BenchSyntax) (syntax_rules t) (refl, (refl, tt))

names_15 : (t : List ℕ) {m : Reason} {k : ℕ} → refusal (name_rules t (defs_in t) (uses_in t)) ≡ Err (m, k) → m ≡ BenchName
unfolding name_rules
names_15 t = refused_number (λ m. m ≡ BenchName) (name_rules t (defs_in t) (uses_in t)) (refl, tt)

records_not_16 : (c : List ℕ) (room : ℕ) {k : ℕ} → refusal (record_rules c room) ≡ Err (BenchCycle, k) → ⊥
unfolding buffer_rules
records_not_16 c room {k} e = go (refusal (circuit_rules c)) refl e
  where
    ten : refusal (buffer_rules room) ≡ Err (BenchCycle, k) → BenchCycle ≡ BufferSize
    ten = refused_number (λ m. m ≡ BufferSize) (buffer_rules room) (refl, tt)

    go : (v : Ruling) → refusal (circuit_rules c) ≡ v → refusal (circuit_rules c ++ buffer_rules room) ≡ Err (BenchCycle, k) → ⊥
    go (Ok u) q f = let other = ten (sym (after_fine (circuit_rules c) (buffer_rules room) q) ∙ f) in cc
    go (Err why) q f =
        let sixteen : why.0 ≡ BenchCycle = same_reason (sym (after_refused (circuit_rules c) (buffer_rules room) q) ∙ f) in
        let low : number_of BenchCycle ≤ 5 = rw sixteen at (refused_small c q) in
        omega (arith, low)

module _ (t : List ℕ) (room : ℕ) where
  -- a reason is not given
  abbrev pub Without : Reason → Type 0
  Without m = (k : ℕ) → refusal (bench_rules t room) ≡ Err (m, k) → ⊥

  no_14 : Without BenchSyntax → refusal (syntax_rules t) ≡ Ok tt
  no_14 n = go (refusal (syntax_rules t)) refl
    where
      go : (v : Ruling) → refusal (syntax_rules t) ≡ v → v ≡ Ok tt
      go (Ok u) e = refl
      go (Err why) e = absurd (n why.1 (after_refused (syntax_rules t) _ e ∙ ap (λ (m : Reason). Err (m, why.1)) (syntax_14 t e)))

  module _ (syntax : refusal (syntax_rules t) ≡ Ok tt) where
    no_15 : Without BenchName → refusal (name_rules t (defs_in t) (uses_in t)) ≡ Ok tt
    no_15 n = go (refusal (name_rules t (defs_in t) (uses_in t))) refl
      where
        go : (v : Ruling) → refusal (name_rules t (defs_in t) (uses_in t)) ≡ v → v ≡ Ok tt
        go (Ok u) e = refl
        go (Err why) e =
            absurd (n why.1 (after_fine (syntax_rules t) _ syntax
            ∙ after_refused (name_rules t (defs_in t) (uses_in t)) _ e
            ∙ ap (λ (m : Reason). Err (m, why.1)) (names_15 t e)))

    module _ (names : refusal (name_rules t (defs_in t) (uses_in t)) ≡ Ok tt) where
      -- what is left are the rules of the net
      net_left : refusal (bench_rules t room) ≡ refusal (net_rules (net_in t) room)
      net_left = after_fine (syntax_rules t) _ syntax ∙ after_fine (name_rules t (defs_in t) (uses_in t)) _ names

      -- the records are not refused with 16, so the net is
      net_sixteen : {k : ℕ} → refusal (bench_rules t room) ≡ Err (BenchCycle, k) → refusal (cycle_rules (net_in t).firsts (net_in t).seconds) ≡ Err (BenchCycle, k)
      net_sixteen {k} e = go (refusal (cycle_rules (net_in t).firsts (net_in t).seconds)) refl
        where
          go : (v : Ruling) → refusal (cycle_rules (net_in t).firsts (net_in t).seconds) ≡ v → v ≡ Err (BenchCycle, k)
          go (Ok u) q =
              let records : refusal (record_rules (records_in t) room) ≡ Err (BenchCycle, k) =
              sym (after_fine (cycle_rules (net_in t).firsts (net_in t).seconds) _ q) ∙ sym net_left ∙ e in
              absurd (records_not_16 (records_in t) room records)
          go (Err why) q = sym (net_left ∙ after_refused (cycle_rules (net_in t).firsts (net_in t).seconds) _ q) ∙ e

      sixteen_net : {k : ℕ} → refusal (cycle_rules (net_in t).firsts (net_in t).seconds) ≡ Err (BenchCycle, k) → refusal (bench_rules t room) ≡ Err (BenchCycle, k)
      sixteen_net e = net_left ∙ after_refused (cycle_rules (net_in t).firsts (net_in t).seconds) _ e

  -- without 14 and 15 the text is right in syntax and names
  module _ {P : Type 0} where
    right : (refusal (syntax_rules t) ≡ Ok tt → refusal (name_rules t (defs_in t) (uses_in t)) ≡ Ok tt → P) → Without BenchSyntax → Without BenchName → P
    right f a b = let syntax = no_14 a in f syntax (no_15 syntax b)

  pub sixteen : Without BenchSyntax → Without BenchName → ((k : ℕ) × (refusal (bench_rules t room) ≡ Err (BenchCycle, k))) ↔ TextCycle t
  sixteen =
      right
      (λ syntax names. (
        λ (k, e). text_cycle t names (refused_cycle (net_in t).firsts (net_in t).seconds (net_sixteen syntax names e)),
        λ c. let w = cycle_refused (net_in t).firsts (net_in t).seconds (net_cycle t names c) in (w.0, sixteen_net syntax names w.1),
      ))

  -- and it names the first gate in the text that can't be placed
  pub sixteen_place : Without BenchSyntax → Without BenchName → (g : ℕ) → (refusal (bench_rules t room) ≡ Err (BenchCycle, g)) ↔ FirstLeft t g
  sixteen_place =
      right
      (λ syntax names g.
      let f = (right_text t syntax).is_formed in (
        λ e. placing.text_left t f names g (refused_left (net_in t).firsts (net_in t).seconds (net_sixteen syntax names e)),
        λ w. sixteen_net syntax names (left_refused (net_in t).firsts (net_in t).seconds (placing.net_left t f names g w)),
      ))
