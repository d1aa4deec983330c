-- What the reader's answer says: the records it wrote compute what the text says, it accepts what can be accepted, and 16 is a cycle and its first gate.
-- Assumes nothing.
use mathlib.Core.Path.{◌≡◌, refl, sym, ap, ◌∙◌, subst}
use mathlib.Core.Logic.{◌↔◌}
use mathlib.Core.List.{List}
use Prim.Native.Nat.{ℕ, ◌*◌}
use lib.ListN.{length, take, drop}
use lib.Seq.{take_at}
use Rattle.answers.specs.Rules.{Ruling, refusal, unless}
use Rattle.answers.specs.Answer.{answered}
use Rattle.answers.proofs.Rules.{same_good}
use Rattle.answers.proofs.Answer.{ruling_of, was_ruled}
use Rattle.circuit.specs.Record.{lines_of}
use Rattle.netlist.proofs.Fields.{net_long, net_lines}
use Rattle.ground.specs.Put.{laid_on}
use Rattle.nets.specs.Rules.{buffer_bytes}
use Rattle.texts.specs.Text.{net_in}
use Rattle.bench.specs.Promise.{bench_rules, records_in, read_of, Reads}
use Rattle.equations.specs.Right.{TextCycle}
use Rattle.equations.specs.Placing.{FirstLeft}
use Rattle.equations.specs.Computes.{size_in, Acceptable, Computes}
use Rattle.texts.proofs.Numbers.{size_is}
use Rattle.equations.proofs.Computes.{computes}
use Rattle.equations.proofs.Accepted.{accepted}
use Rattle.equations.proofs.Sixteen.{sixteen, sixteen_place}
use Rattle.std.specs.Prelude.{Ok, Err, Result}
use Rattle.answers.specs.declared.Refusal.{Refusal}
use Rattle.answers.specs.declared.Reason.TheVariants.{BenchSyntax, BenchName, BenchCycle}

pub lines_are : (t : List ℕ) → lines_of (records_in t) ≡ size_in t
lines_are t = net_lines (net_in t) ∙ size_is t

-- the answer by the ruling
given_by_lem : (t : List ℕ) {v w : Ruling} → v ≡ w → answered v (lines_of (records_in t)) ≡ answered w (lines_of (records_in t))
given_by_lem t = ap (λ (v : Ruling). answered v (lines_of (records_in t)))

module _ {t c c' : List ℕ} where
  -- the records are those of a circuit that computes what the text says, as many as answered
  pub read_computes : {n : ℕ} → Reads t c c' (Ok n) → (n ≡ size_in t) × Computes t (take (8 * n) c')
  unfolding read_of
  read_computes {n} p =
      let e : refusal (bench_rules t (length c)) ≡ Ok tt = was_ruled _ p.answer refl in
      let m : n ≡ size_in t = same_good (p.answer ∙ given_by_lem t e) ∙ lines_are t in
      let laid : c' ≡ laid_on c (records_in t) = p.circuit ∙ ap (λ (v : Ruling). unless v c (laid_on c (records_in t))) e in
      let long : length (records_in t) ≡ 8 * n = net_long (net_in t) ∙ ap (λ (k : ℕ). 8 * k) (size_is t ∙ sym m) in (
        m,
        subst (Computes t) (sym (ap (take (8 * n)) laid ∙ take_at (records_in t) (drop (length (records_in t)) c) (8 * n) long)) (computes t (length c) e),
      )

  module _ {r : Result ℕ Refusal} (p : Reads t c c' r) where
    -- what can be accepted is accepted
    pub read_accepts : Acceptable t → length c ≡ buffer_bytes → r ≡ Ok (size_in t)
    unfolding read_of
    read_accepts a e =
        p.answer
        ∙ given_by_lem t (ap (λ (n : ℕ). refusal (bench_rules t n)) e ∙ accepted t a)
        ∙ ap Ok (lines_are t)

    given : {why : Refusal} → refusal (bench_rules t (length c)) ≡ Err why → r ≡ Err why
    unfolding read_of
    given e = p.answer ∙ given_by_lem t e

    -- without 14 or 15, 16 is given exactly if the text has a cycle
    module _ (a : (k : ℕ) → r ≡ Err (BenchSyntax, k) → ⊥) (b : (k : ℕ) → r ≡ Err (BenchName, k) → ⊥) where
      refused : {why : Refusal} → r ≡ Err why → refusal (bench_rules t (length c)) ≡ Err why
      unfolding read_of
      refused e = was_ruled _ p.answer (ap ruling_of e)

      pub read_sixteen : ((k : ℕ) × (r ≡ Err (BenchCycle, k))) ↔ TextCycle t
      read_sixteen =
          let s = sixteen t (length c) (λ k e. a k (given e)) (λ k e. b k (given e)) in
          (λ (k, e). s.0 (k, refused e), λ y. let w = s.1 y in (w.0, given w.1))

      -- at gate g exactly if it is the first in the text that can't be placed
      pub read_place : (g : ℕ) → (r ≡ Err (BenchCycle, g)) ↔ FirstLeft t g
      read_place g =
          let s = sixteen_place t (length c) (λ k e. a k (given e)) (λ k e. b k (given e)) g in
          (λ e. s.0 (refused e), λ y. given (s.1 y))
