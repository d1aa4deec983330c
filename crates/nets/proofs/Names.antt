-- Names that become numbers: that the net with numbers is one that can be read.
-- Assumes nothing.
use mathlib.Core.Path.{◌≡◌, sym, ap, ◌∙◌, subst}
use mathlib.Core.Logic.{⊎_elim}
use mathlib.Core.List.{List, ◌++◌}
use Prim.Native.Nat.{ℕ, ◌+◌, ◌-◌, ◌≤◌, ◌<◌}
use native.Mathlib.Omega.{arith}
use lib.ListN.{length, get_or, length-map, length-append, get_or-append}
use lib.Seq.{get_or-append-add}
use Rattle.ground.proofs.Tests.{either}
use Rattle.ground.proofs.Map.{map_at}
use Rattle.answers.specs.Rules.{Ruling, refusal}
use Rattle.words.specs.Words.{word_at}
use Rattle.names.specs.Names.{named, name_rules, definition, name_number}
use Rattle.names.specs.Owed.{Within, ResolveDone}
use Rattle.names.proofs.Last.{last_most}
use Rattle.names.proofs.OneDefinition.{used-defined}
use Rattle.records.specs.Net.{Net}
use Rattle.records.specs.Owed.{net_of, NumbersBelow}
use Rattle.nets.specs.Owed.{NetDone, ReadNetReady, NamedNet, uses_of, numbered, NamesDone, ReadNamesReady}
use Rattle.answers.proofs.Rules.{both_fine, not_fine}
use Rattle.answers.proofs.Answer.{first_refused, first_fine}
use Rattle.std.specs.Prelude.{Ok, Err, Result}
use Rattle.answers.specs.declared.Refusal.{Refusal}

within_both : (t l m : List ℕ) → Within t l → Within t m → Within t (l ++ m)
within_both t l m p q k h = ⊎_elim first second (either k (length l))
  where
    first : k < length l → get_or (l ++ m) k 0 < length t
    first j = rw (get_or-append l m 0 k j) (p k j)

    second : length l ≤ k → get_or (l ++ m) k 0 < length t
    second j =
        let e : length l + (k - length l) ≡ k = omega arith in
        let g = ap (λ (i : ℕ). get_or (l ++ m) i 0) (sym e) ∙ get_or-append-add l m (k - length l) 0 in
        rw g (q (k - length l) (omega (arith, length-append l m)))

module _ {t : List ℕ} {n : NamedNet} (p : ReadNamesReady t n) where
  -- where some name is defined, of any name at all
  number_below : 0 < length n.defs → (i : ℕ) → name_number t n.defs n.numbers i < n.inputs + length n.firsts
  unfolding name_number definition
  number_below some i =
      let d = last_most (named t n.defs (word_at t i)) (length n.defs) in
      p.numbers_below _ (omega (arith, p.numbers))

  uses-within : Within t (uses_of n)
  uses-within = within_both t n.outs (n.firsts ++ n.seconds) p.outs_inside (within_both t n.firsts n.seconds p.firsts_inside p.seconds_inside)

  module _ (fine : refusal (name_rules t n.defs (uses_of n)) ≡ Ok tt) where
    -- where a name is used, some name is defined
    outs_below : NumbersBelow (numbered t n) (numbered t n).outputs
    outs_below i h =
        let number = name_number t n.defs n.numbers in
        let k : i < length n.outs = omega (arith, length-map n.outs number) in
        let w = used-defined t n.defs (uses_of n) fine uses-within 0 (omega (arith, length-append n.outs (n.firsts ++ n.seconds))) in
        let b = number_below (omega (arith, w.1)) (get_or n.outs i 0) in
        rw (map_at number n.outs i 0 0 k) (omega (arith, b, length-map n.firsts number))

    numbers-ready : ReadNetReady (numbered t n)
    numbers-ready =
        let f = length-map n.firsts (name_number t n.defs n.numbers) in
        let g = length-map n.seconds (name_number t n.defs n.numbers) in
        record {
          few = omega (arith, f, p.few_gates);
          few_inputs = p.few_inputs;
          kinds = p.kinds ∙ sym f;
          seconds = g ∙ p.seconds ∙ sym f;
          output_numbers = outs_below;
        }

  -- ---- the names were looked up

  module _ {o a b : List ℕ} {v : Ruling} (q : ResolveDone t n.defs n.numbers n.outs n.firsts n.seconds o a b v) where
    pub firsts_long : length a ≡ length n.firsts
    firsts_long = ap length q.firsts_are ∙ length-map n.firsts (name_number t n.defs n.numbers)

    -- one is wrong, and nothing finds its order
    pub unnamed : {order c : List ℕ} {why : Refusal} → v ≡ Err why → NamesDone t n order c c (Err why)
    unnamed e =
        let names = name_rules t n.defs (uses_of n) in
        let refused = sym q.ruling ∙ e in
        record { done = first_refused names _ refused; order_is = λ f. absurd (not_fine (sym (both_fine names _ f).0 ∙ refused)) }

    -- none is
    module _ (fine : v ≡ Ok tt) where
      numbers_are : net_of n.inputs n.kinds a b o ≡ numbered t n
      numbers_are = rw (q.firsts_are, q.seconds_are, q.outs_are)

      pub resolved : ReadNetReady (net_of n.inputs n.kinds a b o)
      resolved = rw numbers_are (numbers-ready (sym q.ruling ∙ fine))

      pub read_numbers_lem : {order c c' : List ℕ} {r : Result ℕ Refusal} → NetDone (net_of n.inputs n.kinds a b o) order c c' r → NamesDone t n order c c' r
      read_numbers_lem {order} {c} {c'} {r} d =
          let names = name_rules t n.defs (uses_of n) in
          let net = subst (λ (m : Net). NetDone m order c c' r) numbers_are d in
          record { done = first_fine names _ (sym q.ruling ∙ fine) net.done; order_is = λ e. net.order_is (both_fine names _ e).1 }
