-- The rules of the words as two: one for a line, by its kind, and one for a pin.
-- Assumes nothing.
use mathlib.Core.Path.{◌≡◌, refl}
use mathlib.Core.Bool.{Bool, true, false, not}
use mathlib.Core.List.{List}
use Prim.Native.Nat.{ℕ, ◌≤◌, ◌<◌}
use lib.Dec.{eqb}
use borrow.Author.Tests.{not-true}
use Rattle.ground.specs.Choose.{choose}
use Rattle.answers.proofs.Same.{never_same}
use Rattle.gates.specs.Gate.{last_kind}
use Rattle.circuit.specs.Record.{kind_at}
use Rattle.circuit.specs.Formed.{WellFormed}
use Rattle.reads.specs.Reads.{branches}
use Rattle.reads.specs.Words.{PinReads}
use Rattle.reads.proofs.Pins.{branches_says}
use Rattle.chances.proofs.ByKind.{each_kind}
use Rattle.exponents.specs.Fraction.{Fraction, Equal, unity, product, halved, larger, floored}
use Rattle.exponents.specs.Words.{Measures}

-- ---- the rules

-- a chance for each value
abbrev pub Fractions : Type 0
Fractions = Bool → Fraction

abbrev pub and_rule : Fractions → Fractions → Fractions
and_rule p q true = product (p true) (q true)
and_rule p q false = larger (p false) (q false)

abbrev pub or_rule : Fractions → Fractions → Fractions
or_rule p q true = larger (p true) (q true)
or_rule p q false = product (p false) (q false)

abbrev pub xor_rule : Fractions → Fractions → Fractions
xor_rule p q v = larger (product (p false) (q v)) (product (p true) (q (not v)))

abbrev pub selector_rule : Fractions → Fractions → Fractions → Fractions
selector_rule p q s v = larger (product (p v) (s false)) (product (q v) (s true))

-- of a line by its kind, where p s are the chances that pin s sees; an input is set for certain
unfoldable pub rule_of : ℕ → (ℕ → Fractions) → Fractions
rule_of kind p v =
    choose (eqb kind 1) (p 1 v)
    (choose (eqb kind 2) (p 1 (not v))
    (choose (eqb kind 3) (and_rule (p 1) (p 2) v)
    (choose (eqb kind 4) (and_rule (p 1) (p 2) (not v))
    (choose (eqb kind 5) (or_rule (p 1) (p 2) v)
    (choose (eqb kind 6) (or_rule (p 1) (p 2) (not v))
    (choose (eqb kind 7) (xor_rule (p 1) (p 2) v)
    (choose (eqb kind 8) (xor_rule (p 1) (p 2) (not v))
    (choose (eqb kind 9) (selector_rule (p 1) (p 2) (p 3) v)
    unity))))))))

-- the chances of a line are those
abbrev Ruled : Fractions → (ℕ → Fractions) → ℕ → Bool → Type 0
Ruled q p kind v = Equal (q v) (floored (rule_of kind p v))

-- what a pin sees of a chance, where t says whether the line branches
abbrev pub sight : Bool → Fraction → Fraction
sight t p = choose t (halved p) p

pub record Obeys (c : List ℕ) (n : ℕ) (chance : ℕ → Fractions) (at : ℕ → ℕ → Fractions) : Type 0 where
  pub line : (k : ℕ) → k < n → (v : Bool) → Ruled (chance k) (at k) (kind_at c k) v
  pub pin : (k s j : ℕ) → PinReads c n j k s → (v : Bool) → Equal (at k s v) (sight (branches c n j) (chance j v))

-- ---- they are the same

module _ {c : List ℕ} {m n : ℕ} {chance : ℕ → Fractions} {at : ℕ → ℕ → Fractions} (well : WellFormed c m n) (rules : Measures c n chance at) where
  by_kind : (k : ℕ) → k < n → (kind : ℕ) → kind ≤ last_kind → kind_at c k ≡ kind → (v : Bool) → Ruled (chance k) (at k) kind v
  unfolding rule_of
  by_kind k l =
      each_kind (λ kind. kind_at c k ≡ kind → (v : Bool) → Ruled (chance k) (at k) kind v)
      (rules.input k l)
      (rules.buffer k l)
      (both 2 (rules.not_1 k l) (rules.not_0 k l))
      (both 3 (rules.and_1 k l) (rules.and_0 k l))
      (both 4 (rules.nand_1 k l) (rules.nand_0 k l))
      (both 5 (rules.or_1 k l) (rules.or_0 k l))
      (both 6 (rules.nor_1 k l) (rules.nor_0 k l))
      (both 7 (rules.xor_1 k l) (rules.xor_0 k l))
      (both 8 (rules.xnor_1 k l) (rules.xnor_0 k l))
      (rules.selector k l)
    where
      both : (kind : ℕ)
          → (kind_at c k ≡ kind → Ruled (chance k) (at k) kind true)
          → (kind_at c k ≡ kind → Ruled (chance k) (at k) kind false)
          → kind_at c k ≡ kind
          → (v : Bool)
          → Ruled (chance k) (at k) kind v
      both kind a b e true = a e
      both kind a b e false = b e

  pub obeys : Obeys c n chance at
  obeys = record { line = λ k l. by_kind k l (kind_at c k) (well.kinds k l) refl; pin = λ k s j r. sees k s j r (branches c n j) refl }
    where
      sees : (k s j : ℕ) → PinReads c n j k s → (t : Bool) → branches c n j ≡ t → (v : Bool) → Equal (at k s v) (sight t (chance j v))
      sees k s j r true e = rules.branch k s j r ((branches_says c n j).holds e)
      sees k s j r false e = rules.alone k s j r ((never_same _ (branches_says c n j)).holds (rw e))

pub rules_of : {c : List ℕ} {n : ℕ} {chance : ℕ → Fractions} {at : ℕ → ℕ → Fractions} → Obeys c n chance at → Measures c n chance at
unfolding rule_of
rules_of {c} {n} {chance} {at} obey = record {
  input = λ k l e v. line 0 v k l e;
  and_1 = line 3 true;
  and_0 = line 3 false;
  or_1 = line 5 true;
  or_0 = line 5 false;
  not_1 = line 2 true;
  not_0 = line 2 false;
  branch = λ k s j r b. pin k s j r true ((branches_says c n j).tests b);
  alone = λ k s j r b. pin k s j r false (not-true _ ((never_same _ (branches_says c n j)).tests b));
  buffer = λ k l e v. line 1 v k l e;
  nand_1 = line 4 true;
  nand_0 = line 4 false;
  nor_1 = line 6 true;
  nor_0 = line 6 false;
  xor_1 = line 7 true;
  xor_0 = line 7 false;
  xnor_1 = line 8 true;
  xnor_0 = line 8 false;
  selector = λ k l e v. line 9 v k l e;
}
  where
    line : (kind : ℕ) (v : Bool) (k : ℕ) → k < n → kind_at c k ≡ kind → Ruled (chance k) (at k) kind v
    line kind v k l e = rw (← e) (obey.line k l v)

    pin : (k s j : ℕ) → PinReads c n j k s → (t : Bool) → branches c n j ≡ t → (v : Bool) → Equal (at k s v) (sight t (chance j v))
    pin k s j r t e v = rw (← e) (obey.pin k s j r v)
