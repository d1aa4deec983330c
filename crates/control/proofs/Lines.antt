-- Line by line the chances of all lines come into memory.
-- Assumes nothing.
use mathlib.Core.Path.{◌≡◌, refl, sym, ap, ◌∙◌}
use mathlib.Core.Bool.{Bool, true, false}
use mathlib.Core.List.{List}
use Prim.Native.Nat.{ℕ, ◌+◌, ◌≤◌, ◌<◌, min}
use native.Mathlib.Decide.{ℕ_discrete}
use native.Mathlib.Omega.{arith}
use lib.ListN.{length, get_or, set, length-set}
use lib.Seq.{get_or-set_same, get_or-set_other, ext_get_or}
use lib.Ieee.{Float, nan}
use Rattle.ground.specs.Lists.{table}
use Rattle.ground.proofs.Grow.{table-length, table_at}
use Rattle.circuit.specs.Record.{kind_at, lines_of, inputs_before}
use Rattle.circuit.specs.Formed.{WellFormed, Known}
use Rattle.reads.specs.Reads.{reads_of}
use Rattle.reads.specs.Owed.{Sourced, ReadsCounted}
use Rattle.reads.proofs.Sourced as reads
use Rattle.halves.specs.Half.{half, floor_exponent}
use Rattle.chances.specs.declared.Chances.{Chances}
use Rattle.chances.specs.Exponents.{sure}
use Rattle.chances.specs.Owed.{Are}
use Rattle.exponents.specs.Lines.{exponents, pin_exponents}
use Rattle.exponents.proofs.Lines.{line_law, input-sure}
use Rattle.control.specs.Promise.{chances_of}
use Rattle.control.specs.Owed.{gate_at, ChancesTo, LineReady, FillReady, Filled}

-- ---- one line

module _ {c reads : List ℕ} {ones zeros : List Float} {k : ℕ} (p : LineReady c reads ones zeros k) {r : Chances} where
  pub gate-line : Are r (λ v. min floor_exponent (gate_at c (length ones) k v)) → Are r (exponents c (length ones) k)
  gate-line a = record {
    one = a.one ∙ ap half (sym (line_law p.well k p.line true));
    zero = a.zero ∙ ap half (sym (line_law p.well k p.line false));
  }

  pub input-line : kind_at c k ≡ 0 → Are r sure → Are r (exponents c (length ones) k)
  input-line input a = gate-line (rw (input, input-sure (pin_exponents c (length ones) k)) a)

-- ---- all lines

-- those below k are done
pub record Filling (c reads : List ℕ) (n : ℕ) (ones zeros : List Float) (k : ℕ) : Type 0 where
  pub at_most : k ≤ n
  pub ones_long : length ones ≡ n
  pub zeros_long : length zeros ≡ n
  pub counted : ReadsCounted n (reads_of c n) reads
  pub ones_are : ChancesTo c n true ones k
  pub zeros_are : ChancesTo c n false zeros k

-- one more line of a value
one_more : (c : List ℕ) (n : ℕ) (v : Bool) (chances : List Float) {k : ℕ} {x : Float}
    → ChancesTo c n v chances k
    → k < length chances
    → x ≡ half (exponents c n k v)
    → ChancesTo c n v (set chances k x) (k + 1)
one_more c n v chances {k} {x} so inside is j l = go (ℕ_discrete j k)
  where
    go : Dec (j ≡ k) → get_or (set chances k x) j nan ≡ half (exponents c n j v)
    go (yes e) = rw e (get_or-set_same chances k x nan inside ∙ is)
    go (no d) = get_or-set_other chances k j x nan d ∙ so j (omega arith)

-- all lines of a value
all_there : (c : List ℕ) (n : ℕ) (v : Bool) (chances : List Float) → n ≡ lines_of c → length chances ≡ n → ChancesTo c n v chances n → chances ≡ chances_of c v
unfolding chances_of
all_there c n v chances lines long so =
    let f : ℕ → Float = λ k. half (exponents c (lines_of c) k v) in
    ext_get_or nan chances (table f (lines_of c)) (long ∙ lines ∙ sym (table-length f (lines_of c)))
    (λ j l. so j (omega (arith, long)) ∙ rw lines (sym (table_at f (lines_of c) nan j (omega (arith, long, lines)))))

module _ {c : List ℕ} {n inputs : ℕ} (known : Known c n inputs) where
  well : WellFormed c (inputs_before c n) n
  well = rw known.lines known.good.well

  pub sourced : Sourced c n
  sourced = rw known.lines (reads.sourced c known.fine)

  module _ {reads : List ℕ} {ones zeros : List Float} {k : ℕ} (so : Filling c reads n ones zeros k) where
    pub line-ready : k < length ones → LineReady c reads ones zeros k
    line-ready l = record {
      well = rw so.ones_long well;
      sourced = rw so.ones_long sourced;
      counted = rw so.ones_long so.counted;
      zeros_long = so.zeros_long ∙ sym so.ones_long;
      line = l;
      ones_are = rw so.ones_long so.ones_are;
      zeros_are = rw so.ones_long so.zeros_are;
    }

    pub next-line : {r : Chances} → k < length ones → Are r (exponents c (length ones) k) → Filling c reads n (set ones k r.one) (set zeros k r.zero) (k + 1)
    next-line {r} l are =
        let a : Are r (exponents c n k) = rw so.ones_long at are in
        record {
          at_most = omega (arith, so.ones_long);
          ones_long = length-set ones k r.one ∙ so.ones_long;
          zeros_long = length-set zeros k r.zero ∙ so.zeros_long;
          counted = so.counted;
          ones_are = one_more c n true ones so.ones_are l a.one;
          zeros_are = one_more c n false zeros so.zeros_are (omega (arith, so.ones_long, so.zeros_long)) a.zero;
        }

    pub all_lines : length ones ≤ k → Filled c ones zeros
    all_lines l =
        let e : k ≡ n = omega (arith, so.at_most, so.ones_long) in
        record {
          ones_are = all_there c n true ones known.lines so.ones_long (rw e at so.ones_are);
          zeros_are = all_there c n false zeros known.lines so.zeros_long (rw e at so.zeros_are);
        }

pub no_line : {c reads₀ : List ℕ} {ones zeros : List Float} (reads : List ℕ)
    → FillReady c reads₀ (length ones) (length zeros)
    → ReadsCounted (length reads₀) (reads_of c (length reads₀)) reads
    → Filling c reads (length ones) ones zeros 0
no_line reads p q = record {
  at_most = omega arith;
  ones_long = refl;
  zeros_long = p.zeros_long;
  counted = rw p.reads_long at q;
  ones_are = λ j l. absurd (omega arith);
  zeros_are = λ j l. absurd (omega arith);
}
