-- The forms of lines: each is below 5 and at most the number of the line's words, of which a line with a form has two. The loop of `put_forms`.
-- Assumes nothing.
use mathlib.Core.Path.{◌≡◌, refl, sym, ap, ◌∙◌}
use mathlib.Core.Bool.{Bool, true, false}
use mathlib.Core.List.{List}
use Prim.Native.Nat.{ℕ, ◌+◌, ◌≤◌, ◌<◌}
use native.Mathlib.Decide.{dec_lt}
use native.Mathlib.Numerals.{add-one}
use native.Mathlib.Omega.{arith}
use lib.Dec.{eqb, leb}
use lib.ListN.{length, get_or, take, set, length-set, get_or-eq_default}
use lib.Seq.{take_all, take-suc-set}
use borrow.Author.Tests.{eqb-true}
use Rattle.ground.specs.Choose.{choose, one}
use Rattle.ground.specs.Below.{count_below}
use Rattle.ground.specs.Lists.{grow, table}
use Rattle.ground.proofs.Counting.{Sum, no_sum, sum_more, sum_all, count_same}
use Rattle.ground.proofs.Grow.{table-length, table_at}
use Rattle.words.specs.Words.{word_at, same}
use Rattle.syntax.specs.Kinds.{input_word}
use Rattle.forms.specs.Lines.{word_in, size_at, form_of, forms_of}
use Rattle.forms.specs.Forms.{says_gate}
use Rattle.forms.specs.Owed.{FormsDone}

-- ---- one

pub record Form (form size : ℕ) : Type 0 where
  pub below : form < 5
  pub at_most : form ≤ size
  pub two : 0 < form → 2 ≤ size

form_by : (s : ℕ) (input : Bool) → Form (choose (eqb s 2) (choose input 1 2) (choose (eqb s 3) 3 (choose (eqb s 4) 4 0))) s
form_by s input = at-2 (eqb s 2) (eqb-true s 2)
  where
    by : (x : ℕ) → x < 5 → x ≤ s → 2 ≤ s → Form x s
    by x below at_most two = record { below = below; at_most = at_most; two = λ h. two }

    at-4 : (b : Bool) → (b ≡ true → s ≡ 4) → Form (choose b 4 0) s
    at-4 true e = let q = e refl in by 4 (omega arith) (omega arith) (omega arith)
    at-4 false e = record { below = omega arith; at_most = omega arith; two = λ h. absurd (omega arith) }

    at-3 : (b : Bool) → (b ≡ true → s ≡ 3) → Form (choose b 3 (choose (eqb s 4) 4 0)) s
    at-3 true e = let q = e refl in by 3 (omega arith) (omega arith) (omega arith)
    at-3 false e = at-4 (eqb s 4) (eqb-true s 4)

    either-of : (b : Bool) → s ≡ 2 → Form (choose b 1 2) s
    either-of true q = by 1 (omega arith) (omega arith) (omega arith)
    either-of false q = by 2 (omega arith) (omega arith) (omega arith)

    at-2 : (b : Bool) → (b ≡ true → s ≡ 2) → Form (choose b (choose input 1 2) (choose (eqb s 3) 3 (choose (eqb s 4) 4 0))) s
    at-2 true e = either-of input (e refl)
    at-2 false e = at-3 (eqb s 3) (eqb-true s 3)

pub form_of_lem : (t ws es : List ℕ) (k : ℕ) → Form (form_of t ws es k) (size_at es k)
unfolding form_of
form_of_lem t ws es k = form_by (size_at es k) (same (word_at t (word_in ws es k 0)) input_word)

-- ---- all of them

pub forms_length : (t ws es : List ℕ) → length (forms_of t ws es) ≡ length es
unfolding forms_of
forms_length t ws es = table-length (form_of t ws es) (length es)

pub forms_get : (t ws es : List ℕ) (k : ℕ) → k < length es → get_or (forms_of t ws es) k 0 ≡ form_of t ws es k
unfolding forms_of
forms_get t ws es k l = table_at (form_of t ws es) (length es) 0 k l

pub forms_small : (t ws es : List ℕ) (k : ℕ) → get_or (forms_of t ws es) k 0 < 5
forms_small t ws es k = go (dec_lt k (length es))
  where
    go : Dec (k < length es) → get_or (forms_of t ws es) k 0 < 5
    go (yes l) = rw (forms_get t ws es k l) (form_of_lem t ws es k).below
    go (no n) =
        let e = get_or-eq_default (forms_of t ws es) 0 {n = k} (omega (arith, forms_length t ws es)) in
        omega (arith, e)

-- ---- the loop: the first k are written, and so many of them are gates

pub record Forming (t ws es fs : List ℕ) (gates k : ℕ) : Type 0 where
  pub lines : length fs ≡ length es
  pub forms : take k fs ≡ table (form_of t ws es) k
  pub counted : Sum (λ i. leb 3 (form_of t ws es i)) (length es) k gates

module _ {t ws es fs : List ℕ} where
  pub start : length fs ≡ length es → Forming t ws es fs 0 0
  unfolding grow
  start l = record { lines = l; forms = refl; counted = no_sum _ _ }

  module _ {gates k : ℕ} (s : Forming t ws es fs gates k) where
    pub next : k < length es → {x b : ℕ} → x ≡ form_of t ws es k → b ≡ one (leb 3 x) → Forming t ws es (set fs k x) (gates + b) (k + 1)
    unfolding grow
    next l {x} ex eb = record {
      lines = length-set fs k x ∙ s.lines;
      forms = rw (add-one, take-suc-set fs k x (omega (arith, s.lines)), s.forms, ex);
      counted = sum_more s.counted l (eb ∙ ap (λ (i : ℕ). one (leb 3 i)) ex);
    }

    pub finished : length es ≤ k → FormsDone t ws es fs gates
    unfolding forms_of
    finished h =
        let e : k ≡ length es = omega (arith, s.counted.at_most) in
        let all : fs ≡ forms_of t ws es = sym (take_all k fs (omega (arith, s.lines))) ∙ s.forms ∙ ap (table (form_of t ws es)) e in
        record {
          forms_are = all;
          gates_are =
              sum_all s.counted h
              ∙ count_same (length es) _ (says_gate fs)
              (λ i l. ap (leb 3) (sym (ap (λ (w : List ℕ). get_or w i 0) all ∙ forms_get t ws es i l)))
              ∙ ap (λ (n : ℕ). count_below n (says_gate fs)) (sym s.lines);
        }
