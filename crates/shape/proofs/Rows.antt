-- Tables of words and of ends of lines that grow line by line: what line k of them is.
-- Assumes nothing.
use mathlib.Core.Path.{◌≡◌, refl, ◌∙◌}
use mathlib.Core.Logic.{⊎_elim}
use mathlib.Core.List.{List, [], ◌∷◌, ◌++◌, map}
use Prim.Native.Nat.{ℕ, zero, suc, ◌+◌, ◌≤◌, ◌<◌}
use native.Mathlib.Nat.{not-suc-le-zero, eq-or-lt_of_le, le_of_suc-le-suc}
use native.Mathlib.Numerals.{add-one}
use native.Mathlib.Omega.{arith}
use lib.ListN.{length, get_or, length-append, get_or-append}
use lib.Seq.{get_or-append_seam, get_or-append-add}
use Rattle.words.specs.Words.{word_at}
use Rattle.forms.specs.Lines.{start_at, word_in}
use Rattle.shape.specs.Shape.{Shape}

-- each line's words are a statement's, or there are none
pub data Rows (t : List ℕ) : List ℕ → List ℕ → Type 0 where
  none : Rows t [] []
  more : {ws es : List ℕ} (row : List ℕ) → Rows t ws es → Shape (map (word_at t) row) → Rows t (ws ++ row) (es ++ (length (ws ++ row) ∷ []))

start_append : (es : List ℕ) (n k : ℕ) → k ≤ length es → start_at (es ++ (n ∷ [])) k ≡ start_at es k
unfolding start_at
start_append es n zero h = refl
start_append es n (suc k) h = get_or-append es (n ∷ []) 0 k h

-- the next line begins after all the words
full : {t ws es : List ℕ} → Rows t ws es → start_at es (length es) ≡ length ws
unfolding start_at
full none = refl
full (more {ws = ws} {es = es} row rs s) =
    rw (length-append es (length (ws ++ row) ∷ []), add-one (length es)) (get_or-append_seam es (length (ws ++ row)) [] 0)

-- line k
pub record StateRow (t ws es : List ℕ) (k : ℕ) : Type 0 where
  pub row : List ℕ
  pub shape : Shape (map (word_at t) row)
  pub inside : start_at es k + length row ≤ length ws
  pub end : get_or es k 0 ≡ start_at es k + length row
  pub words : (j : ℕ) → j < length row → word_in ws es k j ≡ get_or row j 0

module _ {t ws es : List ℕ} (row : List ℕ) where
  -- an earlier line stays
  earlier : (k n : ℕ) → k < length es → StateRow t ws es k → StateRow t (ws ++ row) (es ++ (n ∷ [])) k
  unfolding word_in
  earlier k n l r =
      let e = start_append es n k (omega arith) in
      record {
        row = r.row;
        shape = r.shape;
        inside = rw (e, length-append ws row) (omega (arith, r.inside));
        end = rw e (get_or-append es (n ∷ []) 0 k l ∙ r.end);
        words = λ j h. rw e (get_or-append ws row 0 (start_at es k + j) (omega (arith, r.inside)) ∙ r.words j h);
      }

  last : Rows t ws es → Shape (map (word_at t) row) → StateRow t (ws ++ row) (es ++ (length (ws ++ row) ∷ [])) (length es)
  unfolding word_in
  last rs s =
      let e : start_at (es ++ (length (ws ++ row) ∷ [])) (length es) ≡ length ws = start_append es _ (length es) (omega arith) ∙ full rs in
      record {
        row = row;
        shape = s;
        inside = rw (e, length-append ws row) (omega arith);
        end = rw e (get_or-append_seam es (length (ws ++ row)) [] 0 ∙ length-append ws row);
        words = λ j h. rw e (get_or-append-add ws row j 0);
      }

pub row_at : {t ws es : List ℕ} → Rows t ws es → (k : ℕ) → k < length es → StateRow t ws es k
row_at none k h = absurd (not-suc-le-zero h)
row_at {t = t} (more {ws = ws} {es = es} row rs s) k h =
    let n : suc k ≤ suc (length es) = rw (← add-one (length es), ← length-append es (length (ws ++ row) ∷ [])) h in
    ⊎_elim (λ e. rw e (last row rs s)) (λ l. earlier row k (length (ws ++ row)) l (row_at rs k l)) (eq-or-lt_of_le (le_of_suc-le-suc n))
