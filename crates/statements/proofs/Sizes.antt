-- The tables of a text of at most 32,768 bytes: no more than 8,192 entries each, and the names in them begin inside the text.
-- Assumes nothing.
use mathlib.Core.Path.{◌≡◌}
use mathlib.Core.Bool.{Bool, true, false, ◌||◌, false≢true}
use mathlib.Core.List.{List}
use Prim.Native.Nat.{ℕ, zero, suc, ◌-◌, ◌≤◌, ◌<◌}
use native.Mathlib.Omega.{arith}
use lib.Dec.{eqb, leb}
use lib.ListN.{length, get_or}
use borrow.Author.Tests.{eqb-true, leb-true}
use Rattle.ground.specs.Choose.{choose}
use Rattle.ground.specs.Below.{count_below}
use Rattle.ground.proofs.Collect.{collect_below}
use Rattle.words.specs.Words.{words_in, ends_in}
use Rattle.words.proofs.Halves.{half}
use Rattle.forms.specs.Lines.{word_in, size_at, forms_of}
use Rattle.forms.specs.Forms.{says_output, says_gate, defines, gates_in}
use Rattle.forms.proofs.Forms.{Form, form_of_lem, forms_get, forms_length}
use Rattle.forms.proofs.Ends.{line_inside, lines_twice}
use Rattle.statements.specs.Tables.{defined_at, defs_of, outs_of, firsts_of, seconds_of}
use Rattle.statements.proofs.Lengths.{defs_split}

-- ---- what passes has a form

def_some : (x : ℕ) → (eqb x 1 || leb 3 x) ≡ true → 0 < x
def_some zero e = absurd (false≢true e)
def_some (suc x) e = omega arith

output_some : (x : ℕ) → eqb x 2 ≡ true → 0 < x
output_some x e = let q = eqb-true x 2 e in omega arith

module _ (t : List ℕ) where
  abbrev pub forms_in : List ℕ
  forms_in = forms_of t (words_in t) (ends_in t)

  abbrev pub Inside : List ℕ → Type 0
  Inside l = (k : ℕ) → k < length l → get_or l k 0 < length t

  lines : length forms_in ≡ length (ends_in t)
  lines = forms_length t (words_in t) (ends_in t)

  form_at : (k : ℕ) → k < length (ends_in t) → Form (get_or forms_in k 0) (size_at (ends_in t) k)
  form_at k l = rw (forms_get t (words_in t) (ends_in t) k l) (form_of_lem t (words_in t) (ends_in t) k)

  -- ---- how many

  module _ (short : length t ≤ 32768) where
    few : (test : ℕ → Bool) → ((k : ℕ) → test k ≡ true → 0 < get_or forms_in k 0) → count_below (length forms_in) test ≤ 8192
    few test some =
        let words = lines_twice t test (λ k l e. (form_at k l).two (some k e)) in
        rw lines (omega (arith, half t (length t)))

    pub few_defs : count_below (length forms_in) (defines forms_in) ≤ 8192
    few_defs = few (defines forms_in) (λ k e. def_some (get_or forms_in k 0) e)

    pub few_outs : count_below (length forms_in) (says_output forms_in) ≤ 8192
    few_outs = few (says_output forms_in) (λ k e. output_some (get_or forms_in k 0) e)

    pub few_gates : gates_in forms_in ≤ 8192
    few_gates = omega (arith, few_defs, defs_split forms_in)

  -- ---- where

  -- a table of a word of each line that passes
  within : (test : ℕ → Bool) (word : ℕ → ℕ)
      → ((k : ℕ) → k < length (ends_in t) → test k ≡ true → word k < size_at (ends_in t) k)
      → (k : ℕ) → k < length forms_in → test k ≡ true → word_in (words_in t) (ends_in t) k (word k) < length t
  within test word h k l e = let m : k < length (ends_in t) = omega (arith, lines) in line_inside t k (word k) m (h k m e)

  pub defs_within : Inside (defs_of (words_in t) (ends_in t) forms_in)
  unfolding defs_of defined_at
  defs_within = collect_below _ _ _ _ (within (defines forms_in) (λ k. choose (says_gate forms_in k) 0 1) inside)
    where
      at_most : (b : Bool) → choose b 0 1 ≤ 1
      at_most true = omega arith
      at_most false = omega arith

      inside : (k : ℕ) → k < length (ends_in t) → defines forms_in k ≡ true → choose (says_gate forms_in k) 0 1 < size_at (ends_in t) k
      inside k l e = omega (arith, (form_at k l).two (def_some (get_or forms_in k 0) e), at_most (says_gate forms_in k))

  pub outs_within : Inside (outs_of (words_in t) (ends_in t) forms_in)
  unfolding outs_of
  outs_within = collect_below _ _ _ _ (within (says_output forms_in) (λ k. 1) (λ k l e. (form_at k l).two (output_some (get_or forms_in k 0) e)))

  gate_size : (k : ℕ) → k < length (ends_in t) → says_gate forms_in k ≡ true → (3 ≤ get_or forms_in k 0) × (get_or forms_in k 0 ≤ size_at (ends_in t) k)
  gate_size k l e = (leb-true 3 (get_or forms_in k 0) e, (form_at k l).at_most)

  pub firsts_within : Inside (firsts_of (words_in t) (ends_in t) forms_in)
  unfolding firsts_of
  firsts_within = collect_below _ _ _ _ (within (says_gate forms_in) (λ k. 2) (λ k l e. let s = gate_size k l e in omega (arith, s.0, s.1)))

  pub seconds_within : Inside (seconds_of (words_in t) (ends_in t) forms_in)
  unfolding seconds_of
  seconds_within =
      collect_below _ _ _ _
      (within (says_gate forms_in) (λ k. get_or forms_in k 0 - 1) (λ k l e. let s = gate_size k l e in omega (arith, s.0, s.1)))
