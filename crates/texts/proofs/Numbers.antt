-- The tables of a text, with names: all that the look-up of names asks of them, each number among them, and how many lines the net has.
-- Assumes nothing.
use mathlib.Core.Path.{◌≡◌, refl, sym, ◌∙◌}
use mathlib.Core.Logic.{⊎_elim}
use mathlib.Core.Bool.{Bool, true, false, ◌||◌, or-true, false≢true}
use mathlib.Core.List.{List}
use Prim.Native.Nat.{ℕ, ◌+◌, ◌-◌, ◌≤◌, ◌<◌}
use native.Mathlib.Omega.{arith}
use lib.ListN.{length, get_or, length-map}
use borrow.Author.Tests.{eqb-true, lt-leb}
use Rattle.ground.specs.Choose.{choose}
use Rattle.ground.specs.Below.{count_below}
use Rattle.ground.specs.Lists.{elem}
use Rattle.ground.proofs.Tests.{either}
use Rattle.ground.proofs.Elem.{elem_at}
use Rattle.ground.proofs.Lists.{collect-length}
use Rattle.ground.proofs.Counting.{count_below_lem, nth}
use Rattle.ground.proofs.Collect.{collect_get, collect_below}
use Rattle.words.specs.Words.{words_in, ends_in}
use Rattle.forms.specs.Forms.{says_input, says_gate, defines, inputs_to, gates_to, inputs_in, gates_in}
use Rattle.statements.specs.Tables.{number_at, def_numbers_of}
use Rattle.statements.proofs.Lengths.{defs_split, defs_length, same_lengths, outs_length, firsts_length, seconds_length, kinds-length}
use Rattle.statements.proofs.Sizes.{few_defs, few_outs, few_gates, defs_within, outs_within, firsts_within, seconds_within}
use Rattle.records.specs.Net.{net_size}
use Rattle.nets.specs.Owed.{ReadNamesReady}
use Rattle.texts.specs.Text.{forms_in, firsts_in, number_in, net_in}
use Rattle.texts.specs.Owed.{named_in}

-- the number of a definition is that of a gate or an input
pub numbers_below : (fs : List ℕ) (j : ℕ) → j < length (def_numbers_of fs) → get_or (def_numbers_of fs) j 0 < inputs_in fs + gates_in fs
unfolding def_numbers_of number_at
numbers_below fs j l = collect_below _ _ (length fs) _ (λ k m e. go k m (says_gate fs k) refl (says_input fs k) refl e) j l
  where
    go : (k : ℕ) → k < length fs → (g : Bool) → says_gate fs k ≡ g → (i : Bool) → says_input fs k ≡ i → (i || g) ≡ true
        → choose g (gates_to fs k) (gates_in fs + inputs_to fs k) < inputs_in fs + gates_in fs
    go k m true p i q e = let h = count_below_lem (says_gate fs) k (length fs) m p in omega arith
    go k m false p false q e = absurd (false≢true e)
    go k m false p true q e = let h = count_below_lem (says_input fs) k (length fs) m q in omega arith

-- and each such number is a definition's
pub each_number : (fs : List ℕ) (x : ℕ) → x < inputs_in fs + gates_in fs → elem (def_numbers_of fs) x ≡ true
unfolding def_numbers_of number_at
each_number fs x l = ⊎_elim gate input (either x (gates_in fs))
  where
    defined : (k : ℕ) → k < length fs → defines fs k ≡ true → number_at fs k ≡ x → elem (def_numbers_of fs) x ≡ true
    defined k h d e =
        let place = collect_get (defines fs) (number_at fs) (length fs) k h d in
        let inside : count_below k (defines fs) < length (def_numbers_of fs) = omega (arith, count_below_lem (defines fs) k (length fs) h d, collect-length (defines fs) (number_at fs) (length fs)) in
        rw (← e, ← place) (elem_at (def_numbers_of fs) (count_below k (defines fs)) inside)

    gate : x < gates_in fs → elem (def_numbers_of fs) x ≡ true
    gate h = let n = nth (says_gate fs) (length fs) x h in defined n.place n.below (rw (n.passes, or-true)) (rw n.passes n.before)

    input : gates_in fs ≤ x → elem (def_numbers_of fs) x ≡ true
    input h =
        let n = nth (says_input fs) (length fs) (x - gates_in fs) (omega arith) in
        let e = eqb-true (get_or fs n.place 0) 1 n.passes in
        let no-gate : says_gate fs n.place ≡ false = lt-leb 3 (get_or fs n.place 0) (omega arith) in
        defined n.place n.below (rw n.passes) (rw no-gate (omega (arith, n.before)))

pub named-ready : (t : List ℕ) → length t ≤ 32768 → ReadNamesReady t (named_in t)
named-ready t s =
    let fs = forms_in t in
    let split = defs_split fs in
    let most = few_defs t s in
    let f = firsts_length (words_in t) (ends_in t) fs in
    record {
      short = s;
      few_defs = omega (arith, defs_length (words_in t) (ends_in t) fs, most, split);
      few_inputs = omega (arith, most, split);
      few_gates = omega (arith, f, few_gates t s);
      few_outs = omega (arith, outs_length (words_in t) (ends_in t) fs, few_outs t s);
      defs_inside = defs_within t;
      firsts_inside = firsts_within t;
      seconds_inside = seconds_within t;
      outs_inside = outs_within t;
      kinds = kinds-length (words_in t) (ends_in t) fs t ∙ sym f;
      seconds = seconds_length (words_in t) (ends_in t) fs ∙ sym f;
      numbers = same_lengths (words_in t) (ends_in t) fs;
      numbers_below = λ j l. rw f (numbers_below fs j l);
    }

-- there are as many lines as inputs and gates
pub size_is : (t : List ℕ) → net_size (net_in t) ≡ inputs_in (forms_in t) + gates_in (forms_in t)
unfolding net_in
size_is t = rw (length-map (firsts_in t) (number_in t), firsts_length (words_in t) (ends_in t) (forms_in t))
