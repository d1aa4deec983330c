-- How long the tables of the statements are. A line that defines a name is an input or a gate, and never both.
-- Assumes nothing.
use mathlib.Core.Path.{◌≡◌, sym, ◌∙◌}
use mathlib.Core.Bool.{false, ◌&&◌}
use mathlib.Core.List.{List}
use Prim.Native.Nat.{ℕ, ◌+◌}
use native.Mathlib.Omega.{arith}
use lib.Dec.{eqb, leb}
use lib.ListN.{length, get_or}
use borrow.Author.Tests.{eqb-true, lt-leb}
use Rattle.ground.specs.Below.{count_below}
use Rattle.ground.proofs.Tests.{never_both}
use Rattle.ground.proofs.Counting.{count_either}
use Rattle.ground.proofs.Lists.{collect-length}
use Rattle.forms.specs.Forms.{says_input, says_output, says_gate, defines, inputs_in, gates_in}
use Rattle.statements.specs.Tables.{defs_of, def_numbers_of, outs_of, firsts_of, seconds_of, kinds_of}

not-both : (x : ℕ) → (eqb x 1 && leb 3 x) ≡ false
not-both x = never_both (eqb x 1) (leb 3 x) (λ e. let q = eqb-true x 1 e in lt-leb 3 x (omega arith))

pub defs_split : (fs : List ℕ) → count_below (length fs) (defines fs) ≡ inputs_in fs + gates_in fs
defs_split fs = count_either (length fs) (says_input fs) (says_gate fs) (λ k. not-both (get_or fs k 0))

pub numbers-length : (fs : List ℕ) → length (def_numbers_of fs) ≡ inputs_in fs + gates_in fs
unfolding def_numbers_of
numbers-length fs = collect-length _ _ (length fs) ∙ defs_split fs

module _ (ws es fs : List ℕ) where
  pub defs_length : length (defs_of ws es fs) ≡ inputs_in fs + gates_in fs
  unfolding defs_of
  defs_length = collect-length _ _ (length fs) ∙ defs_split fs

  pub same_lengths : length (def_numbers_of fs) ≡ length (defs_of ws es fs)
  same_lengths = numbers-length fs ∙ sym defs_length

  pub outs_length : length (outs_of ws es fs) ≡ count_below (length fs) (says_output fs)
  unfolding outs_of
  outs_length = collect-length _ _ (length fs)

  pub firsts_length : length (firsts_of ws es fs) ≡ gates_in fs
  unfolding firsts_of
  firsts_length = collect-length _ _ (length fs)

  pub seconds_length : length (seconds_of ws es fs) ≡ gates_in fs
  unfolding seconds_of
  seconds_length = collect-length _ _ (length fs)

  pub kinds-length : (t : List ℕ) → length (kinds_of t ws es fs) ≡ gates_in fs
  unfolding kinds_of
  kinds-length t = collect-length _ _ (length fs)
