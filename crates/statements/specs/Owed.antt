-- What the functions of the statements owe each other and their callers; no reader of the promises needs it.
-- Assumes nothing.
use Rattle.std.specs.Prelude.{◌≡◌, Bool, List, ℕ, ◌≤◌, ◌<◌, length, get_or, take}
use Rattle.ground.specs.Below.{count_below}
use Rattle.forms.specs.Forms.{says_output, says_gate, defines, gates_in}
use Rattle.statements.specs.Tables.{defs_of, def_numbers_of, outs_of, firsts_of, seconds_of}

-- no more than 8,192 lines pass the test, and a table has room for these and one more
pub record FewReady (fs : List ℕ) (test : ℕ → Bool) (out : List ℕ) : Type 0 where
  pub few : count_below (length fs) test ≤ 8192
  pub room : length out ≡ 8193

pub record DefsReady (ws es fs : List ℕ) (gates : ℕ) (defs numbers : List ℕ) : Type 0 where
  pub lines : length fs ≡ length es
  pub gates_are : gates ≡ gates_in fs
  pub for_defs : FewReady fs (defines fs) defs
  pub for_numbers : FewReady fs (defines fs) numbers

pub record DefsDone (ws es fs defs numbers : List ℕ) (d : ℕ) : Type 0 where
  pub few : d ≤ 8192
  pub defs_are : take d defs ≡ defs_of ws es fs
  pub numbers_are : take d numbers ≡ def_numbers_of fs

pub record OutsReady (es fs outs : List ℕ) : Type 0 where
  pub lines : length fs ≡ length es
  pub for_outs : FewReady fs (says_output fs) outs

pub record OutsDone (ws es fs outs : List ℕ) (d : ℕ) : Type 0 where
  pub few : d ≤ 8192
  pub are : take d outs ≡ outs_of ws es fs

-- each form is one, and the tables of the gates have room for one more than there are
pub record SourcesReady (es fs : List ℕ) (first second : List ℕ) : Type 0 where
  pub lines : length fs ≡ length es
  pub forms : (k : ℕ) → k < length fs → get_or fs k 0 < 5
  pub for_first : FewReady fs (says_gate fs) first
  pub for_second : FewReady fs (says_gate fs) second

pub record SourcesDone (ws es fs firsts seconds : List ℕ) : Type 0 where
  pub firsts_are : take (gates_in fs) firsts ≡ firsts_of ws es fs
  pub seconds_are : take (gates_in fs) seconds ≡ seconds_of ws es fs

pub record KindsReady (es fs kinds : List ℕ) : Type 0 where
  pub lines : length fs ≡ length es
  pub for_kinds : FewReady fs (says_gate fs) kinds
