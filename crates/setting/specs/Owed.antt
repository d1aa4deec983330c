-- What the functions that set the trees owe each other and their callers; no reader of the promises needs it.
-- Assumes nothing.
use Rattle.std.specs.Prelude.{◌≡◌, List, ℕ, ◌-◌, ◌*◌, ◌<◌, eqb, leb, length, get_or, set}
use Rattle.ground.specs.Choose.{choose}
use Rattle.gates.specs.Gate.{X}
use Rattle.circuit.specs.Record.{kind_at, is_input, inputs_before}
use Rattle.reads.specs.Owed.{Sourced}
use Rattle.heads.specs.Heads.{heads_of}
use Rattle.heads.specs.Marks.{Marked}

-- ---- what pin s gets

unfoldable pub alone : ℕ → ℕ → ℕ
alone u s = choose (eqb s 1) u X

unfoldable pub both : ℕ → ℕ → ℕ
both u s = choose (leb s 2) u X

unfoldable pub forced_or : ℕ → ℕ → ℕ → ℕ
forced_or forced u s = choose (eqb u forced) (alone u s) (both u s)

unfoldable pub after_zero : ℕ → ℕ → ℕ
after_zero u s = choose (eqb s 1) 0 (choose (eqb s 2) u X)

unfoldable pub selecting : ℕ → ℕ → ℕ
selecting u s = choose (eqb s 1) u (choose (eqb s 3) 0 X)

-- by the kind of a gate that is to have the known value v
unfoldable pub need_by : ℕ → ℕ → ℕ → ℕ
need_by kind v s =
    choose (eqb kind 1) (alone v s)
    (choose (eqb kind 2) (alone (1 - v) s)
    (choose (eqb kind 3) (forced_or 0 v s)
    (choose (eqb kind 4) (forced_or 0 (1 - v) s)
    (choose (eqb kind 5) (forced_or 1 v s)
    (choose (eqb kind 6) (forced_or 1 (1 - v) s)
    (choose (eqb kind 7) (after_zero v s)
    (choose (eqb kind 8) (after_zero (1 - v) s)
    (choose (eqb kind 9) (selecting v s) X))))))))

-- ---- head lines

pub record HeadReady (marks node : List ℕ) (k used : ℕ) : Type 0 where
  pub line : k < length marks
  pub head : get_or marks k 0 ≡ 1 → used < length node

unfoldable pub head_or : List ℕ → List ℕ → ℕ → ℕ → ℕ
head_or marks node k used = choose (eqb (get_or marks k 0) 1) (get_or node used 0) X

-- ---- inputs

pub record InputReady (c : List ℕ) (n k used room : ℕ) : Type 0 where
  pub size : length c ≡ 8 * n
  pub line : k < n
  pub input : kind_at c k ≡ 0 → used < room

unfoldable pub input_put : List ℕ → List ℕ → ℕ → ℕ → List ℕ → List ℕ
input_put c w k used t = choose (is_input c k) (set t used (get_or w k 0)) t

pub record InputsReady (c : List ℕ) (n inputs : ℕ) : Type 0 where
  pub size : length c ≡ 8 * n
  pub inputs_are : inputs ≡ inputs_before c n

-- ---- all together

pub record TreesReady (c marks : List ℕ) (node n inputs : ℕ) : Type 0 where
  pub sourced : Sourced c n
  pub marked : Marked c n marks
  pub heads_are : node ≡ heads_of c n
  pub inputs_are : inputs ≡ inputs_before c n
