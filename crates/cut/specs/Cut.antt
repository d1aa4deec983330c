-- The circuit cut at its head lines: these become its inputs, so that the search over head lines is the search over the inputs of the cut circuit.
-- Assumes nothing.
use Rattle.std.specs.Prelude.{Bool, ◌&&◌, ◌||◌, List, ℕ, zero, suc, ◌+◌, ◌*◌, eqb, get_or, set}
use Rattle.ground.specs.Choose.{choose}
use Rattle.ground.specs.Lists.{collect}
use Rattle.circuit.specs.Record.{kind_at, out_at}
use Rattle.lists.specs.declared.Fault.{Fault}
use Rattle.simulate.specs.Boolean.{Vector, good, truth_at}
use Rattle.heads.specs.Heads.{bound, head}

-- a kind without a rule: such a line is X
abbrev pub no_kind : ℕ
no_kind = 255

-- a bound line is what it was, a head line is an input, every other free line is X
unfoldable pub cut_kind : List ℕ → ℕ → ℕ → ℕ
cut_kind c n k = choose (bound c n k) (kind_at c k) (choose (head c n k) 0 no_kind)

-- outputs of bound lines and of head lines are looked at, those of other free lines are not
unfoldable pub cut_out : List ℕ → ℕ → ℕ → ℕ
cut_out c n k = choose (bound c n k || head c n k) (out_at c k) 0

-- the first k lines of n are cut
unfoldable pub cut_to : List ℕ → ℕ → ℕ → List ℕ
cut_to c n zero = c
cut_to c n (suc k) = set (set (cut_to c n k) (8 * k) (cut_kind c n k)) (8 * k + 1) (cut_out c n k)

unfoldable pub cut : List ℕ → ℕ → List ℕ
cut c n = cut_to c n n

-- ---- vectors

-- the line of head line i, counted from 0 in line order
unfoldable pub head_line : List ℕ → ℕ → ℕ → ℕ
head_line c n i = get_or (collect (head c n) (λ k. k) n) i 0

-- what a vector does at the head lines of the good circuit: a vector of the cut one
unfoldable pub head_vector : List ℕ → ℕ → Vector → Vector
head_vector c n x i = truth_at good c x n (head_line c n i)

-- ---- faults

-- the search over head lines serves any fault at a bound line, and a head line itself stuck
unfoldable pub heads_serve : List ℕ → ℕ → Fault → Bool
heads_serve c n fault = bound c n fault.line || (head c n fault.line && eqb fault.site 0)
