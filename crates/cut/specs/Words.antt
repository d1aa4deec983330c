-- What is used of the cut circuit, line by line; and which faults are served, in words.
-- Assumes nothing.
use Rattle.std.specs.Prelude.{◌≡◌, ◌⊎◌, true, false, List, ℕ, ◌≤◌, ◌<◌, length}
use Rattle.gates.specs.Gate.{last_kind}
use Rattle.circuit.specs.Record.{kind_at, out_at, pin_at}
use Rattle.lists.specs.declared.Fault.{Fault}
use Rattle.heads.specs.Heads.{bound, head}

-- d is c, cut at its head lines
pub record Cut (c d : List ℕ) (n : ℕ) : Type 0 where
  pub size : length d ≡ length c
  pub pins : (k s : ℕ) → k < n → 1 ≤ s → s ≤ 3 → pin_at d k s ≡ pin_at c k s
  pub bound_kind : (k : ℕ) → k < n → bound c n k ≡ true → kind_at d k ≡ kind_at c k
  pub bound_out : (k : ℕ) → k < n → bound c n k ≡ true → out_at d k ≡ out_at c k
  pub head_kind : (k : ℕ) → k < n → head c n k ≡ true → kind_at d k ≡ 0
  pub head_out : (k : ℕ) → k < n → head c n k ≡ true → out_at d k ≡ out_at c k
  pub rest_kind : (k : ℕ) → k < n → bound c n k ≡ false → head c n k ≡ false → last_kind < kind_at d k
  pub rest_out : (k : ℕ) → k < n → bound c n k ≡ false → head c n k ≡ false → out_at d k ≡ 0

-- a fault that the search over head lines serves
abbrev pub HeadsServe : List ℕ → ℕ → Fault → Type 0
HeadsServe c n fault = (bound c n fault.line ≡ true) ⊎ ((head c n fault.line ≡ true) × (fault.site ≡ 0))
