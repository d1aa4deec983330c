-- States and answers as the machine has them, for a walk of a function that is lent a state.
-- Assumes nothing.
use mathlib.Core.List.{[], ◌∷◌, List}
use Prim.Native.Nat.{ℕ}
use seplogic.Ra.Ura.{Ura}
use mir.Val.{Val}
use base.Fml.{GName, Lft, Share, Fml, ftrue, flft, fobs, fbor}
use types.Kit.{Item, ‵, ◌⊛◌}
use types.SemTy.{Body}
use denote.Laws.{Is}
use denote.Memory.{mem}
use denote.Struct.Laws as struct
use Rattle.suspects.specs.declared.Suspects.{Suspects}
use Rattle.suspects.specs.declared.After.{After}
use Rattle.suspects.specs.contracts.Suspects as S
use Rattle.suspects.proofs.Suspects.TheLaws as S'
use Rattle.suspects.specs.contracts.After as R
use Rattle.suspects.proofs.After.TheLaws as R'

-- the machine values of a state
abbrev pub vals : Suspects → List Val
vals = struct.vals S.the_type S'.the_laws

-- what is had at the end of a walk: the state as it stands, its borrow and the token of that, the token of the table and what the table owns
abbrev pub left : {M : Type 1} (𝓤 : Ura M) → Lft → Share → Lft → Share → ℕ → ℕ → GName → Fml → Suspects → List (Item 𝓤)
left 𝓤 κ q κ' q' b o γ own s =
    ‵ (fobs γ ((S.the_row).coded.code s)) ∷ ‵ (fbor κ (Body (mem S.the_row) b o γ)) ∷ ‵ (flft κ q) ∷ (‵ (flft κ' q') ⊛ ‵ ftrue) ∷ ‵ own ∷ []

-- what whoever holds a result knows of its state
module _ (r : After) (v : Val) (is : Is R.the_row r (v ∷ [])) where
  pub is_state_lem : Is S.the_row r.state (vals r.state)
  is_state_lem = (struct.owed R.the_type R'.the_laws r (v ∷ []) is).0
