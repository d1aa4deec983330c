-- What the functions that inspect a kept list owe each other and their callers; no reader of the promises needs it.
-- Assumes nothing.
use Rattle.std.specs.Prelude.{◌≡◌, Bool, Option, false, not, ◌&&◌, List, ℕ, ◌+◌, ◌*◌, ◌≤◌, ◌<◌, eqb, ltb, length, get_or}
use Rattle.std.specs.Option.{option_map}
use Rattle.ground.specs.Below.{any_below}
use Rattle.needs.specs.Needs.{kept}
use Rattle.needs.specs.Words.{Meets}
use Rattle.tables.specs.Entries.{entries_of}
use Rattle.tallies.specs.Tally.{with_mark, Tallied}
use Rattle.tallies.specs.Owed.{TallyRoom}
use Rattle.findings.specs.Findings.{bad_mark, first_where, place_where}

-- ---- by the tallies of the kept patterns and of the dropped ones

-- a dropped pattern fails the fault, by its notes d, and no kept one, by their notes k
unfoldable pub lost_in : List ℕ → List ℕ → ℕ → Bool
lost_in k d f = eqb (get_or d f 0) 1 && not (eqb (get_or k f 0) 1)

-- both faults are detected, by the notes s; a dropped pattern tells them apart, by their counts d, and no kept one, by theirs, k
unfoldable pub pair_in : List ℕ → List ℕ → List ℕ → ℕ → ℕ → Bool
pair_in k d s f g = ltb f g && (eqb (get_or s f 0) 1 && (eqb (get_or s g 0) 1 && (eqb (get_or k (256 * g + f) 0) 0 && not (eqb (get_or d (256 * g + f) 0) 0))))

-- the lowest place below n that makes a pair with some place below n, and the lowest with which it does; if there is one
unfoldable pub pair_where : ℕ → (ℕ → ℕ → Bool) → Option (ℕ × ℕ)
pair_where n t = option_map (λ f. (f, first_where n (t f))) (place_where n (λ f. any_below n (t f)))

pub record PairsRoom (k d s : List ℕ) (n : ℕ) : Type 0 where
  pub few : n ≤ 256
  pub kept_cells : 256 * n + n ≤ length k
  pub dropped_cells : 256 * n + n ≤ length d
  pub faults : n ≤ length s

-- ---- what is known where kept patterns are looked at for a spare one: every need is met

pub record SpareReady (t : List ℕ) (F P : ℕ) (m c s : List ℕ) : Type 0 where
  pub room : TallyRoom c s t F P
  pub marks : length m ≡ P
  pub tallied : Tallied t F P (kept m) c s
  pub enough : Meets (entries_of F t) F P (kept m)

-- ---- and where nothing has been looked for: the two tallies, of marks that are all 0 or 1

pub record MarksReady (P : ℕ) (m : List ℕ) : Type 0 where
  pub size : length m ≡ P
  pub none_bad : (k : ℕ) → k < P → bad_mark m k ≡ false

pub record FindReady (t : List ℕ) (F P : ℕ) (m kc ks dc ds : List ℕ) : Type 0 where
  pub kept_room : TallyRoom kc ks t F P
  pub dropped_room : TallyRoom dc ds t F P
  pub marks : MarksReady P m
  pub kept_tally : Tallied t F P (kept m) kc ks
  pub dropped_tally : Tallied t F P (with_mark 0 m) dc ds
