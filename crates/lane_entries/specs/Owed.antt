-- What the functions of the entries in lanes owe each other and their callers; no reader of the promises needs it.
-- Assumes nothing.
use Rattle.std.specs.Prelude.{◌≡◌, Bool, not, ◌||◌, List, ◌++◌, ℕ, suc, ◌*◌, ◌<◌, length, get_or, take}
use Rattle.lanes.specs.declared.Lanes.{Lanes}
use Rattle.lanes.specs.Lanes.{lanes_of, laid}
use Rattle.simulate.specs.Simulate.{Forcing}
use Rattle.entry.specs.Entry.{Test, differ, as_expected, some_output, entry_of, entry_under}
use Rattle.columns.specs.declared.EntryLanes.{EntryLanes}
use Rattle.columns.specs.Entries.{entry_lanes}
use Rattle.lane_lines.specs.Lines.{lane_pattern, line_words, good_words, both_words_under}
use Rattle.lane_entries.specs.declared.Said.{Said}

-- the values of an output are not as expected
abbrev pub missed : Test
missed a b = not (as_expected a b)

-- one of the outputs differs where d holds, and one is not as expected where m does
abbrev pub said_of : (ℕ → Bool) → (ℕ → Bool) → Said
said_of d m = record { fails = lanes_of d; misses = lanes_of m }

-- what the outputs below k say, where lane i has the good values g i and the faulty values f i
abbrev pub outputs_say : List ℕ → (ℕ → List ℕ) → (ℕ → List ℕ) → ℕ → Said
outputs_say c g f k = said_of (λ i. some_output differ c (g i) (f i) k) (λ i. some_output missed c (g i) (f i) k)

-- the words of these values: good lines, then faulty
abbrev pub halves_of : (ℕ → List ℕ) → (ℕ → List ℕ) → ℕ → List ℕ
halves_of g f n = line_words g n ++ line_words f n

-- n lines, and four words a line
pub record OutputsRoom (c : List ℕ) (n room : ℕ) : Type 0 where
  pub circuit : length c ≡ 8 * n
  pub four : room ≡ 4 * n

-- one more output, whose good lanes are a and whose faulty lanes are b
abbrev pub CompareDone : Said → Lanes → Lanes → Said → Type 0
CompareDone so a b r =
    (d m : ℕ → Bool) (v w : ℕ → ℕ) → so ≡ said_of d m → a ≡ laid v → b ≡ laid w
    → r ≡ said_of (λ i. d i || differ (v i) (w i)) (λ i. m i || missed (v i) (w i))

-- one more line
abbrev pub NextLineDone : List ℕ → ℕ → List ℕ → ℕ → Said → Said → Type 0
NextLineDone c n w k so r = (g f : ℕ → List ℕ) → w ≡ halves_of g f n → so ≡ outputs_say c g f k → r ≡ outputs_say c g f (suc k)

-- below the line start good and faulty values are the same
abbrev pub SameBelow : (ℕ → List ℕ) → (ℕ → List ℕ) → ℕ → Type 0
SameBelow g f start = (i k : ℕ) → k < start → get_or (g i) k 0 ≡ get_or (f i) k 0

-- all lines, of which those below start are passed over
abbrev pub EntriesFromDone : List ℕ → ℕ → List ℕ → ℕ → EntryLanes → Type 0
EntriesFromDone c n w start r =
    (g f : ℕ → List ℕ) → w ≡ halves_of g f n → SameBelow g f start → r ≡ entry_lanes (λ i. entry_of c (g i) (f i) n)

-- the entries of a group of patterns under a forcing, and the words that they were read from
pub record EntriesRead (f : Forcing) (c : List ℕ) (m : ℕ) (ps : List ℕ) (n : ℕ) (w : List ℕ) (r : EntryLanes) : Type 0 where
  pub entries_are : r ≡ entry_lanes (λ i. entry_under f c (lane_pattern m ps i) n)
  pub words_are : w ≡ both_words_under f c m ps n

-- where the first half of w has the good lines of a group
abbrev pub FaultEntriesDone : Forcing → List ℕ → ℕ → List ℕ → List ℕ → EntryLanes → Type 0
FaultEntriesDone f c n w w' r = (m : ℕ) (ps : List ℕ) → take (2 * n) w ≡ good_words c m ps n → EntriesRead f c m ps n w' r
