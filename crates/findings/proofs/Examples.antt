-- Sound marks need not be the compacted ones, by the rows FF, FP and FP.
-- Assumes nothing.
use mathlib.Core.Path.{◌≡◌, refl}
use mathlib.Core.List.{[], ◌∷◌}
use Rattle.ground.specs.Below.{first_not}
use Rattle.tables.specs.Entries.{Entries, entries_of}
use Rattle.needs.specs.Needs.{tells, lost, lost_pair, lacks, turn, turns, compacted}
use Rattle.findings.specs.declared.Finding.TheVariants.{Sound}
use Rattle.findings.specs.Findings.{pair_lost, spare, finding_of}

abbrev pub ff_fp_fp : Entries
ff_fp_fp = entries_of 2 (1 ∷ 1 ∷ 1 ∷ 0 ∷ 1 ∷ 0 ∷ [])

-- the last pattern is kept in place of the one before it, whose row is the same
pub other_sound : finding_of ff_fp_fp 2 3 (1 ∷ 0 ∷ 1 ∷ []) ≡ Sound
unfolding finding_of first_not lost lost_pair pair_lost tells spare lacks
other_sound = refl

pub compacted_marks : compacted ff_fp_fp 2 3 ≡ 1 ∷ 1 ∷ 0 ∷ []
unfolding compacted turns turn lost lost_pair tells lacks
compacted_marks = refl
