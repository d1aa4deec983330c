-- The audit and the other parts: it finds what the compactor leaves sound, and marks that it finds sound serve as those do.
-- Assumes nothing.
use mathlib.Core.Path.{◌≡◌, refl, sym}
use mathlib.Core.List.{List}
use Prim.Native.Nat.{ℕ}
use lib.ListN.{length}
use Rattle.answers.proofs.Rules.{both_fine}
use Rattle.circuit.specs.Record.{inputs_of}
use Rattle.lists.specs.Faults.{fault_count}
use Rattle.lists.specs.Patterns.{pattern_count}
use Rattle.tables.specs.Entries.{entries_of}
use Rattle.tables.specs.Table.{table_rules}
use Rattle.tables.proofs.Says.{kept_fine}
use Rattle.dictionary.specs.Promise.{Answered}
use Rattle.needs.proofs.Sound.{compacted-length}
use Rattle.compact.specs.Promise.{Compacts}
use Rattle.compact.proofs.Promise.{marks_are}
use Rattle.findings.specs.declared.Finding.TheVariants.{Sound}
use Rattle.findings.proofs.Finds.{finding_words}
use Rattle.findings.proofs.Sound.{compacted-found_sound}
use Rattle.audit.specs.Promise.{Audits}
use Rattle.audit.proofs.Promise.{found_words, found_sound}
use Rattle.meaning.specs.Kept.{Serves}
use Rattle.meaning.proofs.Kept.{sound_serve}
use Rattle.std.specs.Prelude.{Ok, Result}
use Rattle.answers.specs.declared.Refusal.{Refusal}
use Rattle.findings.specs.declared.Finding.{Finding}

-- the marks that the compactor leaves for a table are found sound, whatever was lent to it for them
pub compacted_audited : {F P : ℕ} {t m m' : List ℕ} {r : Result Finding Refusal} → Compacts F P t m (Ok tt) m' → Audits F P t m' r → r ≡ Ok Sound
compacted_audited {F} {P} {t} {m} {m'} k a =
    let E = entries_of F t in
    let table = (both_fine (table_rules F P t) _ (sym k.answer)).0 in
    let size : length m' ≡ P = rw (marks_are k) (compacted-length E F P) in
    (found_words a Sound).1 (kept_fine F P t m' table size, (finding_words E F P m' Sound).0 (rw (marks_are k) (compacted-found_sound E F P)))

-- and marks that are found sound for the table of an engine of the dictionary maker serve, whoever made them
pub found_serve : {places : ℕ} {left c fs ps t w t' w' m : List ℕ}
    → Answered places left c fs ps t w (Ok tt) t' w'
    → Audits (fault_count fs) (pattern_count (inputs_of c) ps) t' m (Ok Sound)
    → Serves c fs ps m
found_serve d a = sound_serve d ((found_sound a).0 refl).1.1
