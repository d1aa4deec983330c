-- What the C entries that make tables and read them promise: the answer in numbers, and what lent memory holds afterwards.
-- With an answer area of another size than 32 bytes nothing is written at all (`entered`).
-- Assumes nothing.
use Rattle.std.specs.Prelude.{not, List, ℕ, eqb, length, take}
use Rattle.answers.specs.Rules.{refusal}
use Rattle.answers.specs.Area.{Numbers, success, told, done}
use Rattle.circuit.specs.Record.{lines_of, inputs_of}
use Rattle.rows.specs.Table.{table_of, table_work}
use Rattle.dictionary.specs.Promise.{dictionary_rules}
use Rattle.groups.specs.Work.{lane_work}
use Rattle.tables.specs.Entries.{entries_of}
use Rattle.tables.specs.Marks.{kept_rules}
use Rattle.needs.specs.Needs as needs
use Rattle.findings.specs.Findings.{finding_of, finding_numbers}
use Rattle.reports.specs.Reports.{report_of}
use Rattle.suspects.specs.Promise.{open_state, narrowed_state}
use Rattle.suspect_areas.specs.Bytes.{bytes_of, state_in}
use Rattle.suspect_areas.specs.Promise.{open_area_rules, report_area_rules, marks_area_rules}
use Rattle.replies.specs.Entered.{LentEntered, MadeEntered}

-- the dictionary maker, of an engine with so many places for each line in the work memory, which is to hold `left`
abbrev pub EngineEntered : ℕ → List ℕ → List ℕ → List ℕ → List ℕ → List ℕ → List ℕ → List ℕ → ℕ → List ℕ → List ℕ → List ℕ → Type 0
EngineEntered places left c fs ps t w a r t' w' a' =
    MadeEntered (dictionary_rules places c fs ps (length t) (length w)) (table_of c (lines_of c) (inputs_of c) fs ps) left t w a r t' w' a'

-- a byte for each line's good value, and one for its faulty value
abbrev pub DictionaryEntered : List ℕ → List ℕ → List ℕ → List ℕ → List ℕ → List ℕ → ℕ → List ℕ → List ℕ → List ℕ → Type 0
DictionaryEntered c fs ps t w a r t' w' a' = EngineEntered 2 (table_work c (lines_of c) (inputs_of c) fs ps) c fs ps t w a r t' w' a'

-- a word each for a line's 1-lanes and 0-lanes, good and faulty, of 64 patterns
abbrev pub DictionaryLanesEntered : List ℕ → List ℕ → List ℕ → List ℕ → List ℕ → List ℕ → ℕ → List ℕ → List ℕ → List ℕ → Type 0
DictionaryLanesEntered c fs ps t w a r t' w' a' = EngineEntered 4 (lane_work c (lines_of c) (inputs_of c) fs ps) c fs ps t w a r t' w' a'

-- the compactor: done; the marks m
abbrev pub CompactEntered : ℕ → ℕ → List ℕ → List ℕ → List ℕ → ℕ → List ℕ → List ℕ → Type 0
CompactEntered F P t m a r m' a' = LentEntered (kept_rules F P t m) done m (needs.compacted (entries_of F t) F P) a r m' a'

-- the audit of a kept list, of the table t and the marks m: the finding and its place
abbrev pub audit_numbers : ℕ → ℕ → List ℕ → List ℕ → Numbers
audit_numbers F P t m = told (refusal (kept_rules F P t m)) (finding_numbers (finding_of (entries_of F t) F P m))

-- opening a state of suspects, and reporting to it, where 0 says that the pattern passed: faults remaining; the state s
abbrev pub SuspectsOpenEntered : ℕ → ℕ → List ℕ → List ℕ → List ℕ → ℕ → List ℕ → List ℕ → Type 0
SuspectsOpenEntered F P t s a r s' a' = LentEntered (open_area_rules s F P t) (success F 0 0) s (bytes_of (open_state F P)) a r s' a'

abbrev pub SuspectsReportEntered : ℕ → ℕ → List ℕ → ℕ → ℕ → List ℕ → List ℕ → ℕ → List ℕ → List ℕ → Type 0
SuspectsReportEntered F P t p failed s a r s' a' =
    let q = report_of F P t p (not (eqb failed 0)) in
    let new = narrowed_state (state_in s) q in
    LentEntered (report_area_rules s q) (success new.remaining 0 0) s (bytes_of new) a r s' a'

-- the marks m of the state s: faults remaining, faults, patterns
abbrev pub SuspectsMarksEntered : List ℕ → List ℕ → List ℕ → ℕ → List ℕ → List ℕ → Type 0
SuspectsMarksEntered s m a r m' a' =
    LentEntered (marks_area_rules s m) (success (state_in s).remaining (state_in s).faults (state_in s).patterns)
    m (take (state_in s).faults (state_in s).marks) a r m' a'
