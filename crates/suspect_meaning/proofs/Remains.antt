-- The fault that the part has remains, whatever a tester that is to be believed reports.
-- Assumes nothing.
use mathlib.Core.Path.{◌≡◌}
use mathlib.Core.List.{List}
use Prim.Native.Nat.{ℕ, ◌+◌, ◌*◌, ◌<◌}
use lib.ListN.{get_or}
use Rattle.circuit.specs.Record.{lines_of, inputs_of}
use Rattle.lists.specs.Faults.{fault_count, fault_at}
use Rattle.lists.specs.Patterns.{pattern_at}
use Rattle.dictionary.specs.Promise.{Answered}
use Rattle.meaning.specs.Entries.{Means}
use Rattle.meaning.proofs.Entries.{dictionary_means}
use Rattle.reports.specs.Reports.{Report, entry_in}
use Rattle.reports.specs.Words.{Among, Remains}
use Rattle.suspects.specs.declared.Suspects.{Suspects}
use Rattle.suspects.specs.Sessions.{Session}
use Rattle.suspects.proofs.Sessions.{session_words}
use Rattle.suspect_meaning.specs.Tester.{TrueOf}
use Rattle.std.specs.Prelude.{Ok}

-- of the table that an engine of the dictionary maker leaves
module _ {places : ℕ} {left c fs ps t₀ w₀ t w : List ℕ} (made : Answered places left c fs ps t₀ w₀ (Ok tt) t w) (j : ℕ) (inside : j < fault_count fs) where
  -- the entry that is lent is the dictionary's
  entry_is : {q : Report} → TrueOf c fs ps t j q → entry_in q j ≡ get_or t (q.pattern * fault_count fs + j) 0
  entry_is {q} so = rw (so.lent, so.faults)

  means : {q : Report} → TrueOf c fs ps t j q → Means (entry_in q j) c (fault_at fs j) (lines_of c) (pattern_at (inputs_of c) ps q.pattern)
  means {q} so = rw (entry_is so) (dictionary_means made q.pattern j so.pattern inside)

  -- after reports that are all true of a part with fault j, fault j remains
  pub true-remains : (rs : List Report) → ((q : Report) → Among q rs → TrueOf c fs ps t j q) → Remains rs j
  true-remains rs all = record {
    none_passes = λ q a failed is.
        let so = all q a in
        let d = so.differed failed in
        d.2 ((means so).clears is so.vector so.fills d.0 d.1);
    none_fails = λ q a passed is.
        let so = all q a in
        let e = (means so).exposes is in
        e.differ so.vector so.fills (so.agreed passed e.line e.compared);
  }

  -- so in a session that took such reports alone its mark is set
  pub true-marked : {P : ℕ} {rs : List Report} {s : Suspects}
      → Session (fault_count fs) P rs s
      → ((q : Report) → Among q rs → TrueOf c fs ps t j q)
      → get_or s.marks j 0 ≡ 1
  true-marked {rs = rs} so all = (session_words so j inside).1 (true-remains rs all)
