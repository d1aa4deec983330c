-- The marks of a dictionary's table serve: no fault that some pattern fails is lost, and no pair of them told apart.
-- Assumes nothing.
use mathlib.Core.Path.{◌≡◌, sym}
use mathlib.Core.Logic.{◌⊎◌, inl, inr, ⊎_elim}
use mathlib.Core.List.{List}
use Prim.Native.Nat.{ℕ, ◌<◌}
use lib.ListN.{length}
use Rattle.answers.specs.Rules.{refusal}
use Rattle.circuit.specs.Record.{lines_of, inputs_of}
use Rattle.circuit.specs.Promise.{circuit_rules}
use Rattle.lists.specs.Faults.{fault_count, fault_at}
use Rattle.lists.specs.Patterns.{pattern_count, pattern_at}
use Rattle.lists.specs.Both.{list_rules}
use Rattle.tables.specs.Entries.{entries_of}
use Rattle.simulate.specs.Simulate.{stuck_at}
use Rattle.rows.specs.Table.{table_of}
use Rattle.rows.proofs.Entries.{made}
use Rattle.dictionary.specs.Promise.{Answered}
use Rattle.dictionary.proofs.Checked.{taken}
use Rattle.dictionary.proofs.Says.{made_so}
use Rattle.needs.specs.Needs.{compacted}
use Rattle.needs.specs.Words.{TellsApart, Sound}
use Rattle.needs.proofs.Sound.{compacted_sound}
use Rattle.needs.proofs.Same.{sound_same}
use Rattle.compact.specs.Promise.{Compacts}
use Rattle.compact.proofs.Promise.{fine_sound}
use Rattle.meaning.specs.Entries.{Means}
use Rattle.meaning.specs.Kept.{entries_for, ExposesAt, ClearsAt, Serves}
use Rattle.meaning.proofs.Entries.{listed_means}
use Rattle.std.specs.Prelude.{Ok}

-- sound marks of the table as it is defined serve, in an accepted circuit with accepted lists
module _ (c fs ps m : List ℕ) (fine : refusal (circuit_rules c) ≡ Ok tt) (listed : refusal (list_rules c (inputs_of c) fs ps) ≡ Ok tt) where
  at : (i j : ℕ) → i < pattern_count (inputs_of c) ps → j < fault_count fs → Means (entries_for c fs ps i j) c (fault_at fs j) (lines_of c) (pattern_at (inputs_of c) ps i)
  at = listed_means c fs ps fine listed

  tells : (i f g : ℕ)
      → i < pattern_count (inputs_of c) ps
      → f < fault_count fs
      → g < fault_count fs
      → TellsApart (entries_for c fs ps i f) (entries_for c fs ps i g)
      → (ExposesAt c fs ps i f × ClearsAt c fs ps i g) ⊎ (ClearsAt c fs ps i f × ExposesAt c fs ps i g)
  tells i f g l a b =
      ⊎_elim
      (λ e. inl ((at i f l a).exposes e.0, (at i g l b).clears e.1))
      (λ e. inr ((at i f l a).clears e.0, (at i g l b).exposes e.1))

  serves : Sound (entries_of (fault_count fs) (table_of c (lines_of c) (inputs_of c) fs ps)) (fault_count fs) (pattern_count (inputs_of c) ps) m → Serves c fs ps m
  serves sound =
      let s = sound_same {E = entries_of (fault_count fs) (table_of c (lines_of c) (inputs_of c) fs ps)} (made stuck_at c (lines_of c) (inputs_of c) fs ps).entry sound in
      record {
        sound = s;
        exposed = λ f a d. let k = s.enough.faults f a d in (k.0, k.1, k.2, (at k.0 f k.1 a).exposes k.3);
        told = λ f g a b d e t.
            let k = s.enough.pairs f g a b d e t in
            (k.0, k.1, k.2, tells k.0 f g k.1 a b k.3);
      }

-- the compacted marks of that table; the text of the dictionary program is defined by them
pub table_serves : (c fs ps : List ℕ)
    → refusal (circuit_rules c) ≡ Ok tt
    → refusal (list_rules c (inputs_of c) fs ps) ≡ Ok tt
    → Serves c fs ps (compacted (entries_of (fault_count fs) (table_of c (lines_of c) (inputs_of c) fs ps)) (fault_count fs) (pattern_count (inputs_of c) ps))
table_serves c fs ps fine listed = serves c fs ps _ fine listed (compacted_sound _ (fault_count fs) (pattern_count (inputs_of c) ps))

-- ---- of the parts' results

module _ {places : ℕ} {left c fs ps t w t' w' : List ℕ} (made_by : Answered places left c fs ps t w (Ok tt) t' w') where
  -- any sound marks of the table of an engine of the dictionary maker, another tool's too
  pub sound_serve : {m : List ℕ} → Sound (entries_of (fault_count fs) t') (fault_count fs) (pattern_count (inputs_of c) ps) m → Serves c fs ps m
  sound_serve {m} s =
      let so = taken places c fs ps (length t) (length w) (sym made_by.answer) in
      serves c fs ps m so.circuit_fine so.lists_fine (rw (made_so made_by).0 at s)

  -- so those that the compactor leaves for it
  pub kept_serve : {m m' : List ℕ} → Compacts (fault_count fs) (pattern_count (inputs_of c) ps) t' m (Ok tt) m' → Serves c fs ps m'
  kept_serve k = sound_serve (fine_sound k)
