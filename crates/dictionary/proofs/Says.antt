-- The promise and the paper's words say the same.
-- Assumes nothing.
use mathlib.Core.Path.{◌≡◌, refl, sym, ap, ◌∙◌}
use mathlib.Core.List.{List}
use Prim.Native.Nat.{ℕ}
use lib.ListN.{length}
use Rattle.answers.specs.Rules.{Ruling}
use Rattle.answers.specs.Rules.{Applies}
use Rattle.answers.specs.Area.{told, done}
use Rattle.answers.proofs.Rules as rules
use Rattle.answers.proofs.Words as words
use Rattle.answers.proofs.Words.{lent_by_words}
use Rattle.circuit.specs.Record.{lines_of, inputs_of}
use Rattle.simulate.specs.Simulate.{stuck_at}
use Rattle.rows.specs.Table.{work_under, table_of, table_work}
use Rattle.rows.proofs.Entries.{made, one_made}
use Rattle.dictionary.specs.Promise.{dictionary_rules, Answered, Dictionary}
use Rattle.dictionary.specs.Words.{EngineWords, LeftBoth, InWords}
use Rattle.dictionary.proofs.Checked.{dictionary_says, Taken, taken}
use Rattle.std.specs.Prelude.{Ok, Err}
use Rattle.answers.specs.declared.Reason.{Reason}

-- where nothing is refused, table and work memory are as said
pub made_so : {places : ℕ} {left c fs ps t w t' w' : List ℕ} → Answered places left c fs ps t w (Ok tt) t' w' → (t' ≡ table_of c (lines_of c) (inputs_of c) fs ps) × (w' ≡ left)
made_so d = let q = sym d.answer in (d.table ∙ rw q, d.work ∙ rw q)

module _ {places : ℕ} {left c fs ps t w : List ℕ} {r : Ruling} {t' w' : List ℕ} where
  -- a refusal is the first that applies, with the lowest place; and where one applies, it is given
  module _ (d : Answered places left c fs ps t w r t' w') (reason : Reason) (place : ℕ) where
    pub refused_applies : r ≡ Err (reason, place) → Applies (dictionary_rules places c fs ps (length t) (length w)) reason place
    refused_applies = rules.refused_applies _ (dictionary_says places c fs ps (length t) (length w)) d.answer reason place

    pub applies_refused : Applies (dictionary_rules places c fs ps (length t) (length w)) reason place → r ≡ Err (reason, place)
    applies_refused = rules.applies_refused _ (dictionary_says places c fs ps (length t) (length w)) d.answer reason place

  module _ {Left : List ℕ → Type 0} where
    -- the promise meets the words
    pub engine_in_words : (Taken places c fs ps (length t) (length w) → Left left) → Answered places left c fs ps t w r t' w' → EngineWords places Left c fs ps t w r t' w'
    engine_in_words holds d = record {
      refused = refused_applies d;
      refuses = applies_refused d;
      nothing = λ m k e. (d.table ∙ rw (sym d.answer ∙ e), d.work ∙ rw (sym d.answer ∙ e));
      made = λ e.
          let so = made_so (rw e at d) in
          (rw so.0 (made stuck_at c (lines_of c) (inputs_of c) fs ps), rw so.1 (holds (taken places c fs ps (length t) (length w) (sym d.answer ∙ e))));
    }

    -- and what meets the words keeps the promise
    pub engine_by_words : (Taken places c fs ps (length t) (length w) → Left w' → w' ≡ left) → EngineWords places Left c fs ps t w r t' w' → Answered places left c fs ps t w r t' w'
    engine_by_words only i =
        let all = dictionary_rules places c fs ps (length t) (length w) in
        let says = dictionary_says places c fs ps (length t) (length w) in
        let answer = words.by_words all says i.refused i.refuses in
        record {
          answer = answer;
          numbers = ap (λ (v : Ruling). told v done) answer;
          table = lent_by_words all says i.refused i.refuses (λ m k e. (i.nothing m k e).0) (λ _ e. one_made stuck_at c (lines_of c) (inputs_of c) fs ps (i.made e).0);
          work = lent_by_words all says i.refused i.refuses (λ m k e. (i.nothing m k e).1) (λ q e. only (taken places c fs ps (length t) (length w) q) (i.made e).1);
        }

-- ---- a byte for each value

left_both : (c fs ps : List ℕ) → LeftBoth c fs ps (table_work c (lines_of c) (inputs_of c) fs ps)
unfolding work_under
left_both c fs ps = refl

module _ {c fs ps t w : List ℕ} {r : Ruling} {t' w' : List ℕ} where
  pub in_words : Dictionary c fs ps t w r t' w' → InWords c fs ps t w r t' w'
  in_words = engine_in_words (λ _. left_both c fs ps)

  pub by_words : InWords c fs ps t w r t' w' → Dictionary c fs ps t w r t' w'
  by_words = engine_by_words (λ _ e. e ∙ sym (left_both c fs ps))
