-- Demand 3 about the very words that the clause writer writes: after success they are faithful to the circuit and the fault.
-- Assumes nothing.
use mathlib.Core.Path.{◌≡◌, refl, sym, ap, ◌∙◌}
use mathlib.Core.List.{List}
use Prim.Native.Nat.{ℕ}
use lib.IntN.{ℤ}
use lib.ListN.{length, take, drop}
use lib.Seq.{take_at}
use Rattle.answers.specs.Rules.{refusal}
use Rattle.answers.proofs.Rules.{both_fine, same_good}
use Rattle.answers.proofs.Answer.{was_ruled}
use Rattle.circuit.specs.Record.{lines_of}
use Rattle.ground.specs.Put.{laid_on}
use Rattle.circuit.specs.Promise.{circuit_rules}
use Rattle.circuit.proofs.Accepted as Accepted
use Rattle.lists.specs.declared.Fault.{Fault}
use Rattle.lists.specs.Faults.{fault_at}
use Rattle.simulate.specs.Boolean.{Vector, Detects}
use Rattle.line_clauses.specs.Clauses.{variables_of}
use Rattle.clauses.specs.declared.Written.{Written}
use Rattle.clauses.specs.Promise.{clauses_for, words_for, clause_rules, written_of, Writes, written_are}
use Rattle.satisfied.specs.Satisfied.{FaithfulWords}
use Rattle.satisfied.proofs.Faithful.{faithful}
use Rattle.std.specs.Prelude.{Ok}

module _ {c fs : List ℕ} {w w' : List ℤ} {a b v : ℕ} (p : Writes c fs w w' (Ok (written_are a b v))) where
  -- after success nothing was refused, the first words are the list, and the numbers are its own
  record Succeeded : Type 0 where
    fine : refusal (clause_rules c fs (length w)) ≡ Ok tt
    words : take a w' ≡ words_for c (fault_at fs 0)
    clauses : b ≡ length (clauses_for c (fault_at fs 0))
    variables : v ≡ variables_of c (lines_of c)

  succeeded : Succeeded
  unfolding written_of
  succeeded =
      let q : refusal (clause_rules c fs (length w)) ≡ Ok tt = was_ruled _ p.answer refl in
      let e : written_are a b v ≡ written_are (length (words_for c (fault_at fs 0))) (length (clauses_for c (fault_at fs 0))) (variables_of c (lines_of c)) = same_good (p.answer ∙ rw q) in
      let l : w' ≡ laid_on w (words_for c (fault_at fs 0)) = p.words ∙ rw q in
      let n : a ≡ length (words_for c (fault_at fs 0)) = ap (λ (x : Written). x.words) e in
      record { fine = q; words = rw l (take_at (words_for c (fault_at fs 0)) (drop (length (words_for c (fault_at fs 0))) w) a (sym n)); clauses = ap (λ (x : Written). x.clauses) e; variables = ap (λ (x : Written). x.variables) e }

  pub written_faithful : FaithfulWords c (fault_at fs 0) (take a w') b v
  written_faithful =
      let s = succeeded in
      rw (s.words, s.clauses, s.variables) (faithful c (fault_at fs 0) (Accepted.good c (both_fine (circuit_rules c) _ s.fine).0))

-- words that serve two faults say that the same vectors detect both: so a list that never varies is faithful to no two faults that differ
pub same_words : {c : List ℕ} {f g : Fault} {words : List ℤ} {l m u v : ℕ}
    → FaithfulWords c f words l u
    → FaithfulWords c g words m v
    → (x : Vector)
    → Detects c f (lines_of c) x
    → Detects c g (lines_of c) x
same_words p q x d = let e = p.extended x d in q.detected x e.0 e.1
