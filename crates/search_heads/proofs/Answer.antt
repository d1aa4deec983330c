-- The promise of the search over head lines: reached from its parts, and met by one result only.
-- Assumes nothing.
use mathlib.Core.Path.{◌≡◌, refl, sym, ap, ◌∙◌}
use mathlib.Core.Bool.{Bool, true, false}
use mathlib.Core.List.{List}
use Prim.Native.Nat.{ℕ, ◌*◌, ◌≤◌}
use lib.ListN.{length, get_or, take, replicate}
use Rattle.answers.specs.Rules.{Ruling}
use Rattle.answers.specs.Rules.{Rule, refusal}
use Rattle.answers.proofs.Answer.{numbers-told, fine_done, memory_part}
use Rattle.ground.proofs.Filled.{take-replicate, front_length}
use Rattle.lists.specs.declared.Fault.{Fault}
use Rattle.lists.specs.Faults.{fault_at}
use Rattle.nodes.specs.declared.Verdict.{Verdict}
use Rattle.nodes.specs.Node.{start}
use Rattle.sides.specs.Look.{look_of, look_work}
use Rattle.search.specs.Promise.{search_rules, verdict_for, test_for, work_for, searched_numbers}
use Rattle.search.specs.Owed.{RunDone}
use Rattle.heads.specs.Heads.{heads_of}
use Rattle.heads.specs.Marks.{Marked}
use Rattle.heads.proofs.Marks.{bounds, heads}
use Rattle.head_marks.specs.Owed.{MarkReady}
use Rattle.cut.specs.Cut.{heads_serve}
use Rattle.head_verdicts.specs.Look.{head_test}
use Rattle.search_heads.specs.Promise.{head_verdict_for, head_test_for, head_work_for, HeadSearches}
use Rattle.cut_search.specs.Owed.{RunHeadsReady, HeadRunDone}
use Rattle.cut_search.proofs.Cut.{well, sourced}
use Rattle.search_heads.specs.Owed.{served_by, EitherReady, EitherDone, HeadsReady, RoomReady, HeadSearchedBy}
use Rattle.std.specs.Prelude.{Ok, Result}
use Rattle.answers.specs.declared.Refusal.{Refusal}

-- ---- the one search or the other

module _ {c marks : List ℕ} {lines : ℕ} {fault : Fault} {n inputs test room : ℕ} (p : EitherReady c marks lines fault n inputs test room) where
  pub heads_ready : RunHeadsReady c marks lines fault n test room
  heads_ready = record { ready = record { inputs = inputs; known = p.known; run = p.run; marked = p.marked }; lines_size = p.lines_size }

  -- the mark says which
  serves_is : {u : Bool} → u ≡ served_by (get_or marks fault.line 0) fault.site → u ≡ heads_serve c n fault
  unfolding served_by heads_serve
  serves_is e = e ∙ rw (bounds p.marked fault.line p.run.ready.line, heads p.marked fault.line p.run.ready.line)

  module _ {b : ℕ} {t w : List ℕ} {u : Bool} {r : Verdict} {t' w' : List ℕ} (says : u ≡ served_by (get_or marks fault.line 0) fault.site) where
    pub over_heads : u ≡ true → HeadRunDone fault c n (start (heads_of c n)) b t w r t' w' → EitherDone c fault b t w r t' w'
    unfolding head_verdict_for head_test_for head_work_for head_test
    over_heads e q =
        let yes : heads_serve c n fault ≡ true = sym (serves_is says) ∙ e in
        record {
          verdict = rw (← p.known.lines, yes) q.verdict;
          test = rw (← p.known.lines, yes, ← q.verdict) q.test;
          work = rw (← p.known.lines, yes) q.work;
        }

    pub over_inputs : u ≡ false → RunDone (look_of fault c n) (look_work fault c n) (start inputs) b t w r t' w' → EitherDone c fault b t w r t' w'
    unfolding head_verdict_for head_test_for head_work_for verdict_for test_for work_for
    over_inputs e q =
        let no : heads_serve c n fault ≡ false = sym (serves_is says) ∙ e in
        record {
          verdict = rw (← p.known.inputs, ← p.known.lines, no) q.verdict;
          test = rw (← p.known.inputs, ← p.known.lines, no, ← q.verdict) q.test;
          work = rw (← p.known.inputs, ← p.known.lines, no) q.work;
        }

-- ---- memory of its own

module _ {c reads marks : List ℕ} {lines : ℕ} {fault : Fault} {inputs test room : ℕ} (p : RoomReady c reads marks lines fault inputs test room) where
  pub mark-ready : MarkReady c reads marks
  mark-ready = record {
    inputs = _;
    well = well p.ready.known;
    sourced = sourced p.ready.known;
    long = p.long;
    none_read = p.none_read;
    none_marked = p.none_marked;
  }

  pub either-ready : {n : ℕ} {marks' : List ℕ} → n ≡ length marks → Marked c (length marks) marks' → EitherReady c marks' lines fault n inputs test room
  either-ready e q = rw e (record { known = p.ready.known; run = p.ready.run; marked = q; lines_size = p.lines_size })

-- the front of so many zeros, for n lines
pub room_ready : (most : ℕ) {c : List ℕ} {fault : Fault} {n inputs test room lines : ℕ}
    → n ≤ most
    → lines ≡ 8 * n
    → HeadsReady c fault n inputs test room
    → RoomReady c (take n (replicate most 0)) (take n (replicate most 0)) lines fault inputs test room
room_ready most {n = n} l size p =
    let long = front_length most 0 n l in
    let zeros : take {A = ℕ} n (replicate most 0) ≡ replicate (length {A = ℕ} (take n (replicate most 0))) 0 = take-replicate most n 0 l ∙ ap (λ (x : ℕ). replicate {A = ℕ} x 0) (sym long) in
    record { ready = rw long p; long = refl; none_read = zeros; none_marked = zeros; lines_size = size ∙ ap (λ (x : ℕ). 8 * x) (sym long) }

-- ---- the promise

pub rest_fine : {rules : List Rule} {c : List ℕ} {b : ℕ} {t w : List ℕ} {at fault : Fault} {r : Verdict} {t' w' : List ℕ}
    → refusal rules ≡ Ok tt
    → at ≡ fault
    → EitherDone c at b t w r t' w'
    → HeadSearchedBy rules c fault b t w (Ok r) t' w'
rest_fine e at_is p = fine_done e (rw (← at_is, p.verdict)) (rw (← at_is, p.test, p.work))

module _ {c f : List ℕ} {b : ℕ} {t w : List ℕ} where
  pub searches : {r : Result Verdict Refusal} {t' w' : List ℕ} → HeadSearchedBy (search_rules c f (length t) (length w)) c (fault_at f 0) b t w r t' w' → HeadSearches c f b t w r t' w'
  unfolding searched_numbers
  searches p = record {
    answer = p.answer;
    numbers = ap searched_numbers p.answer ∙ numbers-told _ (refusal (search_rules c f (length t) (length w))) _;
    test = memory_part (λ (lent : List ℕ × List ℕ). lent.0) p;
    work = memory_part (λ (lent : List ℕ × List ℕ). lent.1) p;
  }

  -- two allowed results are equal
  pub one_result : {r s : Result Verdict Refusal} {t' t'' w' w'' : List ℕ} → HeadSearches c f b t w r t' w' → HeadSearches c f b t w s t'' w'' → (r ≡ s) × (t' ≡ t'') × (w' ≡ w'')
  one_result p q = (cc, cc, cc)
