-- The whole list, part by part: each part has room, and at the end the list stands at the front of the lent words.
-- Assumes nothing.
use mathlib.Core.Path.{◌≡◌, sym, ap, ◌∙◌}
use mathlib.Core.List.{List, [], ◌∷◌, ◌++◌, append_assoc, append-nil}
use Prim.Native.Nat.{ℕ, ◌+◌, ◌≤◌}
use native.Mathlib.Nat.{zero-add}
use native.Mathlib.Omega.{arith}
use lib.IntN.{ℤ, pos}
use lib.ListN.{length, length-append}
use Rattle.lists.specs.declared.Fault.{Fault}
use Rattle.ground.specs.Lists.{gather}
use Rattle.cnf.specs.Cnf.{Clauses, words_of}
use Rattle.ground.specs.Put.{Put, laid_on}
use Rattle.cnf.specs.Owed.{single}
use Rattle.cnf.proofs.Decode.{words_append}
use Rattle.ground.proofs.Put.{put_as, put_none, put_then, put_room, put_whole}
use Rattle.line_clauses.specs.Clauses.{stuck_literal, good_clauses, faulty_clauses, difference_clauses, differences, clauses_of}
use Rattle.clauses.specs.Owed.{ClauseLinesReady, PutAllReady}
use Rattle.clauses.proofs.Sizes.{differences-length}

abbrev line_words : (ℕ → Clauses) → ℕ → List ℤ
line_words piece n = words_of (gather piece n)

abbrev last_words : ℕ → ℕ → List ℤ
last_words n outputs = differences n outputs ++ (pos 0 ∷ [])

module _ {c : List ℕ} {f : Fault} {n outputs : ℕ} {w₀ : List ℤ} (h : PutAllReady c f n outputs w₀) where
  good : List ℤ
  good = line_words (good_clauses c) n

  faulty : List ℤ
  faulty = line_words (faulty_clauses c f n) n

  difference : List ℤ
  difference = line_words (difference_clauses c n) n

  whole : List ℤ
  whole = words_of (clauses_of c f n)

  -- the words of the five parts
  parts : whole ≡ good ++ (single (stuck_literal f n) ++ (faulty ++ (difference ++ last_words n outputs)))
  unfolding whole good faulty difference clauses_of
  parts =
      rw h.counted.outputs_are
      (words_append (gather (good_clauses c) n) _
      ∙ ap (λ (l : List ℤ). good ++ (single (stuck_literal f n) ++ l))
      (words_append (gather (faulty_clauses c f n) n) _ ∙ ap (λ (l : List ℤ). faulty ++ l) (words_append (gather (difference_clauses c n) n) _)))

  fits : 0 + length whole ≤ length w₀
  unfolding whole
  fits = rw zero-add h.room

  pub room_good : ClauseLinesReady c n (good_clauses c) w₀ 0
  unfolding good
  room_good = record { circuit = h.counted.circuit; room = put_room whole good _ (put_none w₀ 0) parts fits }

  module _ {w1 : List ℤ} {n1 : ℕ} (p1 : Put w₀ w1 0 (line_words (good_clauses c) n) n1) where
    pub room_stuck : (n ≤ 2048) × (n1 + 2 ≤ length w1)
    unfolding good
    room_stuck = (h.counted.circuit.few, put_room whole (single (stuck_literal f n)) _ p1 parts fits)

    module _ {w2 : List ℤ} {n2 : ℕ} (p2 : Put w1 w2 n1 (single (stuck_literal f n)) n2) where
      pub room_faulty : ClauseLinesReady c n (faulty_clauses c f n) w2 n2
      unfolding good faulty
      room_faulty = record { circuit = h.counted.circuit; room = put_room whole faulty (difference ++ last_words n outputs) (put_then p1 p2) (parts ∙ simp append_assoc) fits }

      module _ {w3 : List ℤ} {n3 : ℕ} (p3 : Put w2 w3 n2 (line_words (faulty_clauses c f n) n) n3) where
        pub room_difference : ClauseLinesReady c n (difference_clauses c n) w3 n3
        unfolding good faulty difference
        room_difference = record { circuit = h.counted.circuit; room = put_room whole difference (last_words n outputs) (put_then (put_then p1 p2) p3) (parts ∙ simp append_assoc) fits }

        module _ {w4 : List ℤ} {n4 : ℕ} (p4 : Put w3 w4 n3 (line_words (difference_clauses c n) n) n4) where
          pub room_last : (n ≤ 2048) × (outputs ≤ 2048) × (n4 + outputs + 1 ≤ length w4)
          unfolding good faulty difference
          room_last =
              let q : n4 + length (last_words n outputs) ≤ length w4 =
              put_room whole (last_words n outputs) [] (put_then (put_then (put_then p1 p2) p3) p4) (parts ∙ simp (append_assoc, append-nil)) fits in
              let m : length (last_words n outputs) ≡ outputs + 1 = simp (length-append, differences-length) in
              (h.counted.circuit.few, h.counted.few_outputs, omega arith)

          pub all_laid : {w5 : List ℤ} {n5 : ℕ} → Put w4 w5 n4 (last_words n outputs) n5 → w5 ≡ laid_on w₀ (words_of (clauses_of c f n))
          unfolding whole good faulty difference
          all_laid p5 = put_whole (put_as (sym (parts ∙ simp append_assoc)) (put_then (put_then (put_then (put_then p1 p2) p3) p4) p5)) h.room
