-- The work memory by its bits: the definition has those that the words ask for, and no other words have.
-- Assumes nothing.
use mathlib.Core.Path.{◌≡◌, sym, ap, ap₂, fun_ext, ◌∙◌}
use mathlib.Core.List.{List, ◌++◌}
use Prim.Native.Nat.{ℕ, ◌+◌, ◌*◌, ◌≤◌, ◌<◌}
use native.Mathlib.Omega.{arith}
use lib.ListN.{length, get_or, take, drop, take-append-drop, length-take, length-drop, length-append}
use lib.Seq.{take_all, take_at, drop_at, get_or-take, get_or-drop}
use Rattle.ground.proofs.Grow.{grow-length}
use Rattle.answers.specs.Records.{Records}
use Rattle.lanes.proofs.Bits.{bits_of, of_bits}
use Rattle.simulate.specs.Simulate.{unforced, stuck_at, line_value}
use Rattle.simulate.specs.Work.{good_of, faulty_of}
use Rattle.rows.specs.Table.{last_fault}
use Rattle.lane_lines.specs.Lines.{line_words}
use Rattle.lane_lines.proofs.Words.{words_long, words_ones, words_zeros, words_are}
use Rattle.groups.specs.Work.{lane_work_under, lane_work}
use Rattle.dictionary_lanes.specs.Words.{last_lane, LineBits, LeftWords}
use Rattle.dictionary_lanes.proofs.Lanes.{last_lane_lem}

-- ---- the words of n lines, as a part of the work memory

module _ (vs : ℕ → List ℕ) (n at : ℕ) (w : List ℕ) where
  -- the part's words are those of the memory
  inside : (j : ℕ) → j < 2 * n → get_or (take (2 * n) (drop at w)) j 0 ≡ get_or w (at + j) 0
  inside j l = get_or-take (2 * n) (drop at w) j 0 l ∙ get_or-drop at w j 0

  words_bits : take (2 * n) (drop at w) ≡ line_words vs n → LineBits vs n at w
  words_bits e = record {
    ones = λ k l. rw (← inside (2 * k) (omega arith), e, words_ones vs n k l) (bits_of _);
    zeros = λ k l. rw (← inside (2 * k + 1) (omega arith), e, words_zeros vs n k l) (bits_of _);
  }

  bits_words : ((i : ℕ) → length (vs i) ≡ n) → at + 2 * n ≤ length w → LineBits vs n at w → take (2 * n) (drop at w) ≡ line_words vs n
  bits_words long room b = words_are vs n (record {
    long = simp (length-take, length-drop) (omega arith);
    values = long;
    lines = λ k l. ap₂ (λ (x y : ℕ). record { ones = x; zeros = y }) (inside (2 * k) (omega arith) ∙ of_bits (b.ones k l)) (inside (2 * k + 1) (omega arith) ∙ of_bits (b.zeros k l));
  })

-- ---- good lines, then faulty

module _ (c : List ℕ) (n : ℕ) {m : ℕ} (fs ps : List ℕ) (some : 1 ≤ m) (records : Records m 256 (length ps)) where
  goods : List ℕ
  goods = line_words (λ i. good_of c (last_lane m ps i) n) n

  faulties : List ℕ
  faulties = line_words (λ i. faulty_of (last_fault fs) c (last_lane m ps i) n) n

  work_is : lane_work c n m fs ps ≡ goods ++ faulties
  unfolding lane_work_under goods faulties
  work_is =
      ap (λ (p : ℕ → List ℕ). line_words (λ i. good_of c (p i) n) n ++ line_words (λ i. faulty_of (last_fault fs) c (p i) n) n)
      (fun_ext (last_lane_lem ps some records))

  pub left_words : LeftWords c n m fs ps (lane_work c n m fs ps)
  unfolding goods faulties
  left_words =
      let first : length goods ≡ 2 * n = words_long (λ i. good_of c (last_lane m ps i) n) n in
      let second : length faulties ≡ 2 * n = words_long (λ i. faulty_of (last_fault fs) c (last_lane m ps i) n) n in
      rw work_is
      (record {
        long = simp length-append (omega arith);
        good = words_bits _ n 0 (goods ++ faulties) (take_at goods faulties (2 * n) first);
        faulty = words_bits _ n (2 * n) (goods ++ faulties) (ap (take (2 * n)) (drop_at goods faulties (2 * n) first) ∙ take_all (2 * n) faulties (omega arith));
      })

  pub words_left : {w : List ℕ} → LeftWords c n m fs ps w → w ≡ lane_work c n m fs ps
  unfolding goods faulties
  words_left {w} b =
      let first : take (2 * n) w ≡ goods = bits_words _ n 0 w (λ i. grow-length (line_value unforced c (last_lane m ps i)) n) (omega (arith, b.long)) b.good in
      let second : take (2 * n) (drop (2 * n) w) ≡ faulties =
      bits_words _ n (2 * n) w (λ i. grow-length (line_value (stuck_at (last_fault fs)) c (last_lane m ps i)) n) (omega (arith, b.long)) b.faulty in
      sym (take-append-drop (2 * n) w)
      ∙ ap₂ ◌++◌ first (sym (take_all (2 * n) (drop (2 * n) w) (simp length-drop (omega (arith, b.long)))) ∙ second)
      ∙ sym work_is
