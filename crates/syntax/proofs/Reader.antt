-- The loop of `check_text`, as facts about the text: where it starts, a byte more, and each way in which it ends.
-- Assumes nothing.
use mathlib.Core.Path.{◌≡◌, sym, ap, ◌∙◌}
use mathlib.Core.Bool.{false, ◌&&◌}
use mathlib.Core.List.{List, [], ◌∷◌, map-append}
use Prim.Native.Nat.{ℕ, suc, ◌+◌, ◌≤◌, ◌<◌}
use native.Mathlib.Numerals.{add-one}
use native.Mathlib.Omega.{arith}
use lib.Dec.{ltb}
use lib.ListN.{length, get_or, take}
use lib.Seq.{take-suc, take_all}
use borrow.Author.Tests.{lt-ltb, le-ltb}
use Rattle.ground.proofs.First.{Every, every_none, every_next, stopped, passed}
use Rattle.answers.specs.Rules.{said, refusal}
use Rattle.syntax.specs.Regular.{Re}
use Rattle.syntax.specs.Derivative.{empty, next, after}
use Rattle.syntax.specs.Grammar.{symbol, symbols, bench}
use Rattle.syntax.specs.Owed.{state_of}
use Rattle.syntax.specs.Syntax.{formed, goes_on, syntax_rules}
use Rattle.syntax.proofs.Derivative.{after_snoc}
use Rattle.syntax.proofs.Table.{live_state, end_state, start_state}
use Rattle.std.specs.Prelude.{Ok, Err}
use Rattle.answers.specs.declared.Reason.TheVariants.{BenchSyntax}

-- the first i bytes go on, and q is the state after them
pub record SoFar (t : List ℕ) (i q : ℕ) : Type 0 where
  pub at_most : i ≤ length t
  pub room : i ≤ 32768
  pub go_on : Every (goes_on t) 0 i
  pub small : q < 79
  pub alive : 0 < q
  pub is : state_of q ≡ after bench (symbols (take i t))

pub start : (t : List ℕ) → SoFar t 0 1
unfolding after
start t = record {
  at_most = omega arith;
  room = omega arith;
  go_on = every_none (goes_on t);
  small = omega arith;
  alive = omega arith;
  is = start_state;
}

module _ {t : List ℕ} {i q : ℕ} (s : SoFar t i q) where
  -- ---- a byte

  module _ (h : i < length t) where
    bad_byte_lem : goes_on t i ≡ false → Err (BenchSyntax, i) ≡ refusal (syntax_rules t)
    unfolding syntax_rules refusal said
    bad_byte_lem e = rw (← stopped h s.go_on e, lt-ltb i (length t) h)

    pub full : i ≡ 32768 → Err (BenchSyntax, i) ≡ refusal (syntax_rules t)
    unfolding goes_on
    full e = bad_byte_lem (rw (le-ltb i 32768 (omega arith)))

    module _ {n : ℕ} (e : state_of n ≡ next (state_of q) (symbol (get_or t i 0))) (l : n < 79) where
      -- n is the state after the byte
      then : state_of n ≡ after bench (symbols (take (suc i) t))
      then =
          e
          ∙ ap (λ (x : Re). next x (symbol (get_or t i 0))) s.is
          ∙ sym (after_snoc (symbols (take i t)) bench (symbol (get_or t i 0)))
          ∙ ap (after bench) (sym (map-append symbol (take i t) (get_or t i 0 ∷ [])))
          ∙ ap (λ (u : List ℕ). after bench (symbols u)) (sym (take-suc t i 0 h))

      on : goes_on t i ≡ (ltb i 32768 && ltb 0 n)
      unfolding goes_on
      on = rw (← then, live_state n l)

      pub stops : i < 32768 → n ≡ 0 → Err (BenchSyntax, i) ≡ refusal (syntax_rules t)
      stops m z = bad_byte_lem (on ∙ rw (lt-ltb i 32768 m, z))

      pub more : i < 32768 → 0 < n → SoFar t (i + 1) n
      more m a = record {
        at_most = omega arith;
        room = omega arith;
        go_on = every_next s.go_on (on ∙ rw (lt-ltb i 32768 m, lt-ltb 0 n a));
        small = l;
        alive = a;
        is = rw add-one then;
      }

  -- ---- the end

  module _ (h : length t ≤ i) where
    at_end : formed t ≡ ltb q 4
    unfolding formed
    at_end = ap (λ (u : List ℕ). empty (after bench (symbols u))) (sym (take_all i t h)) ∙ ap empty (sym s.is) ∙ end_state q s.alive s.small

    pub ended : q < 4 → Ok tt ≡ refusal (syntax_rules t)
    unfolding syntax_rules refusal said
    ended l = rw (← passed h s.go_on, le-ltb (length t) (length t) (omega arith), at_end, lt-ltb q 4 l)

    pub early : 4 ≤ q → Err (BenchSyntax, length t) ≡ refusal (syntax_rules t)
    unfolding syntax_rules refusal said
    early l = rw (← passed h s.go_on, le-ltb (length t) (length t) (omega arith), at_end, le-ltb q 4 l)
