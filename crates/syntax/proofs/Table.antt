-- What the reader's tables say of each byte, and of each state at each symbol.
-- Assumes nothing.
use mathlib.Core.Path.{◌≡◌, refl, sym, ap, ◌∙◌}
use mathlib.Core.List.{List, [], ◌∷◌}
use mathlib.Core.Bool.{Bool, true, ◌&&◌}
use Prim.Native.Nat.{ℕ, zero, suc, ◌+◌, ◌-◌, ◌*◌, ◌≤◌, ◌<◌}
use native.Mathlib.Nat.{not-suc-le-zero, le_of_suc-le-suc}
use native.Mathlib.Omega.{arith}
use lib.Dec.{T, eqb, ltb, eqb→eq, ltb→lt}
use lib.ListN.{length, get_or, get_or-map, get_or-append}
use lib.Seq.{get_or-append-add}
use borrow.Author.Tests.{leb-true, ltb-true, lt-ltb}
use Rattle.ground.specs.Choose.{one}
use Rattle.ground.specs.Below.{all_below}
use Rattle.ground.specs.Lists.{grow, table}
use Rattle.ground.proofs.Tests.{both, one_same}
use Rattle.ground.proofs.Below.{at_below}
use Rattle.ground.proofs.Map.{map_at}
use Rattle.ground.proofs.Grow.{table-length, table_at}
use Rattle.words.specs.Words.{within, word_byte}
use Rattle.syntax.specs.Regular.{Re, none, has}
use Rattle.syntax.specs.Derivative.{cat, besides, either, empty, next, after, live}
use Rattle.syntax.specs.Kinds.{input_word, output_word, kinds, kind_words}
use Rattle.syntax.specs.Grammar.{signs, place_in, symbol, letters, keys, word_symbol, up_to, blanks, name, mark, close, one_argument, two_arguments, gate, statement, comment, line, bench}
use Rattle.syntax.specs.Owed.{SymbolTable, then, in_name, in_keyword, in_kind, states, state_of, cell_says, row, rows, StateTable}

-- ---- symbols

pub symbol_at : (t : List ℕ) → SymbolTable t → (b : ℕ) → b < 256 → get_or t b 0 ≡ 97 + symbol b
unfolding SymbolTable
symbol_at t e b h = ap (λ (l : List ℕ). get_or l b 0) e ∙ table_at (λ k. 97 + symbol k) 256 0 b h

pub symbol_small : (b : ℕ) → b < 256 → symbol b < 21
unfolding symbol has signs within word_byte place_in
symbol_small b h = ltb→lt (symbol b) 21 (at_below 256 (λ k. ltb (symbol k) 21) tt b h)

-- ---- states

count : length states ≡ 79
unfolding states in_name input_word output_word in_keyword in_kind
count = refl

row-length : (r : Re) → length (row r) ≡ 23
unfolding row grow
row-length r = refl

row_at : (r : Re) (c : ℕ) (d : Bool × Re) → c < 21 → get_or (row r) (2 + c) d ≡ (true, next r c)
unfolding row
row_at r c d h =
    let e : 2 + c ≡ suc (suc c) = omega arith in
    rw e
    (map_at (λ k. (true, next r k)) (table (λ k. k) 21) c d 0 (rw (table-length (λ k. k) 21) h)
    ∙ ap (λ (k : ℕ). (true, next r k)) (table_at (λ k. k) 21 0 c h))

rows_at : (s : List Re) (q c : ℕ) (d : Bool × Re) → q < length s → c < 21 → get_or (rows s) (23 * q + 2 + c) d ≡ (true, next (get_or s q none) c)
unfolding rows
rows_at [] q c d h g = absurd (not-suc-le-zero h)
rows_at (r ∷ s) zero c d h g =
    let e : 23 * 0 + 2 + c ≡ 2 + c = omega arith in
    rw e (get_or-append (row r) (rows s) d (2 + c) (omega (arith, row-length r)) ∙ row_at r c d g)
rows_at (r ∷ s) (suc q) c d h g =
    let e : 23 * suc q + 2 + c ≡ length (row r) + (23 * q + 2 + c) = omega (arith, row-length r) in
    rw e (get_or-append-add (row r) (rows s) (23 * q + 2 + c) d ∙ rows_at s q c d (le_of_suc-le-suc h) g)

-- x, as a character from . on, is the state that follows state q at the symbol c
pub record Character (q c x : ℕ) : Type 0 where
  pub low : 46 ≤ x
  pub high : x < 125
  pub state : state_of (x - 46) ≡ next (state_of q) c

follows : (q c x : ℕ) → cell_says states x ≡ (true, next (state_of q) c) → Character q c x
unfolding cell_says state_of
follows q c x e =
    let b = both _ _ (ap (λ (y : Bool × Re). y.0) e) in
    record { low = leb-true 46 x b.0; high = ltb-true x 125 b.1; state = ap (λ (y : Bool × Re). y.1) e }

pub state_at : (t : List ℕ) → StateTable t → (q c : ℕ) → q < 79 → c < 21 → Character q c (get_or t (23 * q + 2 + c) 0)
unfolding StateTable state_of
state_at t e q c h g =
    let k = 23 * q + 2 + c in
    follows q c (get_or t k 0)
    (sym (get_or-map (cell_says states) t k 0)
    ∙ ap (λ (l : List (Bool × Re)). get_or l k (cell_says states 0)) e
    ∙ rows_at states q c (cell_says states 0) (rw count h) g)

-- two tests that agree at each number below n, which antt computes
agree : (n : ℕ) (s t : ℕ → Bool) → T (all_below n (λ k. eqb (one (s k)) (one (t k)))) → (k : ℕ) → k < n → s k ≡ t k
agree n s t h k l = one_same (s k) (t k) (eqb→eq (one (s k)) (one (t k)) (at_below n (λ i. eqb (one (s i)) (one (t i))) h k l))

-- a state goes on unless it is 0, and a text may end in 1, 2 and 3
tests : (q : ℕ) → q < 79 → (live (state_of q) ≡ ltb 0 q) × (empty (state_of q) ≡ (ltb 0 q && ltb q 4))
unfolding live state_of states then in_name after in_keyword in_kind has cat besides either empty next
    signs within word_byte place_in symbol letters keys input_word output_word kinds kind_words word_symbol up_to blanks name mark close one_argument two_arguments gate statement comment line bench
tests q h = (agree 79 (λ k. live (state_of k)) (λ k. ltb 0 k) tt q h, agree 79 (λ k. empty (state_of k)) (λ k. ltb 0 k && ltb k 4) tt q h)

pub live_state : (q : ℕ) → q < 79 → live (state_of q) ≡ ltb 0 q
live_state q h = (tests q h).0

pub end_state : (q : ℕ) → 0 < q → q < 79 → empty (state_of q) ≡ ltb q 4
end_state q l h = (tests q h).1 ∙ ap (λ (b : Bool). b && ltb q 4) (lt-ltb 0 q l)

pub start_state : state_of 1 ≡ bench
unfolding state_of states
start_state = refl
