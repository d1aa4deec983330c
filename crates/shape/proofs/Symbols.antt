-- From a byte's symbol back to the byte: what the grammar says of symbols holds of bytes.
-- Assumes nothing.
use mathlib.Core.Path.{◌≡◌, refl, ap, ◌∙◌, subst}
use mathlib.Core.Bool.{Bool, true, false, not, ◌&&◌, ◌||◌, false≢true}
use mathlib.Core.List.{List, [], ◌∷◌}
use Prim.Native.Nat.{ℕ, suc, ◌+◌, ◌-◌, ◌≤◌, ◌<◌}
use native.Mathlib.Decide.{ℕ_discrete}
use native.Mathlib.Omega.{arith}
use lib.Dec.{T, eqb, ltb, leb, eqb→eq, ltb→lt, leb→le}
use lib.ListN.{length, get_or}
use mir.Facts.{and_yes}
use borrow.Author.Tests.{ne_eqb, eqb-true}
use Rattle.ground.specs.Choose.{choose}
use Rattle.ground.proofs.Tests.{T-is}
use Rattle.ground.proofs.Below.{at_below}
use Rattle.words.specs.Words.{within, word_byte}
use Rattle.syntax.specs.Regular.{has}
use Rattle.syntax.specs.Grammar.{signs, place_in, symbol}

-- ---- what a byte is, by its symbol

-- a byte that is no sign of the list has the symbol m, one that is has the place's
data Placed (l : List ℕ) (x n m : ℕ) : ℕ → Type 0 where
  absent : Placed l x n m m
  found : (j : ℕ) → j < length l → x ≡ get_or l j 0 → Placed l x n m (n + j)

place : (l : List ℕ) (x n m : ℕ) → Placed l x n m (place_in l x n m)
unfolding place_in
place [] x n m = absent
place (y ∷ l) x n m = go (eqb x y) refl (place l x (suc n) m)
  where
    later : {k : ℕ} → Placed l x (suc n) m k → Placed (y ∷ l) x n m k
    later absent = absent
    later (found j h e) = let z : n + suc j ≡ suc n + j = omega arith in subst (Placed (y ∷ l) x n m) z (found (suc j) (omega arith) e)

    go : (b : Bool) → eqb x y ≡ b → Placed l x (suc n) m (place_in l x (suc n) m) → Placed (y ∷ l) x n m (choose b n (place_in l x (suc n) m))
    go true e p = let z : n + 0 ≡ n = omega arith in subst (Placed (y ∷ l) x n m) z (found 0 (omega arith) (eqb-true x y e))
    go false e p = later p

abbrev blank_bytes : List ℕ
blank_bytes = 32 ∷ 9 ∷ 13 ∷ []

data Byte (b : ℕ) : ℕ → Type 0 where
  space : has blank_bytes b ≡ true → Byte b 0
  sign : (j : ℕ) → j < 18 → b ≡ get_or signs j 0 → Byte b (1 + j)
  other : word_byte b ≡ true → Byte b 19
  bad : Byte b 20

byte : (b : ℕ) → Byte b (symbol b)
unfolding symbol signs
byte b = go (has blank_bytes b) refl (place signs b 1 (choose (word_byte b) 19 20))
  where
    from : (t : Bool) → word_byte b ≡ t → {k : ℕ} → Placed signs b 1 (choose t 19 20) k → Byte b k
    from true e absent = other e
    from false e absent = bad
    from true e (found j h q) = sign j h q
    from false e (found j h q) = sign j h q

    go : (s : Bool) → has blank_bytes b ≡ s → Placed signs b 1 (choose (word_byte b) 19 20) (place_in signs b 1 (choose (word_byte b) 19 20))
        → Byte b (choose s 0 (place_in signs b 1 (choose (word_byte b) 19 20)))
    go true e p = space e
    go false e p = from (word_byte b) refl p

-- ---- letters, digits and _

abbrev pub word_symbols : List ℕ
word_symbols = 7 ∷ 8 ∷ 9 ∷ 10 ∷ 11 ∷ 12 ∷ 13 ∷ 14 ∷ 15 ∷ 16 ∷ 17 ∷ 18 ∷ 19 ∷ []

implied : (s t : Bool) → T (not s || t) → s ≡ true → t ≡ true
implied true t h e = T-is t h
implied false t h e = absurd (false≢true e)

-- of the signs by trying each
word-sign : (j : ℕ) → j < 18 → T (not (has word_symbols (1 + j)) || word_byte (get_or signs j 0))
unfolding has signs word_byte within
word-sign = at_below 18 (λ j. not (has word_symbols (1 + j)) || word_byte (get_or signs j 0)) tt

word_from : {b k : ℕ} → Byte b k → has word_symbols k ≡ true → word_byte b ≡ true
unfolding has
word_from (space e) h = absurd (false≢true h)
word_from (sign j l q) h = ap word_byte q ∙ implied (has word_symbols (1 + j)) (word_byte (get_or signs j 0)) (word-sign j l) h
word_from (other e) h = e
word_from bad h = absurd (false≢true h)

pub word_byte_lem : (b : ℕ) → has word_symbols (symbol b) ≡ true → word_byte b ≡ true
word_byte_lem b h = word_from (byte b) h

-- ---- between words: no letter, digit or _, no # and no line feed

pub record Gap (b : ℕ) : Type 0 where
  pub off : word_byte b ≡ false
  pub no_hash : eqb b 35 ≡ false
  pub no_feed : eqb b 10 ≡ false

blank_gap : (b : ℕ) → has blank_bytes b ≡ true → Gap b
unfolding has word_byte within
blank_gap b h = go (ℕ_discrete 32 b) (ℕ_discrete 9 b) (ℕ_discrete 13 b)
  where
    go : Dec (32 ≡ b) → Dec (9 ≡ b) → Dec (13 ≡ b) → Gap b
    go (yes e) d f = rw (← e) (record { off = refl; no_hash = refl; no_feed = refl })
    go (no n) (yes e) f = rw (← e) (record { off = refl; no_hash = refl; no_feed = refl })
    go (no n) (no m) (yes e) = rw (← e) (record { off = refl; no_hash = refl; no_feed = refl })
    go (no n) (no m) (no o) = absurd (false≢true (simp (ne_eqb 32 b n, ne_eqb 9 b m, ne_eqb 13 b o) at h))

blank_from : {b k : ℕ} → Byte b k → k ≡ 0 → Gap b
blank_from {b} (space e) z = blank_gap b e
blank_from (sign j l q) z = absurd (omega arith)
blank_from (other e) z = absurd (omega arith)
blank_from bad z = absurd (omega arith)

pub blank_byte : (b : ℕ) → symbol b ≡ 0 → Gap b
blank_byte b e = blank_from (byte b) e

-- ---- signs

sign_from : {b k : ℕ} (j : ℕ) → j < 18 → Byte b k → k ≡ 1 + j → b ≡ get_or signs j 0
sign_from j l (space e) z = absurd (omega arith)
sign_from j l (sign i h q) z = q ∙ ap (λ (x : ℕ). get_or signs x 0) (omega arith)
sign_from j l (other e) z = absurd (omega arith)
sign_from j l bad z = absurd (omega arith)

-- the byte k has a symbol of its own
abbrev pub has_own : ℕ → Bool
has_own k = ltb 0 (symbol k) && (leb (symbol k) 18 && eqb (get_or signs (symbol k - 1) 0) k)

pub own_byte : (k b : ℕ) → T (has_own k) → symbol b ≡ symbol k → b ≡ k
own_byte k b t e =
    let u = and_yes (ltb 0 (symbol k)) _ t in
    let v = and_yes (leb (symbol k) 18) _ u.1 in
    let lo : 0 < symbol k = ltb→lt 0 (symbol k) u.0 in
    let hi : symbol k ≤ 18 = leb→le (symbol k) 18 v.0 in
    sign_from (symbol k - 1) (omega arith) (byte b) (e ∙ omega arith) ∙ eqb→eq (get_or signs (symbol k - 1) 0) k v.1

-- a line feed alone has symbol 1
pub no_feed_byte : (b : ℕ) → (symbol b ≡ 1 → ⊥) → eqb b 10 ≡ false
unfolding symbol has signs place_in
no_feed_byte b n = ne_eqb b 10 (λ e. n (ap symbol e))
