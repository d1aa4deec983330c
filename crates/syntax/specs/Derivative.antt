-- The derivative of a grammar, what may follow a first symbol: by it the tests of refusal 14 are computed.
-- Assumes nothing.
use Rattle.std.specs.Prelude.{Bool, true, false, ◌&&◌, ◌||◌, List, [], ◌∷◌, ℕ}
use Rattle.ground.specs.Choose.{choose}
use Rattle.syntax.specs.Regular.{Re, none, eps, one, seq, alt, star, has}

unfoldable pub cat : Re → Re → Re
cat none s = none
cat eps s = s
cat (one l) s = seq (one l) s
cat (seq a b) s = seq (seq a b) s
cat (alt a b) s = seq (alt a b) s
cat (star a) s = seq (star a) s

-- r is not none
unfoldable pub besides : Re → Re → Re
besides r none = r
besides r eps = alt r eps
besides r (one l) = alt r (one l)
besides r (seq a b) = alt r (seq a b)
besides r (alt a b) = alt r (alt a b)
besides r (star a) = alt r (star a)

unfoldable pub either : Re → Re → Re
either none s = s
either eps s = besides eps s
either (one l) s = besides (one l) s
either (seq a b) s = besides (seq a b) s
either (alt a b) s = besides (alt a b) s
either (star a) s = besides (star a) s

-- the grammar has the empty text
unfoldable pub empty : Re → Bool
empty none = false
empty eps = true
empty (one s) = false
empty (seq r s) = empty r && empty s
empty (alt r s) = empty r || empty s
empty (star r) = true

unfoldable pub next : Re → ℕ → Re
next none c = none
next eps c = none
next (one s) c = choose (has s c) eps none
next (seq r s) c = either (cat (next r c) s) (choose (empty r) (next s c) none)
next (alt r s) c = either (next r c) (next s c)
next (star r) c = cat (next r c) (star r)

unfoldable pub after : Re → List ℕ → Re
after r [] = r
after r (c ∷ u) = after (next r c) u

-- the grammar has some text
unfoldable pub live : Re → Bool
live none = false
live eps = true
live (one []) = false
live (one (x ∷ l)) = true
live (seq r s) = live r && live s
live (alt r s) = live r || live s
live (star r) = true
