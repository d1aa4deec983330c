-- The setting from the highest line down: no line is set twice, so each line keeps what it gets.
-- Assumes nothing.
use mathlib.Core.Path.{◌≡◌, refl, sym, ap, ◌∙◌}
use mathlib.Core.Bool.{Bool, true, false, true≢false}
use mathlib.Core.List.{List}
use Prim.Native.Nat.{ℕ, zero, suc, ◌≤◌, ◌<◌}
use native.Mathlib.Decide.{ℕ_discrete}
use native.Mathlib.Nat.{not-suc-le-zero, le_refl}
use native.Mathlib.Omega.{arith}
use lib.ListN.{length, get_or, set, length-set}
use lib.Seq.{get_or-set_same, get_or-set_other}
use Rattle.ground.specs.Choose.{choose}
use Rattle.ground.specs.Lists.{table}
use Rattle.ground.proofs.Grow.{table-length, table_at}
use Rattle.gates.specs.Gate.{pins_of}
use Rattle.circuit.specs.Record.{kind_at, pin_at}
use Rattle.circuit.specs.Formed.{WellFormed}
use Rattle.reads.proofs.Pins.{read_once}
use Rattle.heads.specs.Heads.{bound, head}
use Rattle.heads.proofs.Pins.{pin_lower}
use Rattle.heads.proofs.Forest.{only_reader, source_no-head}
use Rattle.trees.specs.Need.{need_of}
use Rattle.trees.specs.Setting.{put_pins, set_line, set_below, head_value, set_lines, Set}

-- ---- the pins of one line

module _ (c : List ℕ) (k v : ℕ) (w : List ℕ) where
  pins_length : (s : ℕ) → length (put_pins c k v s w) ≡ length w
  unfolding put_pins
  pins_length zero = refl
  pins_length (suc s) = simp length-set (pins_length s)

  -- a line that none of them reads stays
  pins_keep : (i s : ℕ) → ((p : ℕ) → 1 ≤ p → p ≤ s → pin_at c k p ≡ i → ⊥) → get_or (put_pins c k v s w) i 0 ≡ get_or w i 0
  unfolding put_pins
  pins_keep i zero h = refl
  pins_keep i (suc s) h =
      get_or-set_other (put_pins c k v s w) (pin_at c k (suc s)) i _ 0 (λ e. h (suc s) (omega arith) (le_refl _) (sym e))
      ∙ pins_keep i s (λ p a b. h p a (omega arith))

  -- a line that one of them reads, and no other, gets what is needed there
  pins_put : (p s : ℕ)
      → 1 ≤ p
      → p ≤ s
      → pin_at c k p < length w
      → ((q : ℕ) → 1 ≤ q → q ≤ s → pin_at c k q ≡ pin_at c k p → q ≡ p)
      → get_or (put_pins c k v s w) (pin_at c k p) 0 ≡ need_of (kind_at c k) v p
  unfolding put_pins
  pins_put p zero a b l one = absurd (omega arith)
  pins_put p (suc s) a b l one = go (ℕ_discrete p (suc s)) (λ m. pins_put p s a m l (λ q x y. one q x (omega arith)))
    where
      go : Dec (p ≡ suc s)
          → (p ≤ s → get_or (put_pins c k v s w) (pin_at c k p) 0 ≡ need_of (kind_at c k) v p)
          → get_or (set (put_pins c k v s w) (pin_at c k (suc s)) (need_of (kind_at c k) v (suc s))) (pin_at c k p) 0 ≡ need_of (kind_at c k) v p
      go (yes e) ih = rw e (get_or-set_same (put_pins c k v s w) (pin_at c k (suc s)) _ 0 (rw (pins_length s, ← e) l))
      go (no d) ih =
          get_or-set_other (put_pins c k v s w) (pin_at c k (suc s)) (pin_at c k p) _ 0 (λ e. d (sym (one (suc s) (omega arith) (le_refl _) (sym e))))
          ∙ ih (omega arith)

-- ---- the lines

module _ {c : List ℕ} {m n : ℕ} (well : WellFormed c m n) where
  -- no free line below b reads line i
  abbrev Unread : ℕ → ℕ → Type 0
  Unread b i = (k p : ℕ) → k < b → bound c n k ≡ false → 1 ≤ p → p ≤ pins_of (kind_at c k) → pin_at c k p ≡ i → ⊥

  line-length : (k : ℕ) (w : List ℕ) → length (set_line c n k w) ≡ length w
  unfolding set_line
  line-length k w = go (bound c n k)
    where
      go : (t : Bool) → length (choose t w (put_pins c k (get_or w k 0) (pins_of (kind_at c k)) w)) ≡ length w
      go true = refl
      go false = pins_length c k (get_or w k 0) w (pins_of (kind_at c k))

  line_keep : (k i : ℕ) (w : List ℕ) → (bound c n k ≡ false → (p : ℕ) → 1 ≤ p → p ≤ pins_of (kind_at c k) → pin_at c k p ≡ i → ⊥) → get_or (set_line c n k w) i 0 ≡ get_or w i 0
  unfolding set_line
  line_keep k i w h = go (bound c n k) refl
    where
      go : (t : Bool) → bound c n k ≡ t → get_or (choose t w (put_pins c k (get_or w k 0) (pins_of (kind_at c k)) w)) i 0 ≡ get_or w i 0
      go true e = refl
      go false e = pins_keep c k (get_or w k 0) w i (pins_of (kind_at c k)) (h e)

  below_keep : (b i : ℕ) (w : List ℕ) → Unread b i → get_or (set_below c n b w) i 0 ≡ get_or w i 0
  unfolding set_below
  below_keep zero i w h = refl
  below_keep (suc b) i w h =
      below_keep b i (set_line c n b w) (λ k p l. h k p (omega arith))
      ∙ line_keep b i w (λ free p. h b p (le_refl _) free)

  -- a line's own value stands when its turn comes
  own_turn : (k : ℕ) (w : List ℕ) → k < n → get_or (set_below c n k (set_line c n k w)) k 0 ≡ get_or w k 0
  own_turn k w l =
      below_keep k k (set_line c n k w) (λ j p h _ a b e. omega (arith, pin_lower well j p (omega arith) a b))
      ∙ line_keep k k w (λ _ p a b e. omega (arith, pin_lower well k p l a b))

  line_sources : (k p : ℕ) (w : List ℕ) → length w ≡ n → k < n → bound c n k ≡ false → 1 ≤ p → p ≤ pins_of (kind_at c k) → get_or (set_line c n k w) (pin_at c k p) 0 ≡ need_of (kind_at c k) (get_or w k 0) p
  unfolding set_line
  line_sources k p w long l free a b =
      rw free
      (pins_put c k (get_or w k 0) w p (pins_of (kind_at c k)) a b (omega (arith, pin_lower well k p l a b))
      (λ q x y e. (only_reader well k p l a b free (record { line = l; some = x; has = y; is = e })).1))

  below_sources : (d : ℕ) (w : List ℕ)
      → d ≤ n
      → length w ≡ n
      → (k p : ℕ) → k < d → bound c n k ≡ false → 1 ≤ p → p ≤ pins_of (kind_at c k)
      → get_or (set_below c n d w) (pin_at c k p) 0 ≡ need_of (kind_at c k) (get_or (set_below c n d w) k 0) p
  unfolding set_below
  below_sources zero w h long k p l free a b = absurd (not-suc-le-zero l)
  below_sources (suc d) w h long k p l free a b = go (ℕ_discrete k d) (λ m. below_sources d (set_line c n d w) (omega arith) (line-length d w ∙ long) k p m free a b)
    where
      go : Dec (k ≡ d)
          → (k < d → get_or (set_below c n d (set_line c n d w)) (pin_at c k p) 0 ≡ need_of (kind_at c k) (get_or (set_below c n d (set_line c n d w)) k 0) p)
          → get_or (set_below c n d (set_line c n d w)) (pin_at c k p) 0 ≡ need_of (kind_at c k) (get_or (set_below c n d (set_line c n d w)) k 0) p
      go (yes e) ih =
          rw (← e)
          (below_keep k (pin_at c k p) (set_line c n k w)
          (λ j q x y u v z. omega (arith, (only_reader well k p (omega arith) a b free (record { line = omega arith; some = u; has = v; is = z })).0))
          ∙ line_sources k p w long (omega arith) free a b
          ∙ ap (λ (v : ℕ). need_of (kind_at c k) v p) (sym (own_turn k w (omega arith))))
      go (no z) ih = ih (omega arith)

  -- ---- from the start on

  module _ (s : List ℕ) where
    start_at_lem : (k : ℕ) → k < n → get_or (table (head_value c n s) n) k 0 ≡ head_value c n s k
    start_at_lem = table_at (head_value c n s) n 0

    pub set_lines_lem : Set c n s (set_lines c n s)
    unfolding set_lines head_value
    set_lines_lem = record {
      heads = λ k l e.
          below_keep n k _ (λ j p x y u v z. true≢false (sym e ∙ ap (head c n) (sym z) ∙ source_no-head well j p x u v y))
          ∙ start_at_lem k l
          ∙ rw e;
      sources = λ k p l free a b. below_sources n _ (le_refl n) (table-length (head_value c n s) n) k p l free a b;
      unread = λ k l e none.
          below_keep n k _ (λ j p x y u v z. omega (arith, read_once c n k (record { line = x; some = u; has = v; is = z })))
          ∙ start_at_lem k l
          ∙ rw e;
    }
