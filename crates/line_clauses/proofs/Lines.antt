-- The clauses of one line, as the one gate that the code writes for it.
-- Assumes nothing.
use mathlib.Core.Path.{◌≡◌, refl, sym, ap, ◌∙◌}
use mathlib.Core.Bool.{Bool, true, false}
use mathlib.Core.List.{List, []}
use Prim.Native.Nat.{ℕ, ◌+◌, ◌*◌, ◌≤◌, ◌<◌}
use native.Mathlib.Omega.{arith}
use lib.IntN.{ℤ}
use lib.ListN.{length}
use borrow.Author.Tests.{eq-eqb, ne_eqb}
use Rattle.gates.specs.Gate.{last_kind, selector}
use Rattle.circuit.specs.Record.{kind_at, out_at, pin_at, outputs_before}
use Rattle.lists.specs.declared.Fault.{Fault}
use Rattle.cnf.specs.Cnf.{Clauses, words_of}
use Rattle.cnf.specs.Table.{gate_clauses, sites}
use Rattle.ground.specs.Put.{Put}
use Rattle.cnf.specs.Owed.{Variable, GateClausesReady}
use Rattle.ground.proofs.Put.{put_as}
use Rattle.cnf.proofs.Gate.{at_sites, gate-sites, no_clauses}
use Rattle.lists.specs.Faults.{is_at}
use Rattle.line_clauses.specs.Clauses.{good_var, faulty_site, buffer_clauses, good_clauses, faulty_clauses, xor_clauses, difference_clauses}
use Rattle.line_clauses.specs.Owed.{LineReady, GateReady}

-- ---- what is known of a line

module _ {c : List ℕ} {n k : ℕ} (l : LineReady c n k) where
  pub kind_last : kind_at c k ≤ last_kind
  kind_last = l.circuit.good.well.kinds k (omega (arith, l.circuit.lines, l.inside))

  pub inside : 8 * k + 8 ≤ length c
  inside = omega (arith, l.circuit.lines, l.inside, l.circuit.good.well.size)

pub gate-line : {c : List ℕ} {n k : ℕ} → LineReady c n k → (kind_at c k ≡ 0 → ⊥) → GateReady c n k
gate-line l ne = record { line = l; gate = ne }

pub lower : {c : List ℕ} {n k : ℕ} → GateReady c n k → (s : ℕ) → 1 ≤ s → s ≤ 3 → pin_at c k s < k
lower {c} {n} {k} g = g.line.circuit.good.well.lower k (omega (arith, g.line.circuit.lines, g.line.inside)) g.gate

pub variable : {v : ℕ} → v ≤ 8192 → Variable v
variable h = record { fits = omega arith }

-- ---- what a pin of a faulty line reads

module _ (c : List ℕ) (f : Fault) (n k s : ℕ) {t : Bool} (e : t ≡ is_at f k s) where
  pub pin-stuck : t ≡ true → 2 * n + 1 ≡ faulty_site c f n k s
  unfolding faulty_site
  pin-stuck q = rw (sym e ∙ q)

  pub pin_source : {a s' : ℕ} → t ≡ false → 1 ≤ s → s' ≡ s → a ≡ pin_at c k s' → 2 * a + 2 ≡ faulty_site c f n k s
  unfolding faulty_site
  pin_source q l p r = rw (sym e ∙ q, ne_eqb s 0 (omega arith), r, p)

-- ---- a line as a gate; what stands at the third pin counts for a selector alone

module _ (c : List ℕ) (k : ℕ) where
  pub good_none : kind_at c k ≡ 0 → good_clauses c k ≡ []
  unfolding good_clauses
  good_none e = no_clauses (kind_at c k) _ e

  pub good-gate : {a b s : ℕ} → kind_at c k ≤ last_kind → a ≡ pin_at c k 1 → b ≡ pin_at c k 2 → (kind_at c k ≡ selector → s ≡ pin_at c k 3)
      → good_clauses c k ≡ gate_clauses (kind_at c k) (sites (2 * k + 1) (2 * a + 1) (2 * b + 1) (2 * s + 1))
  unfolding good_clauses
  good-gate last p q r = gate-sites (kind_at c k) _ _ last (at_sites _ _ refl (ap good_var (sym p)) (ap good_var (sym q)) (λ e. ap good_var (sym (r e))))

  module _ (f : Fault) (n : ℕ) {t : Bool} (e : t ≡ is_at f k 0) where
    pub faulty-stuck : t ≡ true → faulty_clauses c f n k ≡ buffer_clauses (2 * k + 2) (2 * n + 1)
    unfolding faulty_clauses
    faulty-stuck q = rw (sym e ∙ q)

    pub faulty-input : t ≡ false → kind_at c k ≡ 0 → faulty_clauses c f n k ≡ buffer_clauses (2 * k + 2) (2 * k + 1)
    unfolding faulty_clauses
    faulty-input q z = rw (sym e ∙ q, eq-eqb (kind_at c k) 0 z)

    pub faulty-gate : {a b s : ℕ} → t ≡ false → (kind_at c k ≡ 0 → ⊥) → kind_at c k ≤ last_kind
        → a ≡ faulty_site c f n k 1
        → b ≡ faulty_site c f n k 2
        → (kind_at c k ≡ selector → s ≡ faulty_site c f n k 3)
        → faulty_clauses c f n k ≡ gate_clauses (kind_at c k) (sites (2 * k + 2) a b s)
    unfolding faulty_clauses faulty_site
    faulty-gate q ne last p r o =
        rw (sym e ∙ q, ne_eqb (kind_at c k) 0 ne) (gate-sites (kind_at c k) _ _ last (at_sites _ _ (rw (sym e ∙ q)) (sym p) (sym r) (λ z. sym (o z))))

  module _ (n : ℕ) where
    pub difference_none : (out_at c k ≡ 1 → ⊥) → difference_clauses c n k ≡ []
    unfolding difference_clauses
    difference_none ne = rw (ne_eqb (out_at c k) 1 ne)

    pub difference_gate : {j : ℕ} → out_at c k ≡ 1 → j ≡ outputs_before c k
        → difference_clauses c n k ≡ xor_clauses (2 * n + 2 + j) (2 * k + 1) (2 * k + 2)
    unfolding difference_clauses
    difference_gate o e = rw (eq-eqb (out_at c k) 1 o, e)

-- so that gate has room, and its words are the line's

pub gate_room : {cs : Clauses} (kind y a b s : ℕ) → cs ≡ gate_clauses kind (sites y a b s) → {w : List ℤ} {at : ℕ}
    → at + length (words_of cs) ≤ length w
    → y ≤ 8192
    → a ≤ 8192
    → b ≤ 8192
    → s ≤ 8192
    → GateClausesReady w at kind y a b s
gate_room kind y a b s e r own first second third = record {
  own = variable own;
  first = variable first;
  second = variable second;
  third = variable third;
  room = rw e at r;
}

pub put_line : {cs u : Clauses} → cs ≡ u → {w w' : List ℤ} {at next : ℕ} → Put w w' at (words_of u) next → Put w w' at (words_of cs) next
put_line e p = put_as (ap words_of (sym e)) p
