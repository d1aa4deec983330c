-- The loops of `enter` and `look_up`: what is so far in the table or written, and the lowest byte so far of a wrong name.
-- Assumes nothing.
use mathlib.Core.Path.{◌≡◌, refl, sym, ap, ◌∙◌}
use mathlib.Core.Bool.{Bool, true, false, not, not-not}
use mathlib.Core.List.{List}
use Prim.Native.Nat.{ℕ, zero, suc, ◌+◌, ◌-◌, ◌≤◌, ◌<◌, min}
use native.Mathlib.Omega.{arith}
use lib.Dec.{eqb}
use borrow.Author.Tests.{ne_eqb}
use Rattle.std.specs.Prelude.{Option, is_some, unwrap_or}
use lib.ListN.{length, get_or, set}
use Rattle.ground.specs.Choose.{choose}
use Rattle.words.specs.Words.{word_at}
use Rattle.names.specs.Names.{definition, name_number}
use Rattle.names.specs.Owed.{linked, Table, lowest, again, undefined, EnterReady, EnterDone, LookUpReady, LookUpDone}
use Rattle.names.proofs.Entry.{empty}
use Rattle.names.proofs.Lowest.{lowest_most, lowest-more, lowest_none}
use Rattle.names.proofs.Mapped.{Mapped, mapped_none, mapped_more, mapped_all}

-- where there is a link, it is not 0
is_linked : (d : ℕ) → is_some (linked d) ≡ not (eqb d 0)
is_linked zero = refl
is_linked (suc d) = rw (ne_eqb (suc d) 0 (omega arith))

-- ---- the definitions join the table

pub record Entering (t defs head next : List ℕ) (low n : ℕ) : Type 0 where
  pub table : Table t defs head next n
  pub place : low ≡ lowest (again t defs) defs n

pub enter_none : {t defs head next : List ℕ} → EnterReady t defs head next → Entering t defs head next 65535 0
enter_none {t} {defs} e = record { table = empty e; place = sym (lowest_none (again t defs) defs) }

module _ {t defs head next : List ℕ} {low n : ℕ} (s : Entering t defs head next low n) where
  pub enter_more : {head' next' : List ℕ} → Table t defs head' next' (n + 1)
      → {at low' : ℕ} {found : Option ℕ} {r b : Bool} → at ≡ get_or defs n 0 → found ≡ linked (definition t defs n (word_at t at)) → r ≡ is_some found → r ≡ b → low' ≡ choose b (min at low) low
      → Entering t defs head' next' low' (n + 1)
  enter_more T p q i j r = record {
    table = T;
    place = cc (r, j, i, p, q, s.place, is_linked (definition t defs n (word_at t (get_or defs n 0))), lowest-more (again t defs) defs n);
  }

  pub enter_all : length defs ≤ n → EnterDone t defs head next low
  enter_all l =
      let e : n ≡ length defs = omega (arith, s.table.known) in
      record { table = rw (← e) s.table; place = s.place ∙ ap (lowest (again t defs) defs) e }

-- ---- names are looked up

pub record Looking (t defs numbers names out : List ℕ) (low r u : ℕ) : Type 0 where
  pub numbers_are : Mapped (name_number t defs numbers) names out u
  pub place : r ≡ min low (lowest (undefined t defs names) names u)

pub look_none : (numbers : List ℕ) {t defs head next names out : List ℕ} {low : ℕ} → LookUpReady t defs head next names out low → Looking t defs numbers names out low low 0
look_none numbers {t} {defs} {head} {next} {names} a = record {
  numbers_are = mapped_none (name_number t defs numbers) a.room;
  place = omega (arith, lowest_none (undefined t defs names) names, a.so_far);
}

-- of a link that is 0 the first definition is taken, as of 1
first_of : (d : ℕ) → unwrap_or (linked d) 0 ≡ d - 1
first_of zero = refl
first_of (suc d) = omega arith

-- what is lower than both may be looked for in either order
min_choose : (b : Bool) (at low r : ℕ) → choose b (min at (min low r)) (min low r) ≡ min low (choose b (min at r) r)
min_choose true at low r = omega arith
min_choose false at low r = refl

module _ {t defs numbers names out : List ℕ} {low r u : ℕ} (s : Looking t defs numbers names out low r u) where
  pub look-more : u < length names
      → {at x r' : ℕ} {found : Option ℕ} {i b : Bool}
      → at ≡ get_or names u 0
      → found ≡ linked (definition t defs (length defs) (word_at t at))
      → x ≡ get_or numbers (unwrap_or found 0) 0
      → is_some found ≡ not i
      → i ≡ b
      → r' ≡ choose b (min at r) r
      → Looking t defs numbers names (set out u x) low r' (u + 1)
  unfolding name_number
  look-more l {at} {x} {b = b} p q e i j f =
      let d = definition t defs (length defs) (word_at t (get_or names u 0)) in
      let found-is = q ∙ ap (λ (i : ℕ). linked (definition t defs (length defs) (word_at t i))) p in
      let none : b ≡ undefined t defs names u = sym (not-not b) ∙ ap not (sym (ap not j) ∙ sym i ∙ ap is_some found-is ∙ is_linked d) ∙ not-not (eqb d 0) in
      record {
        numbers_are = mapped_more s.numbers_are l x (e ∙ ap (λ (o : Option ℕ). get_or numbers (unwrap_or o 0) 0) found-is ∙ ap (λ (k : ℕ). get_or numbers k 0) (first_of d));
        place =
            cc
            (f, p, none, s.place, lowest-more (undefined t defs names) names u, min_choose b at low (lowest (undefined t defs names) names u));
      }

  pub look-all : length names ≤ u → LookUpDone t defs numbers names out low r
  look-all l =
      let e : u ≡ length names = omega (arith, s.numbers_are.at_most) in
      record {
        numbers_are = mapped_all s.numbers_are l;
        place = s.place ∙ ap (λ (n : ℕ). min low (lowest (undefined t defs names) names n)) e;
      }

-- ---- nothing is above 65,535

pub entered_most : {t defs head next : List ℕ} {r : ℕ} → EnterDone t defs head next r → r ≤ 65535
entered_most {t} {defs} e = omega (arith, e.place, lowest_most (again t defs) defs (length defs))

pub looked_most : {t defs numbers names out : List ℕ} {low r : ℕ} → LookUpDone t defs numbers names out low r → r ≤ low
looked_most s = omega (arith, s.place)
