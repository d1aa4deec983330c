-- For every accepted input the two engines make the same table; and they accept and refuse alike.
-- Assumes nothing.
use mathlib.Core.Path.{◌≡◌, refl, sym, ◌∙◌}
use mathlib.Core.List.{List}
use Prim.Native.Nat.{ℕ, ◌*◌}
use lib.ListN.{length}
use Rattle.answers.specs.Rules.{Ruling}
use Rattle.circuit.specs.Record.{lines_of}
use Rattle.dictionary.specs.Promise.{Dictionary}
use Rattle.dictionary.proofs.Checked.{alike}
use Rattle.dictionary.proofs.Says.{made_so}
use Rattle.dictionary_lanes.specs.Promise.{DictionaryLanes}
use Rattle.std.specs.Prelude.{Ok}

-- whatever was lent
pub same-table : {c fs ps t w t' w' u v u' v' : List ℕ} → Dictionary c fs ps t w (Ok tt) t' w' → DictionaryLanes c fs ps u v (Ok tt) u' v' → t' ≡ u'
same-table d e = (made_so d).0 ∙ sym (made_so e).0

-- with work memory of its size each, and tables as long, the answer is the same: both accept, or refuse with one number and place
pub same_ruling : {c fs ps t w u v : List ℕ} {r q : Ruling} {t' w' u' v' : List ℕ}
    → length t ≡ length u
    → length w ≡ 2 * lines_of c
    → length v ≡ 4 * lines_of c
    → Dictionary c fs ps t w r t' w'
    → DictionaryLanes c fs ps u v q u' v'
    → r ≡ q
same_ruling {c} {fs} {ps} long first second d e = d.answer ∙ alike 2 4 c fs ps long first second ∙ sym e.answer

-- and what is lent as a table comes back the same
pub same_results : {c fs ps t w v : List ℕ} {r q : Ruling} {t' w' u' v' : List ℕ}
    → length w ≡ 2 * lines_of c
    → length v ≡ 4 * lines_of c
    → Dictionary c fs ps t w r t' w'
    → DictionaryLanes c fs ps t v q u' v'
    → (r ≡ q) × (t' ≡ u')
same_results {c} {fs} {ps} first second d e =
    (same_ruling refl first second d e, d.table ∙ rw (alike 2 4 c fs ps refl first second) (sym e.table))
