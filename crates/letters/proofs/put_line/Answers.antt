-- `letters::put_line` meets its contract: number, space, mark, space, letters and the end, one behind the other.
-- Assumes nothing.
use lib.ListN.{length-map}
use native.Mathlib.Omega.{arith}
use Rattle.letters.specs.Text.{letter_of}
use Rattle.decimals.proofs.Digits.{digits_short}
use Rattle.letters.proofs.Pieces.{line_put}
use Rattle.ground.proofs.Put.{put_long}
use Rattle.letters.proofs.put_line.Goals as goal

pub put_three-letters-requires : goal.put_three-letters-requires
put_three-letters-requires c =
    let p = c.put_decimal-number.ensures in
    omega (arith, p.next_is, put_long p, digits_short 20 c.args.p)

pub put_letters-end-requires : goal.put_letters-end-requires
put_letters-end-requires c =
    let p = c.put_decimal-number.ensures in
    let q = c.put_three-letters.ensures in
    omega (arith, p.next_is, q.next_is, put_long p, put_long q, digits_short 20 c.args.p)

pub put_byte-requires : goal.put_byte-requires
put_byte-requires c =
    let p = c.put_decimal-number.ensures in
    let q = c.put_three-letters.ensures in
    let r = c.put_letters-end.ensures in
    let a = c.args in
    omega (
      arith,
      p.next_is,
      q.next_is,
      r.next_is,
      length-map a.row.now letter_of,
      put_long p,
      put_long q,
      put_long r,
      digits_short 20 a.p,
    )

pub returns : goal.returns
returns c =
    let a = c.args in
    line_put a.p a.mark a.row.now c.mark_letter-kept.ensures c.put_decimal-number.ensures c.put_three-letters.ensures
    c.put_letters-end.ensures c.put_byte.ensures
