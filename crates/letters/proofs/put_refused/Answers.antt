-- `letters::put_refused` meets its contract: the word, the number and the place, one behind the other.
-- Assumes nothing.
use native.Mathlib.Omega.{arith}
use Rattle.letters.proofs.Pieces.{refused_put}
use Rattle.decimals.proofs.Digits.{digits_short}
use Rattle.ground.proofs.Put.{put_long}
use Rattle.letters.proofs.put_refused.Goals as goal

pub put_byte-at-requires : goal.put_byte-at-requires
put_byte-at-requires c =
    let p = c.put_refused_word.ensures in
    let q = c.put_decimal-space.ensures in
    omega (arith, put_long p, put_long q, q.next_is, digits_short 20 c.args.number)

pub put_decimal-end-requires : goal.put_decimal-end-requires
put_decimal-end-requires c =
    let p = c.put_refused_word.ensures in
    let q = c.put_decimal-space.ensures in
    let r = c.put_byte-at.ensures in
    omega (arith, put_long p, put_long q, put_long r, q.next_is, r.next_is, digits_short 20 c.args.number)

pub put_byte-requires : goal.put_byte-requires
put_byte-requires c =
    let p = c.put_refused_word.ensures in
    let q = c.put_decimal-space.ensures in
    let r = c.put_byte-at.ensures in
    let s = c.put_decimal-end.ensures in
    let a = c.args in
    omega (
      arith,
      put_long p,
      put_long q,
      put_long r,
      put_long s,
      q.next_is,
      r.next_is,
      s.next_is,
      digits_short 20 a.number,
      digits_short 20 a.place,
    )

pub returns : goal.returns
returns c =
    let a = c.args in
    refused_put a.number a.place c.put_refused_word.ensures c.put_decimal-space.ensures c.put_byte-at.ensures
    c.put_decimal-end.ensures c.put_byte.ensures
