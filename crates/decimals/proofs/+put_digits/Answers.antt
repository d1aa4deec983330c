-- `decimals::put_digits` meets its contract. The measure is the number of digits that are left.
use Rattle.std.proofs.Common.{◌-◌, ◌/◌, arith}
use Rattle.ground.proofs.Put.{put_long}
use Rattle.decimals.proofs.Digits.{digits_short, none_left, one_digit, more-digits}
use Rattle.decimals.proofs.+put_digits.Goals as goal

pub returns-then-f-eq0 : goal.returns-then-f-eq0
returns-then-f-eq0 t c = none_left _ _ _ c.if-f-eq0.true

pub returns-then-n-lt-TWO_DIGITS : goal.returns-then-n-lt-TWO_DIGITS
returns-then-n-lt-TWO_DIGITS t c = one_digit c.if-f-eq0.false c.if-n-lt-TWO_DIGITS.true c.put_byte.ensures

pub put_byte-requires-2 : goal.put_byte-requires-2
put_byte-requires-2 t c =
    let p = c.put_digits-next.ensures in
    omega (arith, p.next_is, put_long p, digits_short (c.args.f - 1) (c.args.n / 10), c.if-f-eq0.false)

pub returns : goal.returns
returns t c = more-digits c.if-f-eq0.false c.if-n-lt-TWO_DIGITS.false c.put_digits-next.ensures c.put_byte-2.ensures
