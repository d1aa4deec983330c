-- The measure of `put_digits` is the number of digits that are left.
use Rattle.decimals.proofs.+put_digits.Given as goal

abbrev pub decreases-put_digits : goal.decreases-put_digits
decreases-put_digits l = l.f
