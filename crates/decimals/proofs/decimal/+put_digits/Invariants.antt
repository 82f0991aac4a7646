-- `decimals::decimal::put_digits` calls itself on a tenth of n. The measure is n.
use Rattle.decimals.proofs.decimal.+put_digits.Given as goal

abbrev pub decreases-put_digits : goal.decreases-put_digits
decreases-put_digits l = l.n
