-- `decimals::decimal::digits_len` calls itself on a tenth of n. The measure is n.
use Rattle.decimals.proofs.decimal.+digits_len.Given as goal

abbrev pub decreases-digits_len : goal.decreases-digits_len
decreases-digits_len l = l.n
