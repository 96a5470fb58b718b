use Rattle.std.proofs.Common.{arith}
use Rattle.std.proofs.lemmas.Fmt.{decimal_digit}
use Rattle.itoa.proofs.Decimal.{decimal_two}
use Rattle.frame_print.proofs.Digits.{kept_one, kept_two, three_digits, four_digits}
use Rattle.frame_print.proofs.waiting.Waiting.keep_short_number.Goals as goal

pub returns-then-n-lt10-clause-text : goal.returns-then-n-lt10-clause-text
returns-then-n-lt10-clause-text c = kept_one _ _ _ _ c.keep_byte.ensures (decimal_digit c.args.n (omega arith))

pub returns-then-n-lt100-clause-text : goal.returns-then-n-lt100-clause-text
returns-then-n-lt100-clause-text c = kept_one _ _ _ _ c.keep_two_digits.ensures (decimal_two c.args.n (omega arith) (omega arith))

pub returns-then-n-lt1000-clause-text : goal.returns-then-n-lt1000-clause-text
returns-then-n-lt1000-clause-text c =
    kept_two _ _ _ _ _ _ c.keep_byte-then-n-lt1000.ensures c.keep_two_digits-then-n-lt1000.ensures
    (three_digits c.args.n (omega arith) (omega arith))

pub returns-else-n-lt1000-clause-text : goal.returns-else-n-lt1000-clause-text
returns-else-n-lt1000-clause-text c =
    kept_two _ _ _ _ _ _ c.keep_two_digits-else-n-lt1000.ensures c.keep_two_digits-else-n-lt1000-2.ensures
    (four_digits c.args.n (omega arith) (omega arith))
