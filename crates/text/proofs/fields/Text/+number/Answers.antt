-- `text::fields::Text::number` meets its contract: the digits of the tenth are appended, and then the last digit.
use Rattle.std.proofs.Common.{arith, length-append, append_assoc}
use Rattle.text.proofs.Decimals.{decimal_one, decimal_more}
use Rattle.text.proofs.fields.Text.+number.Goals as goal

pub number-requires : goal.number-requires
number-requires t c = (omega arith, grind (arith, decimal_more, length-append))

pub put-requires : goal.put-requires
put-requires t c = grind (arith, decimal_one, decimal_more, length-append)

pub returns : goal.returns
returns t c = grind (arith, decimal_one, decimal_more, append_assoc)
