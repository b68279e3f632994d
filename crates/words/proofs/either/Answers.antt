-- `words::either` meets its contract, digit by digit.
use Rattle.words.proofs.Sets.{bit_or_lem}
use Rattle.words.proofs.either.Goals as goal

pub returns : goal.returns
returns c = record { each = bit_or_lem c.args.a c.args.b }
