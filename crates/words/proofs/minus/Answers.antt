-- `words::minus` meets its contract.
use Rattle.words.proofs.Changes.{minus_is}
use Rattle.words.proofs.minus.Goals as goal

pub returns : goal.returns
returns c = minus_is c.args.word c.args.other c.ranges.word.fits c.ranges.other.fits
