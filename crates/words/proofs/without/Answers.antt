-- `words::without` meets its contract: the word less a single number.
use Rattle.words.proofs.Changes.{without_is}
use Rattle.words.proofs.without.Goals as goal

pub returns : goal.returns
returns c = without_is c.args.word c.args.j c.ranges.word.fits c.requires
