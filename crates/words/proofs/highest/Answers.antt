-- `words::highest` meets its contract: 31 less its leading zeros.
use Rattle.words.proofs.Ends.{highest_is}
use Rattle.words.proofs.highest.Goals as goal

pub returns : goal.returns
returns c = highest_is c.args.word c.requires c.ranges.word.fits
