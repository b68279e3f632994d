-- `words::lowest` meets its contract: its trailing zeros.
use Rattle.words.proofs.Ends.{lowest_is}
use Rattle.words.proofs.lowest.Goals as goal

pub returns : goal.returns
returns c = lowest_is c.args.word c.requires c.ranges.word.fits
