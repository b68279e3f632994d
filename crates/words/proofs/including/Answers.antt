-- `words::including` meets its contract: a single number joined to the word.
use Rattle.words.proofs.Changes.{including_is}
use Rattle.words.proofs.including.Goals as goal

pub returns : goal.returns
returns c = including_is c.args.word c.args.j c.requires
