-- `words::including_if` meets its contract: the number, or nothing, joined to the word.
use Rattle.words.proofs.Changes.{including_if_is}
use Rattle.words.proofs.including_if.Goals as goal

pub returns : goal.returns
returns c = rw c.from.ensures (including_if_is c.args.test c.args.word c.args.j c.requires)
