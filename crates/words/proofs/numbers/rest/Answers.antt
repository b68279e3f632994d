-- `words::numbers::rest` meets its contract.
use Rattle.words.proofs.Changes.{rest_is}
use Rattle.words.proofs.numbers.rest.Goals as goal

pub returns : goal.returns
returns c = rest_is c.args.word
