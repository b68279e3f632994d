-- `search::marks::Half::unmark` meets its contract: what its callees ensure is what `unmarked` asks.
use Rattle.search.proofs.Unmarking.{unmarked}
use Rattle.search.proofs.marks.Half.unmark.Goals as goal

pub returns : goal.returns
returns c =
    let p = c.requires in
    unmarked p.0 p.1 p.2 c.may_go.ensures c.may_go-gone.ensures c.unless.ensures c.unless-lots.ensures c.unless-2.ensures c.release.ensures.released c.release.ensures.waits
