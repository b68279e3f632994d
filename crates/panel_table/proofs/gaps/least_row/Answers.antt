-- `panel_table::gaps::least_row`: one call more is passed (`passed_next`), and once none is to come the words are those wanted.
use Rattle.panel_table.proofs.LeastGaps.{passed_next, row_is_least}
use Rattle.panel_table.proofs.gaps.least_row.Goals as goal

pub loop-l-preserved : goal.loop-l-preserved
loop-l-preserved c =
    let (low, _, gone) = c.in-Some.ensures.steps in
    passed_next _ _ _ _ _ _ _ _ _ _ c.loop-l.invariant low.is_in gone c.join.ensures

pub returns : goal.returns
returns c =
    let (e, _) = c.in-None.ensures.steps in
    row_is_least _ c.args.table.now.capped _ _ _ c.below.ensures c.loop-l.least.gaps _
    (rw (e, c.into_iter-l-iterator.ensures.into_iter_gives, c.numbers_of-l-items.ensures) at c.loop-l.invariant)
