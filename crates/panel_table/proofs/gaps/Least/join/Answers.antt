-- `panel_table::gaps::Least::join`: one word more (`joined_more`).
use Prim.Native.Nat.{◌<◌}
use borrow.Author.Rules.{rules}
use lib.ListN.{length}
use Rattle.panel_table.proofs.LeastGaps.{joined_more}
use Rattle.panel_table.proofs.gaps.Least.join.Goals as goal

pub loop-k-preserved : goal.loop-k-preserved
loop-k-preserved c =
    let k = c.loop-k.k in
    let gap_is = rw (c.slack_at-own.ensures, c.slack_at.ensures) at c.gap-new.ensures.0 in
    let in_gaps : k < length c.loop-k.self.gaps = search rules in
    let in_words : k < length c.loop-k.self.words = search rules in
    joined_more _ _ _ _ _ _ _ _ _ _ c.loop-k.invariant in_gaps in_words (rw gap_is at c.lesser.ensures)
    (rw gap_is at c.with_call.ensures)
