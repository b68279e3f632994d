-- As many pairs are eligible as the book has.
use Rattle.std.proofs.Common.{◌∙◌}
use Rattle.transport.proofs.Finder.Same.{size_of_same}
use Rattle.slacks.proofs.filling.SlackTable.fill.Goals as goal

pub invariant_of-self-clause-counted : goal.invariant_of-self-clause-counted
invariant_of-self-clause-counted c = c.pair_count-self.ensures ∙ size_of_same c.fill_rows.ensures.same
