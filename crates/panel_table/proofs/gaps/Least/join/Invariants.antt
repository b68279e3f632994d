-- `panel_table::gaps::Least::join`: the call has joined the words passed, and the others are as they were.
use Rattle.panel_table.specs.Gaps.{Joined}
use Rattle.panel_table.proofs.gaps.Least.join.Given as goal

abbrev pub invariant-loop-k : goal.invariant-loop-k
invariant-loop-k l = Joined l.table.slacks l.fn.lot.0 l.fn.call.0 l.k l.fn.self.gaps l.fn.self.words l.self.gaps l.self.words
