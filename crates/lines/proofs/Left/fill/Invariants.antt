-- `lines::Left::fill`: the lots and the calls passed have their lines.
use Rattle.lines.proofs.Laws.{Firsts}
use Rattle.lines.proofs.Left.fill.Given as goal

abbrev pub invariant-loop-x : goal.invariant-loop-x
invariant-loop-x l = Firsts l.ranking l.eligible l.n l.m l.x l.self
