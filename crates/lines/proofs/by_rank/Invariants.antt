-- `lines::by_rank`: the line has the ranks of those passed.
use Rattle.lines.proofs.Laws.{RanksPassed}
use Rattle.lines.proofs.by_rank.Given as goal

abbrev pub invariant-loop-x : goal.invariant-loop-x
invariant-loop-x l = RanksPassed l.ranking l.from l.count l.word l.x-iterator.left l.line
