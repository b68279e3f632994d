-- `panel::search::take_all`: GREEDY has run the pairs taken, as the finder takes them (`Kept`).
use Rattle.panel.specs.Search.{TakenMarks}
use Rattle.panel.proofs.Taking.{Kept}
use Rattle.panel.proofs.search.take_all.Given as goal

abbrev pub invariant-loop-turn : goal.invariant-loop-turn
invariant-loop-turn l = record {
  kept : Kept l.table.slacks l.table.lots l.table.calls l.table.total l.fn.remaining l.turn l.waiting.lefts l.waiting.least l.state l.units;
  marks : TakenMarks l.table.eligible l.waiting.lefts l.waiting.taken;
}
