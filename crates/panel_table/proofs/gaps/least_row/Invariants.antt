-- `panel_table::gaps::least_row`: the numbers and words are those of the calls passed (`Passed`).
use Rattle.panel_table.proofs.LeastGaps.{Passed}
use Rattle.panel_table.proofs.gaps.least_row.Given as goal

abbrev pub invariant-loop-l : goal.invariant-loop-l
invariant-loop-l l = Passed l.table.slacks l.lot.0 l.initial.l-iterator.left l.l-iterator.left l.least.gaps l.least.words
