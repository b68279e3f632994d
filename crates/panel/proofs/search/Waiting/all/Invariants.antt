-- `panel::search::Waiting::all`: the words of the lots passed are worked out, and nothing else changes.
use Rattle.std.proofs.Common.{◌≡◌, replicate}
use Rattle.panel.specs.Search.{AllLeast}
use Rattle.panel.proofs.search.Waiting.all.Given as goal

abbrev pub invariant-loop-i : goal.invariant-loop-i
invariant-loop-i l = record {
  words : AllLeast l.table.slacks l.i l.table.eligible l.waiting.least;
  lefts_stay : l.waiting.lefts ≡ l.table.eligible;
  marks_stay : l.waiting.taken ≡ replicate 64 0;
}
