-- `at` is the offset of the next cost, and reading all costs replies what reading those of the calls not yet passed does.
use Rattle.std.proofs.Common.{◌≡◌, ◌+◌, ◌*◌, ◌-◌}
use Rattle.specification.specs.Book.{row_word, read_costs}
use Rattle.rows.specs.Words.{ones_below}
use Rattle.rows.proofs.first_outside.Given as goal

abbrev pub invariant-loop-j : goal.invariant-loop-j
invariant-loop-j l = record {
  at_cost : l.at ≡ 4 + 4 * ones_below (row_word l.row) l.j;
  same_reply : read_costs l.row l.version l.lot.0 l.calls 0 ≡ read_costs l.row l.version l.lot.0 (l.calls - l.j) l.j;
}
