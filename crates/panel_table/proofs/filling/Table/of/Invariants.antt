-- `panel_table::filling::Table::of`: the lots below i are entered, and the counts are as at first.
use Rattle.std.proofs.Common.{◌≡◌}
use Rattle.panel_table.specs.Filling.{Filled}
use Rattle.panel_table.proofs.filling.Table.of.Given as goal

abbrev pub invariant-loop-i : goal.invariant-loop-i
invariant-loop-i l = record {
  filled : Filled l.book.bytes.now l.i l.table.slacks l.table.eligible;
  counts : (l.table.lots ≡ l.initial.table.lots) × (l.table.calls ≡ l.initial.table.calls) × (l.table.total ≡ l.initial.table.total);
}
