-- `panel_table::filling::Table::enter`: the calls still to come are in the row's word, and those that are not to come are entered.
use Rattle.std.proofs.Common.{◌≡◌}
use Rattle.panel_table.proofs.Entering.{Entering}
use Rattle.panel_table.proofs.filling.Table.enter.Given as goal

abbrev pub invariant-loop-j : goal.invariant-loop-j
invariant-loop-j l = record {
  entering : Entering l.book.bytes.now l.i l.j-iterator.left l.self.slacks;
  words_stay : l.self.eligible ≡ l.fn.self.eligible;
  counts_stay : (l.self.lots ≡ l.fn.self.lots) × (l.self.calls ≡ l.fn.self.calls) × (l.self.total ≡ l.fn.self.total);
}
