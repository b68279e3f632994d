-- Reading all rows replies what reading those not yet passed does.
use Rattle.std.proofs.Common.{◌≡◌, ◌-◌, ◌≤◌, length, drop}
use Rattle.specification.specs.Book.{read_rows}
use Rattle.book.proofs.read_rows.Given as goal

abbrev pub invariant-loop-lot : goal.invariant-loop-lot
invariant-loop-lot l = record {
  inside : l.at ≤ length l.rows;
  same_reply : read_rows l.rows l.version 0 l.counts.lots l.counts.calls
      ≡ read_rows (drop l.at l.rows) l.version l.lot (l.counts.lots - l.lot) l.counts.calls;
}
