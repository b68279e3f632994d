-- The lots below i are entered, and `at` is where the row of lot i starts.
use Rattle.std.proofs.Common.{◌≡◌}
use Rattle.specification.specs.Book.{row_start}
use Rattle.book.proofs.Filled.{Filled}
use Rattle.book.proofs.Book.offsets.Given as goal

abbrev pub invariant-loop-i : goal.invariant-loop-i
invariant-loop-i l = record { at_row : l.at ≡ row_start l.self.bytes.now l.i; filled : Filled l.self.bytes.now l.i l.table }
