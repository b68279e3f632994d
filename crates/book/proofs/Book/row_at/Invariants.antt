-- `at` is where the row of the lot with the number of the turn starts.
use Rattle.std.proofs.Common.{◌≡◌}
use Rattle.specification.specs.Book.{row_start}
use Rattle.book.proofs.Book.row_at.Given as goal

abbrev pub invariant-loop : goal.invariant-loop
invariant-loop l = l.at ≡ row_start l.self.bytes.now l.counter
