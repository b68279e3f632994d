-- `at` is where the row of the next lot starts, and the entries passed say where theirs do.
use Rattle.std.proofs.Common.{◌≡◌, ℕ, ◌<◌, length, get_or}
use Rattle.specification.specs.Book.{row_start}
use Rattle.book.proofs.Book.row_starts.Given as goal

abbrev pub invariant-loop-start : goal.invariant-loop-start
invariant-loop-start l = record {
  long : length l.start-items ≡ l.self.counts.lots;
  at_row : l.at ≡ row_start l.self.bytes.now l.start-index;
  entered : (k : ℕ) → k < l.start-index → get_or l.start-items k 0 ≡ row_start l.self.bytes.now k;
}
