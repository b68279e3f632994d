-- The lot's calls passed are entered, and `next` is the offset of the next cost.
use Rattle.std.proofs.Common.{◌≡◌, ◌+◌, ◌*◌, length}
use borrow.Rule.Slice.PartMut.{put_mid}
use lib.Count.{ones}
use Rattle.book.proofs.Entering.{Entered}
use Rattle.book.proofs.inner.enter_first.Given as goal

abbrev pub invariant-loop-entry : goal.invariant-loop-entry
invariant-loop-entry l = record {
  long : length l.entry-items ≡ ones l.word;
  next_is : l.next ≡ l.at + 4 * l.entry-index;
  entered : Entered l.fn.table l.word l.fn.lot.0 l.at l.entry-index (put_mid (32 * l.fn.lot.0) (ones l.word) l.fn.table l.entry-items) l.next;
}
