-- Lot i's calls below some j are entered, those of the word from j on are left, and `next` is the offset of the next cost.
use Rattle.std.proofs.Common.{◌≡◌, ℕ, ◌*◌}
use Rattle.words.specs.Numbers.{LeftFrom}
use Rattle.book.proofs.Entering.{Entered}
use Rattle.book.proofs.inner.enter_set.Given as goal

abbrev pub invariant-loop-j : goal.invariant-loop-j
invariant-loop-j l =
    (l.base ≡ 32 * l.fn.lot.0) × (j : ℕ) × LeftFrom l.word j l.j-iterator.left × Entered l.fn.table l.word l.fn.lot.0 l.at j l.table l.next
