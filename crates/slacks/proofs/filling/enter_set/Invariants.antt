-- The loop of `slacks::filling::enter_set`: the calls below some j are entered, those of the word from j on are left, and `next` is the byte of
-- the next cost.
use Rattle.std.proofs.Common.{ℕ}
use Rattle.words.specs.Numbers.{LeftFrom}
use Rattle.slacks.specs.Filling.{Reached}
use Rattle.slacks.proofs.filling.enter_set.Given as goal

abbrev pub invariant-loop-j : goal.invariant-loop-j
invariant-loop-j l = (j : ℕ) × LeftFrom l.word j l.j-iterator.left × Reached l.book l.lot.0 j l.next l.slacks
