-- The loop of `slacks::filling::enter_first`: the calls below j are entered, and `next` is the byte of the next cost.
use Rattle.slacks.specs.Filling.{Reached}
use Rattle.slacks.proofs.filling.enter_first.Given as goal

abbrev pub invariant-loop-j : goal.invariant-loop-j
invariant-loop-j l = Reached l.book l.i l.j l.next l.slacks
