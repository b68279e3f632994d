-- The loop of `slacks::filling::add_idle`: the lots passed have the idle call.
use Rattle.slacks.proofs.Idle.{Idled}
use Rattle.slacks.proofs.filling.add_idle.Given as goal

abbrev pub invariant-loop-i : goal.invariant-loop-i
invariant-loop-i l = Idled l.m l.i l.initial.slacks l.slacks l.initial.words l.words
