-- `panel::search::Waiting::next`: no lot passed has a free pair.
use Rattle.panel.proofs.Words.{NoneBelow}
use Rattle.panel.proofs.search.Waiting.next.Given as goal

abbrev pub invariant-loop-i : goal.invariant-loop-i
invariant-loop-i l = NoneBelow l.self.lefts l.self.least l.i
