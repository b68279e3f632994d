-- `panel::search::Waiting::free_calls`: the word has the calls that the lots passed leave free.
use Rattle.panel.specs.Search.{FreeCalls}
use Rattle.panel.proofs.search.Waiting.free_calls.Given as goal

abbrev pub invariant-loop-k : goal.invariant-loop-k
invariant-loop-k l = FreeCalls l.self.lefts l.self.least l.i l.k l.free
