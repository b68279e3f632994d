-- `search::Search::first_call`: the calls that are still to be tried (`Trials`), and what is kept.
use Rattle.std.proofs.Common.{◌≡◌}
use Rattle.search.specs.Marks.{Standing, Unchanged}
use Rattle.search.proofs.Trials.{Trials}
use Rattle.search.proofs.Search.first_call.Given as goal

abbrev pub invariant-loop-j : goal.invariant-loop-j
invariant-loop-j l =
    Trials l.self.left.lefts l.fn.self.low l.self.low l.fn.self.high l.self.high l.i l.j-iterator.left × Standing l.given l.self l.compared
    × Unchanged l.fn.self l.self × (l.self.to_ask ≡ l.fn.self.to_ask)
