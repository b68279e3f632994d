-- `search::Search::next_pair`: the lots that are still to be asked (`Asked`), which are those to come, and what is kept.
use Rattle.std.proofs.Common.{◌≡◌, ℕ}
use Rattle.specification.specs.Book.{bit}
use Rattle.search.specs.Marks.{Asked, Standing, Unchanged}
use Rattle.search.proofs.Search.next_pair.Given as goal

abbrev pub invariant-loop-i : goal.invariant-loop-i
invariant-loop-i l =
    Asked l.self.left.lefts l.self.low l.self.high l.self.to_ask × Standing l.given l.self l.compared × Unchanged l.fn.self l.self
    × ((a : ℕ) → bit l.self.to_ask a ≡ bit l.i-iterator.left a)
