-- `search::find_pairs`: what is taken, with its bytes (`Going`), all that is kept (`Standing`), and the lots to be asked.
use Rattle.slacks.specs.Slacks.{by_slacks}
use Rattle.slacks.proofs.Going.{Going}
use Rattle.words.specs.Lefts.{is_left}
use Rattle.search.specs.Marks.{Asked, TakenMarks, Standing}
use Rattle.search.proofs.find_pairs.Given as goal

abbrev pub invariant-loop-count : goal.invariant-loop-count
invariant-loop-count l =
    Going (by_slacks l.searched.given.slacks.now l.searched.lots l.searched.calls) (is_left l.search.left.lefts) l.pairs l.count l.total
    × Standing l.searched.given l.search l.compared × TakenMarks l.searched.given.eligible.now l.search.left.lefts l.search.taken
    × Asked l.search.left.lefts l.search.low l.search.high l.search.to_ask
