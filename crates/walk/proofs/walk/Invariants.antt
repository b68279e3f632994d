-- The loop of `walk::walk`: the words and the gaps are those of the pairs from the place on, and the answer so far is the lowest place from it on that
-- fails.
use Rattle.walk.proofs.Walking.{WalkedFrom}
use Rattle.walk.proofs.walk.Given as goal

abbrev pub invariant-loop-place : goal.invariant-loop-place
invariant-loop-place l =
    WalkedFrom l.book l.offsets l.pairs.order.now l.pairs.count l.m l.place l.common l.later l.gaps.least l.lowest
