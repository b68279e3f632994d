-- The loop of `walk::costs::singles`: the words of the calls below `call` stand.
use Rattle.std.proofs.Common.{◌≡◌, ℕ, ◌<◌, ◌^◌, get_or}
use Rattle.walk.proofs.costs.singles.Given as goal

abbrev pub invariant-loop-call : goal.invariant-loop-call
invariant-loop-call l = (k : ℕ) → k < l.call → get_or l.word-items k 0 ≡ 2 ^ k
