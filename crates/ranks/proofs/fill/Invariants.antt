use Rattle.std.proofs.Common.{ℕ, ◌<◌, get_or}
use Rattle.ranks.proofs.fill.Given as goal

abbrev pub invariant-loop-x : goal.invariant-loop-x
invariant-loop-x g l = (k : ℕ) → k < l.x → goal.F-post g l.of (get_or l.slacks k 0) (get_or l.compared k 0)
