-- `trial::misfits`: a misfit at the calls passed is found, and what is added to each slack stays low.
use Rattle.std.proofs.Common.{◌≡◌, ◌+◌, ◌*◌, ◌≤◌}
use Rattle.book.specs.Table.{entry}
use Rattle.trial.specs.Testing.{Misfits}
use Rattle.trial.proofs.misfits.Given as goal

abbrev pub invariant-loop-l : goal.invariant-loop-l
invariant-loop-l l =
    (l.own + entry l.slacks l.other.0 l.fn.call.0 ≡ entry l.slacks l.lot.0 l.fn.call.0 + 2000001) × (l.own ≤ 2 * 2000001)
    × Misfits l.slacks l.raised l.lot.0 l.fn.call.0 l.other.0 l.l l.found
