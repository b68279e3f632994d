-- `trial::try_pair`: each lot that is not to be asked lets the pair pass, and nothing changed yet.
use Rattle.std.proofs.Common.{◌≡◌}
use Rattle.trial.specs.Left.{ToAsk}
use Rattle.trial.proofs.try_pair.Given as goal

abbrev pub invariant-loop-p : goal.invariant-loop-p
invariant-loop-p l = ToAsk l.given l.left l.i l.j l.p-iterator.left × (l.passed ≡ l.fn.passed)
