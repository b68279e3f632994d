-- The loop of `walk::gaps::Gaps::lower_row`: the least gaps are lowered over the calls below l.
use Rattle.std.proofs.Common.{◌+◌, ◌*◌, ltb}
use Rattle.walk.specs.Gaps.{gap_over, Lowered}
use Rattle.walk.proofs.gaps.Gaps.lower_row.Given as goal

abbrev pub invariant-loop-l : goal.invariant-loop-l
invariant-loop-l l =
    Lowered (λ o. gap_over l.costs.book.now l.own (l.start + 4 * o)) (λ o. ltb o l.l) l.j.0 l.initial.self.least l.fits l.self.least
