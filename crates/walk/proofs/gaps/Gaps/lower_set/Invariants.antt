-- The loop of `walk::gaps::Gaps::lower_set`: of the calls of the word, those that are not left are done.
use Rattle.std.proofs.Common.{◌≡◌, ℕ, true, not, ◌&&◌}
use Rattle.specification.specs.Book.{bit}
use Rattle.book.specs.Table.{entry}
use Rattle.walk.specs.Gaps.{gap_over, Lowered}
use Rattle.walk.proofs.gaps.Gaps.lower_set.Given as goal

abbrev pub invariant-loop-l : goal.invariant-loop-l
invariant-loop-l l =
    ((o : ℕ) → bit l.l-iterator.left o ≡ true → bit l.word o ≡ true)
    × Lowered (λ o. gap_over l.costs.book.now l.own (entry l.costs.offsets.now l.i.0 o)) (λ o. bit l.word o && not (bit l.l-iterator.left o)) l.j.0
    l.initial.self.least l.fits l.self.least
