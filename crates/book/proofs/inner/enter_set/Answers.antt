-- A turn passes over the clear bits before the lowest call that is left, and enters that call.
use Rattle.std.proofs.Common.{◌+◌, refl, arith}
use Rattle.rows.proofs.Bits.{ones_below_le}
use Rattle.words.proofs.OneByOne.{left_all, left_none, left_next, left_more}
use Rattle.book.proofs.Entering.{entered_none, entered_set, entered_to, entered_all}
use Rattle.book.proofs.inner.enter_set.Goals as goal

pub loop-j-init : goal.loop-j-init
loop-j-init c =
    rw (c.into_iter-j-iterator.ensures.into_iter_gives, c.numbers_of-j-items.ensures) (refl, 0, left_all c.args.word, entered_none _ _ _ _ c.told-table)

pub overflow_add-next : goal.overflow_add-next
overflow_add-next c =
    let (_, j, l, entered) = c.loop-j.invariant in
    let (low, few, gone) = c.in-Some.ensures.steps in
    let to = entered_to _ _ _ _ _ entered entered.bounded (left_next l low few gone) in
    omega (arith, to.next_is, ones_below_le c.args.word c.in-Some.j c.ranges.word.fits)

pub loop-j-preserved : goal.loop-j-preserved
loop-j-preserved c =
    let (_, j, l, entered) = c.loop-j.invariant in
    let (low, few, gone) = c.in-Some.ensures.steps in
    let from = left_next l low few gone in
    let to = entered_to _ _ _ _ _ entered entered.bounded from in
    (refl, c.in-Some.j + 1, left_more l low few gone, entered_set _ _ _ _ _ to c.requires.0 few (from.is_set few))

pub returns : goal.returns
returns c =
    let (_, j, l, entered) = c.loop-j.invariant in
    let none = left_none l c.in-None.ensures.steps.0 entered.bounded in
    entered_all _ _ _ _ _ entered (λ k from few. none.clear k from few)
