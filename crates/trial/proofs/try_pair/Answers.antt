-- `trial::try_pair` meets its contract: by ranks the corners decide (`corners_tell_lem`), and else the lots that are asked (`Asking`).
use Rattle.std.proofs.Common.{refl, arith}
use Rattle.trial.proofs.Lefts.{capped, left_few, own_few}
use Rattle.trial.proofs.Asking.{hinders_missing, hinders_misfit, lets_pass, passes_last, holder, to_ask_others, to_ask_from, to_ask_next, passes_all, passed_next}
use Rattle.trial.proofs.Cornering.{can_ask, corners_tell_lem}
use Rattle.trial.proofs.try_pair.Goals as goal
use Rattle.trial.proofs.try_pair.Goals.{then-minus-gt0-via-then-minus-gt0, then-minus-gt0-via-else-minus-gt0+then-misfits}

pub try_corners-requires-clause-ends : goal.try_corners-requires-clause-ends
try_corners-requires-clause-ends c = (can_ask c.requires.trying c.if-given.true).1

pub returns-then-given-clause-trial_of : goal.returns-then-given-clause-trial_of
returns-then-given-clause-trial_of c = rw c.try_corners.ensures (corners_tell_lem c.requires.trying c.if-given.true)

pub returns-then-without-eq0-clause-trial_of : goal.returns-then-without-eq0-clause-trial_of
returns-then-without-eq0-clause-trial_of c = passes_last c.requires.trying c.without.ensures c.if-without-eq0.true

pub loop-p-init : goal.loop-p-init
loop-p-init c =
    let t = c.requires.trying in
    let ask = to_ask_others t (rw c.from.ensures at c.without-others.ensures) in
    (to_ask_from t ask c.requires.passed (omega (arith, c.from-2.ensures)) c.below.ensures (rw (c.into_iter-p-iterator.ensures.into_iter_gives, c.numbers_of-p-items.ensures) c.minus-lots.ensures), refl)

pub bounds-given-k : goal.bounds-given-k
bounds-given-k c =
    let t = c.requires.trying in
    (left_few t _ _ (holder t c.loop-p.invariant.0 c.from-k.ensures c.in-Some.ensures.steps.0)).0

pub misfits-requires : goal.misfits-requires
misfits-requires c =
    let t = c.requires.trying in
    let few = (left_few t _ _ (holder t c.loop-p.invariant.0 c.from-k.ensures c.in-Some.ensures.steps.0)).0 in
    ((own_few t).0, (own_few t).1, few, capped t, (t.kept.raised_is c.if-given.false).low)

pub overflow_add-passed : goal.overflow_add-passed
overflow_add-passed c = omega (arith, own_few c.requires.trying)

pub bounds-passed-i-then-minus-gt0 : goal.bounds-passed-i-then-minus-gt0
bounds-passed-i-then-minus-gt0 c = omega (arith, own_few c.requires.trying)

pub returns-then-minus-gt0-clause-trial_of : goal.returns-then-minus-gt0-clause-trial_of
returns-then-minus-gt0-clause-trial_of c =
    let t = c.requires.trying in
    let held = holder t c.loop-p.invariant.0 c.from-k.ensures c.in-Some.ensures.steps.0 in
    elim c.then-minus-gt0.branch [
      | then-minus-gt0-via-then-minus-gt0 w ↦ hinders_missing t _ held c.if-given.false c.minus.ensures w.if-minus-gt0.true
      | then-minus-gt0-via-else-minus-gt0+then-misfits w ↦ hinders_misfit t _ held c.if-given.false w.misfits.ensures w.if-misfits.true
    ]

pub returns-then-minus-gt0-clause-passed : goal.returns-then-minus-gt0-clause-passed
returns-then-minus-gt0-clause-passed c =
    rw c.loop-p.invariant.1 (passed_next c.requires.trying c.loop-p.invariant.0 c.requires.passed c.in-Some.ensures.steps.0)

pub loop-p-preserved : goal.loop-p-preserved
loop-p-preserved c =
    let t = c.requires.trying in
    let (ask, same) = c.loop-p.invariant in
    let held = holder t ask c.from-k.ensures c.in-Some.ensures.steps.0 in
    let passes = lets_pass t _ held c.if-given.false c.minus.ensures c.if-minus-gt0.false c.misfits.ensures c.if-misfits.false in
    (to_ask_next t ask c.from-k.ensures passes c.in-Some.ensures.steps.2, same)

pub returns-clause-trial_of : goal.returns-clause-trial_of
returns-clause-trial_of c = passes_all c.requires.trying c.loop-p.invariant.0 c.in-None.ensures.steps.0

pub returns-clause-passed : goal.returns-clause-passed
returns-clause-passed c = rw c.loop-p.invariant.1 c.requires.passed
