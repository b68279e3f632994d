-- `search::Search::first_call` meets its contract: each call that is tried is marked (`trials_next`), so the first that is free is the lowest (`first_free`).
use Rattle.search.proofs.Trials.{trials_next, first_free, first_none}
use Rattle.search.proofs.Search.first_call.Goals as goal

pub returns-in_default-clause-first_is : goal.returns-in_default-clause-first_is
returns-in_default-clause-first_is c =
    let (lowest, few, _) = c.in-Some.ensures.steps in (first_free c.loop-j.invariant.0 _ lowest, c.in_default.ensures.trial_of, few)

pub loop-j-preserved : goal.loop-j-preserved
loop-j-preserved c =
    let (trials, standing, same, asks) = c.loop-j.invariant in
    let told = c.in-Some-answer.ensures in
    let low = c.mark.ensures in
    let high = c.mark-in-loop-j.ensures in
    let (more, marks) = trials_next trials standing.marks told.trial_of c.in-Some.ensures.steps.2 (low.marks, low.waits) (high.marks, high.waits) in
    (more, record { kept = standing.kept; passed_is = told.passed; marks = marks }, record { left = same.left; taken = same.taken }, asks)

pub returns-clause-first_is : goal.returns-clause-first_is
returns-clause-first_is c = first_none c.loop-j.invariant.0 c.in-None.ensures.steps.0
