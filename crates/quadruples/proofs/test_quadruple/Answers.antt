use Rattle.std.proofs.Common.{arith, sym, ◌∙◌}
use Rattle.quadruples.proofs.Testing.{all_in, can_read, told_not_eligible, told_too_high, told_holds}
use Rattle.quadruples.proofs.test_quadruple.Goals as goal

pub entry_at-requires : goal.entry_at-requires
entry_at-requires c =
    let (i_in, j_in, k_in, l_in) = all_in c.requires.three_eligible c.requires.offsets_value in (omega arith, (omega arith, omega arith))

pub returns-then-entry_at-eq0 : goal.returns-then-entry_at-eq0
returns-then-entry_at-eq0 c =
    told_not_eligible c.requires.three_eligible c.requires.offsets_value (sym (c.entry_at.ensures 0) ∙ c.if-entry_at-eq0.true)

pub cost_of-requires : goal.cost_of-requires
cost_of-requires c =
    let (i_in, j_in, k_in, l_in) = all_in c.requires.three_eligible c.requires.offsets_value in
    can_read c.requires.three_eligible c.requires.offsets_value _ _ (omega arith) (omega arith)

pub cost_of-requires-2 : goal.cost_of-requires-2
cost_of-requires-2 c =
    let (i_in, j_in, k_in, l_in) = all_in c.requires.three_eligible c.requires.offsets_value in
    can_read c.requires.three_eligible c.requires.offsets_value _ _ (omega arith) (omega arith)

pub cost_of-requires-3 : goal.cost_of-requires-3
cost_of-requires-3 c =
    let (i_in, j_in, k_in, l_in) = all_in c.requires.three_eligible c.requires.offsets_value in
    can_read c.requires.three_eligible c.requires.offsets_value _ _ (omega arith) (omega arith)

pub cost_of-requires-4 : goal.cost_of-requires-4
cost_of-requires-4 c =
    let (i_in, j_in, k_in, l_in) = all_in c.requires.three_eligible c.requires.offsets_value in
    can_read c.requires.three_eligible c.requires.offsets_value _ _ (omega arith) (omega arith)

pub returns-then-by_lot-by_call : goal.returns-then-by_lot-by_call
returns-then-by_lot-by_call c =
    told_too_high c.requires.three_eligible c.requires.offsets_value (c.entry_at.ensures 0) c.if-entry_at-eq0.false (omega arith)

pub returns : goal.returns
returns c =
    told_holds c.requires.three_eligible c.requires.offsets_value (c.entry_at.ensures 0) c.if-entry_at-eq0.false (omega arith)
