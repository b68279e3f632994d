-- `slacks::filling::add_idle` meets its contract: one lot more has the idle call (`idled_more`), and at last all have.
use Rattle.std.proofs.Common.{◌≡◌, arith}
use Rattle.slacks.proofs.Idle.{idled_more, idle_slacks, idle_words, idle_states}
use Rattle.slacks.proofs.filling.add_idle.Goals as goal

pub loop-i-preserved : goal.loop-i-preserved
loop-i-preserved c =
    let (s, w, few) = c.requires in
    idled_more s w few c.loop-i.invariant _ c.loop-i-test.true c.including.ensures

pub returns : goal.returns
returns c =
    let (s, w, few) = c.requires in
    let e : c.loop-i.i ≡ c.args.n = omega (arith, c.loop-i-test.false) in
    let all = rw e at c.loop-i.invariant in
    record { same = idle_states s w few all; slacks = (idle_slacks s w few all, idle_words s w few all) }
