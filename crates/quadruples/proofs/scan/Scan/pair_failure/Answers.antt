use Rattle.std.proofs.Common.{arith, ◌≡◌, sym, ◌∙◌}
use Rattle.std.proofs.lemmas.Result.{err_from_is_err_and}
use Rattle.quadruples.proofs.Scanning.{turn_goes_on, turn_stops, turn_ends}
use Rattle.quadruples.proofs.scan.Scan.pair_failure.Goals as goal

pub returns-in_err-lot_failure : goal.returns-in_err-lot_failure
returns-in_err-lot_failure c =
    let p = err_from_is_err_and c.from_residual.result c.from_residual.ensures.1 in
    let l = c.loop-k in
    rw (p.1, p.2) (sym (l.invariant ∙ turn_stops _ _ _ l.k c.loop-k-test.true (sym c.in_err-lot_failure.ensures)))

pub loop-k-preserved : goal.loop-k-preserved
loop-k-preserved c = let l = c.loop-k in l.invariant ∙ turn_goes_on _ _ l.k c.loop-k-test.true (sym c.in_ok-lot_failure.ensures)

pub returns : goal.returns
returns c = let l = c.loop-k in let e : l.k ≡ c.args.self.now.book.now.counts.lots = omega arith in sym (rw e at l.invariant ∙ turn_ends _ _)
