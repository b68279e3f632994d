use Rattle.std.proofs.Common.{arith, ◌≡◌, ◌+◌, ◌≤◌, sym, ◌∙◌}
use Rattle.std.proofs.lemmas.Result.{err_from_is_err_and}
use Rattle.book.specs.Table.{entry}
use Rattle.quadruples.proofs.Scanned.{own_below, lot_below}
use Rattle.quadruples.proofs.Scanning.{turn_goes_on, turn_stops, turn_ends, turn_gives, not_later, later}
use Rattle.quadruples.proofs.scan.Scan.lot_failure.Goals as goal

pub entry_at-requires : goal.entry_at-requires
entry_at-requires c = let s = c.args.self.now in (omega arith, (lot_below s _ c.requires, (own_below s).1))

pub returns-then-from-self : goal.returns-then-from-self
returns-then-from-self c =
    let s = c.args.self.now in
    let early : entry s.places.now c.args.k.0 s.call.0 ≤ s.place + 1 = omega arith in
    sym (turn_gives _ _ 0 (λ l h. not_later _ _ _ _ _ l early))

pub call_failure-requires-clause-lot_in : goal.call_failure-requires-clause-lot_in
call_failure-requires-clause-lot_in c =
    let s = c.args.self.now in s.placed _ _ (lot_below s _ c.requires) (own_below s).1 (omega arith)

pub returns-in_err-call_failure : goal.returns-in_err-call_failure
returns-in_err-call_failure c =
    let p = err_from_is_err_and c.from_residual.result c.from_residual.ensures.1 in
    let l = c.loop-l in
    rw (p.1, p.2) (sym (l.invariant ∙ turn_stops _ _ _ l.l c.loop-l-test.true (sym (c.in_err-call_failure.ensures ∙ later _ _ _ _ _ l.l (omega arith)))))

pub loop-l-preserved : goal.loop-l-preserved
loop-l-preserved c =
    let l = c.loop-l in
    l.invariant ∙ turn_goes_on _ _ l.l c.loop-l-test.true (sym (c.in_ok-call_failure.ensures ∙ later _ _ _ _ _ l.l (omega arith)))

pub returns : goal.returns
returns c = let l = c.loop-l in let e : l.l ≡ c.args.self.now.book.now.counts.calls = omega arith in sym (rw e at l.invariant ∙ turn_ends _ _)
