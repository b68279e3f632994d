-- `walk::walk` meets its contract: each turn is that of one pair more.
use Rattle.std.proofs.Common.{◌≡◌, ◌+◌, ◌-◌, ◌<◌, true, false, arith, eq-eqb, ne_eqb}
use Rattle.walk.proofs.Walking.{pair_in, shared_has, walked_none, walk_turn}
use Rattle.walk.proofs.walk.Goals as goal

pub loop-place-init : goal.loop-place-init
loop-place-init c = rw c.raise.ensures (walked_none c.args.book.now c.args.offsets.now c.args.pairs.now.order.now c.args.pairs.now.count
    c.args.m c.requires.few_calls)

pub cost_at-requires : goal.cost_at-requires
cost_at-requires c =
    let here : c.loop-place.place - 1 < c.args.pairs.now.count = omega arith in
    let (lot_in, call_in, few, stands) = pair_in c.requires _ here c.at.ensures.lot c.at.ensures.call in
    c.requires.worded.within _ _ lot_in few stands

pub enter-fits-requires : goal.enter-fits-requires
enter-fits-requires c =
    let here : c.loop-place.place - 1 < c.args.pairs.now.count = omega arith in
    let (lot_in, call_in, few, stands) = pair_in c.requires _ here c.at.ensures.lot c.at.ensures.call in
    rw (c.new-costs.ensures.1, c.new-costs.ensures.2) (record {
      lot_in = lot_in;
      call_in = call_in;
      in_table = stands;
      has = shared_has c.requires _ here c.at.ensures.lot c.at.ensures.call _ c.cost_at.ensures;
    })

pub loop-place-preserved-then-marked-fits : goal.loop-place-preserved-then-marked-fits
loop-place-preserved-then-marked-fits c =
    let l = c.loop-place in
    let here : l.place - 1 < c.args.pairs.now.count = omega arith in
    let next_is : l.place ≡ l.place - 1 + 1 = omega arith in
    let (lot_in, call_in, few, stands) = pair_in c.requires _ here c.at.ensures.lot c.at.ensures.call in
    walk_turn c.requires _ here _ next_is c.at.ensures.lot c.at.ensures.call l.lowest c.cost_at.ensures (c.new-costs.result.singled.is _ few)
    (rw (c.new-costs.ensures.0, c.new-costs.ensures.1, c.new-costs.ensures.2) at c.enter-fits.ensures) l.invariant false (ne_eqb _ _ c.if-marked-fits.true)

pub loop-place-preserved : goal.loop-place-preserved
loop-place-preserved c =
    let l = c.loop-place in
    let here : l.place - 1 < c.args.pairs.now.count = omega arith in
    let next_is : l.place ≡ l.place - 1 + 1 = omega arith in
    let (lot_in, call_in, few, stands) = pair_in c.requires _ here c.at.ensures.lot c.at.ensures.call in
    walk_turn c.requires _ here _ next_is c.at.ensures.lot c.at.ensures.call l.lowest c.cost_at.ensures (c.new-costs.result.singled.is _ few)
    (rw (c.new-costs.ensures.0, c.new-costs.ensures.1, c.new-costs.ensures.2) at c.enter-fits.ensures) l.invariant true (eq-eqb _ _ c.if-marked-fits.false)

pub returns : goal.returns
returns c = λ n few_lots each_once.
    let e : c.loop-place.place ≡ 0 = omega arith in
    rw e at (c.loop-place.invariant.walked n few_lots each_once).1
