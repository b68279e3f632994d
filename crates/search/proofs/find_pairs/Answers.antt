-- `search::find_pairs` meets its contract: the pair that is next is taken (`going_next`), until none is free or none is left.
use Rattle.std.proofs.Common.{◌≡◌, arith}
use Rattle.slacks.specs.Slacks.{by_slacks}
use Rattle.slacks.proofs.Going.{Going, going_stop, going_next, going_done}
use Rattle.words.specs.Lefts.{is_left}
use Rattle.words.proofs.Lefts.{gone_agrees}
use Rattle.search.proofs.Passing.{left_few, next_of_pair, none_of_nothing}
use Rattle.search.proofs.Taken.{standing_then, marks_then, asked_then}
use Rattle.search.proofs.First.{standing_first, taken_first, asked_first, going_first}
use Rattle.search.proofs.find_pairs.Goals as goal

pub loop-count-init : goal.loop-count-init
loop-count-init c =
    let p = c.requires in
    let t = c.args.searched.now.table in
    let first = c.fill.ensures in (
      rw first.lefts (going_first c.args.searched.now.given t _ _ p.total.0),
      standing_first c.args.searched.now.given t first.lefts first.lined first.ended p.compared _,
      rw first.lefts taken_first,
      rw first.lefts (asked_first c.args.searched.now.given t c.below.ensures),
    )

pub returns-in_err-lot : goal.returns-in_err-lot
returns-in_err-lot c =
    let e = c.in_err-lot.ensures in
    let none = none_of_nothing e.standing.kept c.args.searched.now.table e.next_is in
    rw c.from_residual.ensures (going_stop c.loop-count.invariant.0 c.loop-count-test.true (rw e.unchanged.left at none))

pub loop-count-preserved : goal.loop-count-preserved
loop-count-preserved c =
    let (going, _, taken, _) = c.loop-count.invariant in
    let e = c.in_ok-lot.ensures in
    let same = e.unchanged in
    let (f, asks, on) = e.next_is in
    let t = c.take_pair.ensures in
    let left = standing_then t f.lot_in f.call_in e.standing in
    let marks = marks_then t f.lot_in f.call_in (rw (same.left, same.taken) taken) in
    let P = by_slacks c.args.searched.now.given.slacks.now c.args.searched.now.lots c.args.searched.now.calls in
    let on_going : Going P (is_left c.next_pair.new.self.left.lefts) c.loop-count.pairs c.loop-count.count c.args.total = rw same.left going in (
      going_next on_going c.loop-count-test.true _ (next_of_pair e.standing.kept c.args.searched.now.table _ _ f) _ (gone_agrees t.from_lot P) _ c.put.ensures,
      left,
      marks,
      asked_then t marks (left_few left.kept) asks on,
    )

pub returns : goal.returns
returns c =
    let e : c.loop-count.count ≡ c.args.total = omega arith in
    rw e at (going_done c.loop-count.invariant.0 c.loop-count-test.false)
