use Rattle.std.proofs.Common.{arith, refl}
use Rattle.std.proofs.lemmas.Result.{err_from_is_err_and}
use Rattle.order.proofs.Arrays.{shows_all}
use Rattle.order.proofs.Settling.{one_missing, is_order, then_settled}
use Rattle.order.proofs.pairs.Check.check_pairs.Goals as goal

pub fill_places-requires : goal.fill_places-requires
fill_places-requires c = shows_all (omega arith) (omega arith) 0

pub returns-in_err-fill_places : goal.returns-in_err-fill_places
returns-in_err-fill_places c =
    let p = err_from_is_err_and c.from_residual.result c.from_residual.ensures.1 in
    rw (p.1, p.2, ← c.in_err-fill_places.ensures.says) refl

pub returns-then-self-pair_count : goal.returns-then-self-pair_count
returns-then-self-pair_count c = one_missing c.args.self.now c.in_ok-fill_places.ensures.says (omega (arith, c.pair_count.ensures))

pub settle-requires : goal.settle-requires
settle-requires c = record {
  each_once = is_order c.args.self.now c.in_ok-fill_places.ensures.says (omega (arith, c.pair_count.ensures));
  shows = c.in_ok-fill_places.ensures.shows;
}

pub returns : goal.returns
returns c = then_settled c.args.self.now c.in_ok-fill_places.ensures.says (omega (arith, c.pair_count.ensures)) _ c.settle.ensures
