use Rattle.std.proofs.Common.{arith, ◌≡◌, refl, sym, ◌∙◌}
use Rattle.std.proofs.lemmas.Result.{err_from_is_err_and}
use Rattle.specification.specs.Check.{check_pairs}
use Rattle.specification.proofs.Books.{admitted_inside}
use Rattle.walk.proofs.Placing.{rest_none}
use Rattle.order.specs.Noted.{passed, met_at}
use Rattle.order.proofs.Checks.{book, P, few_lots, few_calls}
use Rattle.order.proofs.Turns.{turn_says, turn_shows}
use Rattle.order.proofs.pairs.Check.fill_places.Goals as goal

pub loop-place-init : goal.loop-place-init
unfolding passed met_at
loop-place-init c = record { shows = c.requires; same_reply = refl }

pub returns-in_err-meet-clause-says : goal.returns-in_err-meet-clause-says
returns-in_err-meet-clause-says c =
    let s = c.args.self.now in
    let l = c.loop-place in
    let p = err_from_is_err_and c.from_residual.result c.from_residual.ensures.1 in
    rw (p.1, p.2) (sym (l.invariant.same_reply
    ∙ turn_says (P s) (admitted_inside (book s)) (few_lots s) (few_calls s) s.pairs.order.now s.pairs.count l.place _ _
    c.at.ensures.lot c.at.ensures.call c.loop-place-test.true l.places l.invariant.shows _ c.in_err-meet.ensures.says))

pub loop-place-preserved : goal.loop-place-preserved
loop-place-preserved c =
    let s = c.args.self.now in
    let l = c.loop-place in
    record {
      shows = turn_shows (P s) (admitted_inside (book s)) (few_lots s) (few_calls s) s.pairs.order.now s.pairs.count l.place _ _
          c.at.ensures.lot c.at.ensures.call c.loop-place-test.true l.places l.invariant.shows _ c.in_ok-meet.ensures.eligible
          c.in_ok-meet.ensures.noted;
      same_reply = l.invariant.same_reply
          ∙ turn_says (P s) (admitted_inside (book s)) (few_lots s) (few_calls s) s.pairs.order.now s.pairs.count l.place _ _
          c.at.ensures.lot c.at.ensures.call c.loop-place-test.true l.places l.invariant.shows _ c.in_ok-meet.ensures.says;
    }

pub returns : goal.returns
unfolding check_pairs
returns c =
    let e : c.loop-place.place ≡ c.args.self.now.pairs.count = omega arith in
    record { says = sym (rw (e, rest_none, check_pairs) at c.loop-place.invariant.same_reply); shows = rw e at c.loop-place.invariant.shows }
