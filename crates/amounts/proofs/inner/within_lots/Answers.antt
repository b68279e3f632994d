use Rattle.std.proofs.Common.{arith, rules, ap, refl, sym, ◌≡◌, ◌∙◌, ◌+◌, true, false, leb}
use Rattle.std.proofs.lemmas.Iterator.{cases_from_all, YieldsList-from_range}
use borrow.Author.Tests.{tests}
use Rattle.transport.proofs.Laws.Searches.{every_same}
use Rattle.specification.specs.Amounts.{amount_at}
use Rattle.amounts.proofs.Reading.{none_reserved, every_from_all}
use Rattle.amounts.proofs.Reserves.{reserve_is}
use Rattle.amounts.proofs.inner.within_lots.Goals as goal

pub returns-then-not-has_reserves : goal.returns-then-not-has_reserves
returns-then-not-has_reserves c =
    sym (none_reserved c.args.amounts.now (sym c.has_reserves.ensures ∙ c.if-not-has_reserves.true) c.args.lots)

pub returns : goal.returns
returns c =
    let amounts = c.args.amounts.now in
    let first = c.first_reserve-first in
    every_from_all _ c.args.lots _
    (cases_from_all _ _ _
    (λ i. leb (amount_at amounts (first.result + i)) (amount_at amounts i) ≡ true)
    (λ i. leb (amount_at amounts (first.result + i)) (amount_at amounts i) ≡ false)
    c.all.ensures.ran
    (YieldsList-from_range 0 c.args.lots c.args.lots refl (omega arith))
    (λ x q k. search (rules, tests))
    (λ x q k. search (rules, tests)))
    ∙ every_same c.args.lots _ _ (λ i l. ap (λ v. leb v (amount_at amounts i))
    (sym (reserve_is amounts (sym c.has_reserves.ensures ∙ c.if-not-has_reserves.false) first.result i first.ensures.0)))
