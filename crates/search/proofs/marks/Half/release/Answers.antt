-- `search::marks::Half::release` meets its contract: one lot more has its mark taken back (`releasing_more`).
use Rattle.std.proofs.Common.{◌≡◌, ◌∙◌, not, ◌&&◌, eqb, arith}
use Rattle.book.specs.Table.{entry}
use Rattle.words.specs.Lefts.{is_left}
use Rattle.search.proofs.Releasing.{releasing_more}
use Rattle.search.proofs.marks.Half.release.Goals as goal
use Rattle.search.proofs.marks.Half.release.Goals.{then-not-is_set, else-not-is_set}

pub loop-k-preserved : goal.loop-k-preserved
loop-k-preserved c =
    let (r, waits) = c.loop-k.invariant in
    let (low, few, gone) = c.in-Some.ensures.steps in
    let k = c.in-Some.k in
    let j = c.args.call.0 in
    let told : c.if-not-is_set.including_if ≡ (not (is_left c.args.other.now.marks k j) && eqb (entry c.args.taken.now k j) 0) =
    elim c.if-not-is_set.branch [
      | then-not-is_set w ↦ w.including_if-is ∙ rw (← c.is_set.ensures, w.if-not-is_set.true)
      | else-not-is_set w ↦ w.including_if-is ∙ rw (← c.is_set.ensures, w.if-not-is_set.false)
    ] in (
      releasing_more r (omega (arith, few, r.released.long, c.requires)) low.is_in gone c.without.ensures told c.including_if-again.ensures,
      waits,
    )
