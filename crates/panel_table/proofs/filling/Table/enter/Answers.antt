-- `panel_table::filling::Table::enter`: the lowest call still to come is entered (`entering_one`), and at last all are, with the word beside them.
use mathlib.Core.Path.{◌∙◌, refl}
use native.Mathlib.Omega.{arith}
use Rattle.book.proofs.Readable.{read_is}
use Rattle.panel_table.proofs.Entering.{lot_few, row_in, word_is, entering_none, entering_all, entering_one, call_few, cost_low, filled_more}
use Rattle.panel_table.proofs.filling.Table.enter.Goals as goal

pub row_at-at-requires : goal.row_at-at-requires
row_at-at-requires c = omega (arith, (read_is _ _ c.args.book.now.readable).lots_is, c.requires.1)

pub cost_at-word-requires : goal.cost_at-word-requires
cost_at-word-requires c = omega (arith, c.row_at-at.ensures, row_in c.requires.0 c.requires.1)

pub loop-j-init : goal.loop-j-init
loop-j-init c =
    let p = c.requires in
    record {
      entering =
          rw (c.into_iter-j-iterator.ensures.into_iter_gives, c.numbers_of-j-items.ensures, c.cost_at-word.ensures, c.row_at-at.ensures, word_is p.0 p.1)
          (entering_none p.0 p.1 p.2.entered);
      words_stay = refl;
      counts_stay = (refl, refl, refl);
    }

pub cost_from-requires : goal.cost_from-requires
cost_from-requires c = omega (arith, c.row_at-at.ensures, row_in c.requires.0 c.requires.1)

pub overflow_sub-self : goal.overflow_sub-self
overflow_sub-self c =
    let p = c.requires in
    rw (c.cost_from.ensures, c.row_at-at.ensures)
    (omega (arith, cost_low p.0 p.1 c.loop-j.invariant.entering _ c.in-Some.ensures.steps.0.is_in))

pub bounds-self-j : goal.bounds-self-j
bounds-self-j c =
    let p = c.requires in
    omega (arith, lot_few p.0 p.1, call_few p.0 p.1 c.loop-j.invariant.entering _ c.in-Some.ensures.steps.0.is_in)

pub loop-j-preserved : goal.loop-j-preserved
loop-j-preserved c =
    let p = c.requires in
    let (low, _, gone) = c.in-Some.ensures.steps in
    record {
      entering = rw (c.cost_from.ensures, c.row_at-at.ensures) (entering_one p.0 p.1 c.loop-j.invariant.entering _ low.is_in gone);
      words_stay = c.loop-j.invariant.words_stay;
      counts_stay = c.loop-j.invariant.counts_stay;
    }

pub returns-clause-filled : goal.returns-clause-filled
returns-clause-filled c =
    let p = c.requires in
    let (e, _) = c.in-None.ensures.steps in
    rw c.loop-j.invariant.words_stay
    (filled_more p.2 (lot_few p.0 p.1) (entering_all p.0 p.1 (rw e at c.loop-j.invariant.entering))
    (c.cost_at-word.ensures ∙ rw c.row_at-at.ensures (word_is p.0 p.1)))
