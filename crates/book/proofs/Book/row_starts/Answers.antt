use Rattle.std.proofs.Common.{arith, ◌≡◌, refl, sym, ◌∙◌, below_more, get_or-set_other, get_or-set_same, length-set}
use Rattle.std.proofs.lemmas.List.{length-take-le, get_or_append_left}
use Rattle.specification.specs.Book.{row_start}
use Rattle.specification.proofs.Starts.{start_next}
use Rattle.book.proofs.Readable.{row_fits, lots_few}
use Rattle.book.proofs.Rows.{part_is_row}
use Rattle.book.proofs.Book.row_starts.Goals as goal

pub slice_bounds-starts-end : goal.slice_bounds-starts-end
slice_bounds-starts-end c = let b = c.args.self.now in lots_few _ b.counts b.readable

pub slice_bounds-start-items-end : goal.slice_bounds-start-items-end
slice_bounds-start-items-end c = let b = c.args.self.now in sym (length-take-le b.counts.lots _ (lots_few _ b.counts b.readable))

pub loop-start-init : goal.loop-start-init
unfolding row_start
loop-start-init c = let b = c.args.self.now in record { long = length-take-le b.counts.lots _ (lots_few _ b.counts b.readable); at_row = refl; entered = λ k h. absurd (omega arith) }

pub slice_bounds-size-count : goal.slice_bounds-size-count
slice_bounds-size-count c = let b = c.args.self.now in omega (arith, c.loop-start.invariant.long, c.loop-start.invariant.at_row, row_fits _ b.counts b.readable c.loop-start.start-index (omega arith))

pub slice_bounds-size-start : goal.slice_bounds-size-start
slice_bounds-size-start c = let b = c.args.self.now in omega (arith, c.loop-start.invariant.long, c.loop-start.invariant.at_row, row_fits _ b.counts b.readable c.loop-start.start-index (omega arith))

pub overflow_add-at : goal.overflow_add-at
overflow_add-at c =
    let b = c.args.self.now in
    omega (arith, c.loop-start.invariant.long, c.loop-start.invariant.at_row, rw (part_is_row _ _ c.loop-start.invariant.at_row) at c.size-at.ensures, row_fits _ b.counts b.readable c.loop-start.start-index (omega arith))

pub loop-start-preserved : goal.loop-start-preserved
loop-start-preserved c =
    let b = c.args.self.now in
    let l = c.loop-start in
    record {
      long = simp length-set l.invariant.long;
      at_row = rw (rw (part_is_row _ _ l.invariant.at_row) at c.size-at.ensures, start_next, l.invariant.at_row);
      entered =
          below_more _ l.start-index
          (λ k h. get_or-set_other l.start-items l.start-index k l.at 0 (λ (q : k ≡ l.start-index). omega arith) ∙ l.invariant.entered k h)
          (get_or-set_same l.start-items l.start-index l.at 0 (omega arith) ∙ l.invariant.at_row);
    }

pub returns : goal.returns
returns c = λ i h. get_or_append_left c.loop-start.start-items _ 0 i (omega arith) ∙ c.loop-start.invariant.entered i (omega arith)
