use Rattle.std.proofs.Common.{arith, refl}
use Rattle.specification.specs.Book.{row_start}
use Rattle.specification.proofs.Starts.{start_next}
use Rattle.book.proofs.Readable.{row_fits}
use Rattle.book.proofs.Rows.{part_is_row}
use Rattle.book.proofs.Book.row_at.Goals as goal

pub loop-init : goal.loop-init
unfolding row_start
loop-init c = refl

pub slice_bounds-size-count : goal.slice_bounds-size-count
slice_bounds-size-count c = let b = c.args.self.now in omega (arith, c.loop.invariant, row_fits _ b.counts b.readable c.loop.counter (omega arith))

pub slice_bounds-size-start : goal.slice_bounds-size-start
slice_bounds-size-start c = let b = c.args.self.now in omega (arith, c.loop.invariant, row_fits _ b.counts b.readable c.loop.counter (omega arith))

pub overflow_add-at : goal.overflow_add-at
overflow_add-at c =
    let b = c.args.self.now in
    omega (arith, c.loop.invariant, rw (part_is_row _ _ c.loop.invariant) at c.size-at.ensures, row_fits _ b.counts b.readable c.loop.counter (omega arith))

pub loop-preserved : goal.loop-preserved
loop-preserved c = rw (rw (part_is_row _ _ c.loop.invariant) at c.size-at.ensures, start_next, c.loop.invariant)
