use Rattle.std.proofs.Common.{arith, refl}
use Rattle.specification.specs.Book.{row_start}
use Rattle.specification.proofs.Starts.{start_next}
use Rattle.specification.proofs.Books.{book_length}
use Rattle.book.proofs.Readable.{read_is, row_fits, lots_few}
use Rattle.book.proofs.Rows.{part_is_row}
use Rattle.book.proofs.Filled.{filled_none, filled_next, filled_all}
use Rattle.book.proofs.Book.offsets.Goals as goal

pub loop-i-init : goal.loop-i-init
unfolding row_start
loop-i-init c = record { at_row = refl; filled = filled_none _ }

pub slice_bounds-row-count : goal.slice_bounds-row-count
slice_bounds-row-count c = let b = c.args.self.now in omega (arith, c.loop-i.invariant.at_row, row_fits _ b.counts b.readable c.loop-i.i (omega arith))

pub slice_bounds-row-start : goal.slice_bounds-row-start
slice_bounds-row-start c = let b = c.args.self.now in omega (arith, c.loop-i.invariant.at_row, row_fits _ b.counts b.readable c.loop-i.i (omega arith))

pub overflow_add-at : goal.overflow_add-at
overflow_add-at c = let b = c.args.self.now in omega (arith, c.loop-i.invariant.at_row, book_length (read_is _ b.counts b.readable).known, row_fits _ b.counts b.readable c.loop-i.i (omega arith))

pub enter_row-requires : goal.enter_row-requires
enter_row-requires c =
    let b = c.args.self.now in
    let inside = row_fits b.bytes.now b.counts b.readable c.loop-i.i (omega arith) in
    (omega (arith, lots_few _ b.counts b.readable), omega (arith, inside, c.loop-i.invariant.at_row, book_length (read_is _ b.counts b.readable).known))

pub overflow_add-at-in-loop-i : goal.overflow_add-at-in-loop-i
overflow_add-at-in-loop-i c =
    let b = c.args.self.now in
    omega (arith, c.loop-i.invariant.at_row, book_length (read_is _ b.counts b.readable).known, rw (part_is_row _ _ c.loop-i.invariant.at_row) at c.size-at.ensures, row_fits _ b.counts b.readable c.loop-i.i (omega arith))

pub loop-i-preserved : goal.loop-i-preserved
loop-i-preserved c =
    let b = c.args.self.now in
    let read = read_is b.bytes.now b.counts b.readable in
    let row = part_is_row b.bytes.now _ c.loop-i.invariant.at_row in
    record {
      at_row = omega (arith, rw row at c.size-at.ensures, start_next b.bytes.now c.loop-i.i, c.loop-i.invariant.at_row);
      filled = filled_next _ read.is_readable _ _ _ (omega (arith, read.lots_is)) c.loop-i.invariant.filled (rw (c.u32_at.ensures, row, c.loop-i.invariant.at_row) at c.enter_row.ensures);
    }

pub returns : goal.returns
returns c =
    let b = c.args.self.now in
    let read = read_is b.bytes.now b.counts b.readable in
    filled_all _ read.is_readable _ _ (omega (arith, read.lots_is, c.loop-i-test.false)) c.loop-i.invariant.filled
