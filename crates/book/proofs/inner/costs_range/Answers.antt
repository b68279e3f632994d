use Rattle.std.proofs.Common.{arith, ◌≡◌, ◌+◌, ◌*◌, ◌-◌, ℕ, List, take, drop, refl, sym}
use borrow.Author.Tests.{lt-ltb, le-ltb}
use lib.Count.{ones}
use lib.Seq.{drop-drop}
use Rattle.specification.specs.Book.{row_word, row_size, row_at, row_start, lot_costs}
use Rattle.specification.proofs.Starts.{row_is}
use Rattle.book.proofs.Readable.{row_fits}
use Rattle.book.proofs.Rows.{part_is_row}
use Rattle.book.proofs.inner.costs_range.Goals as goal

-- the part of the book in this range is the lot's costs
stretch : (book : List ℕ) (i at size : ℕ) → at ≡ row_start book i → size ≡ row_size (row_at book i)
    → take ((at + size) - (at + 4)) (drop (at + 4) book) ≡ take (4 * ones (row_word (row_at book i))) (drop 4 (row_at book i))
stretch book i at size e f =
    let long : (at + size) - (at + 4) ≡ 4 * ones (row_word (row_at book i)) = omega arith in
    let follows : drop 4 (row_at book i) ≡ drop (at + 4) book = rw (row_is, drop-drop, e) in
    rw (long, follows)

-- the row of the lot stands in the book
pub overflow_add-result : goal.overflow_add-result
overflow_add-result c =
    omega (arith, rw c.in-Ok.ensures.bytes at c.row_at-at.ensures, row_fits _ _ (sym c.in-Ok.ensures.counts) c.args.lot.0 c.if-read-lot.false)

pub slice_bounds-size-count : goal.slice_bounds-size-count
slice_bounds-size-count c =
    omega (arith, rw c.in-Ok.ensures.bytes at c.row_at-at.ensures, row_fits _ _ (sym c.in-Ok.ensures.counts) c.args.lot.0 c.if-read-lot.false)

pub slice_bounds-size-start : goal.slice_bounds-size-start
slice_bounds-size-start c =
    omega (arith, rw c.in-Ok.ensures.bytes at c.row_at-at.ensures, row_fits _ _ (sym c.in-Ok.ensures.counts) c.args.lot.0 c.if-read-lot.false)

pub overflow_add-result-2 : goal.overflow_add-result-2
overflow_add-result-2 c =
    let at : c.row_at-at.result ≡ row_start c.args.book.now c.args.lot.0 = rw c.in-Ok.ensures.bytes at c.row_at-at.ensures in
    omega (arith, at, rw (part_is_row _ _ at) at c.size.ensures, row_fits _ _ (sym c.in-Ok.ensures.counts) c.args.lot.0 c.if-read-lot.false)

pub returns-clause-inside : goal.returns-clause-inside
returns-clause-inside c =
    let at : c.row_at-at.result ≡ row_start c.args.book.now c.args.lot.0 = rw c.in-Ok.ensures.bytes at c.row_at-at.ensures in
    let size = rw (part_is_row _ _ at) at c.size.ensures in
    let fits = row_fits _ _ (sym c.in-Ok.ensures.counts) c.args.lot.0 c.if-read-lot.false in
    (omega (arith, size), omega (arith, at, size, fits))

pub returns-clause-costs : goal.returns-clause-costs
unfolding lot_costs
returns-clause-costs c =
    let at : c.row_at-at.result ≡ row_start c.args.book.now c.args.lot.0 = rw c.in-Ok.ensures.bytes at c.row_at-at.ensures in
    simp (sym c.in-Ok.ensures.counts, lt-ltb _ _ c.if-read-lot.false) (stretch _ _ _ _ at (rw (part_is_row _ _ at) at c.size.ensures))

-- of a lot outside the book, and of a refused book, there are none
pub returns-then-read-lot-clause-costs : goal.returns-then-read-lot-clause-costs
unfolding lot_costs
returns-then-read-lot-clause-costs c = simp (sym c.in-Ok.ensures.counts, le-ltb _ _ c.if-read-lot.true)

pub returns-in_default-clause-costs : goal.returns-in_default-clause-costs
unfolding lot_costs
returns-in_default-clause-costs c = rw (← c.in_default.ensures.counts) refl
