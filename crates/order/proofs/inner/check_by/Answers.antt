use Rattle.std.proofs.Common.{arith, ◌≡◌, ◌∙◌, ℕ, ◌+◌, ◌*◌, List, length}
use Rattle.std.proofs.lemmas.Result.{err_from_is_err_and}
use Rattle.specification.specs.Reply.{Size, gives}
use Rattle.specification.specs.Bytes.{order_mark, read_opening}
use Rattle.specification.specs.Book.{read_book, problem_of}
use Rattle.specification.specs.OrderFile.{order_count}
use Rattle.specification.specs.Check.{check_order}
use Rattle.walk.specs.Places.{rest}
use Rattle.order.specs.Answers.{checked_pairs}
use Rattle.order.proofs.Agreeing.{opening_refused, ends_early, bytes_after, whole_check}
use Rattle.order.proofs.inner.check_by.Goals as goal

pub returns-in_err-read_opening-clause-count : goal.returns-in_err-read_opening-clause-count
returns-in_err-read_opening-clause-count c =
    let b = c.args.book.now in
    let p = err_from_is_err_and c.from_residual.result c.from_residual.ensures.1 in
    rw (p.1, p.2) (opening_refused b.bytes.now c.args.order.now b.counts b.readable _ c.in_err-read_opening.ensures)

pub returns-then-order-size-clause-count : goal.returns-then-order-size-clause-count
returns-then-order-size-clause-count c =
    let b = c.args.book.now in
    ends_early b.bytes.now c.args.order.now b.counts b.readable c.in_ok-read_opening.ensures
    (omega (arith, c.u16_at.ensures, c.from-count.ensures))

pub returns-then-size-order-clause-count : goal.returns-then-size-order-clause-count
returns-then-size-order-clause-count c =
    let b = c.args.book.now in
    bytes_after b.bytes.now c.args.order.now b.counts b.readable c.in_ok-read_opening.ensures
    (omega (arith, c.u16_at.ensures, c.from-count.ensures))

-- past the tests of the file the check is that of its pairs
whole : (book order : List ℕ) (size : Size) → read_book book ≡ gives size → gives tt ≡ read_opening order_mark 1 order → {count : ℕ}
    → count ≡ order_count order → length order ≡ 7 + 2 * count → checked_pairs (problem_of book) (rest order count 0) count ≡ check_order book order
whole book order size reads opens counted long = rw counted (whole_check book order size reads opens (rw counted at long))

pub returns-in_err-check_pairs-clause-count : goal.returns-in_err-check_pairs-clause-count
returns-in_err-check_pairs-clause-count c =
    let b = c.args.book.now in
    let p = err_from_is_err_and c.from_residual-in_err-check_pairs.result c.from_residual-in_err-check_pairs.ensures.1 in
    rw (p.1, p.2) (c.in_err-check_pairs.ensures ∙ whole b.bytes.now c.args.order.now b.counts b.readable c.in_ok-read_opening.ensures
    (c.from-count.ensures ∙ c.u16_at.ensures) (omega arith))

pub returns-clause-count : goal.returns-clause-count
returns-clause-count c =
    let b = c.args.book.now in
    c.in_ok-check_pairs.ensures ∙ whole b.bytes.now c.args.order.now b.counts b.readable c.in_ok-read_opening.ensures
    (c.from-count.ensures ∙ c.u16_at.ensures) (omega arith)
