use Rattle.std.proofs.Common.{arith, sym, ap, ◌∙◌, length-drop}
use Rattle.std.proofs.lemmas.Result.{err_from_is_err_and}
use borrow.Author.Tests.{lt-ltb, le-ltb}
use lib.Seq.{drop-drop}
use Rattle.specification.specs.Book.{read_rows}
use Rattle.specification.proofs.Replies.{said_of_given}
use Rattle.specification.proofs.Rows.{row_says}
use Rattle.files.proofs.Parts.{rest_is}
use Rattle.book.proofs.Rows.{rows_step, rows_end}
use Rattle.book.proofs.read_rows.Goals as goal

pub loop-lot-init : goal.loop-lot-init
loop-lot-init c = record {
  inside = omega arith;
  same_reply = ap (λ n. read_rows c.args.rows.now c.args.version 0 n c.args.counts.calls) (omega arith);
}

pub returns-in_err-read_row : goal.returns-in_err-read_row
returns-in_err-read_row c =
    let p = err_from_is_err_and c.from_residual.result c.from_residual.ensures.1 in
    let row = rw rest_is at (sym c.in_err-read_row.ensures) in
    rw (p.1, p.2) (sym (c.loop-lot.invariant.same_reply ∙ rows_step _ _ _ _ _ c.loop-lot-test.true row))

-- a row that passes stands whole in what is left
pub overflow_add-at : goal.overflow_add-at
overflow_add-at c =
    let row = rw rest_is at (sym c.in_ok-read_row.ensures) in
    let whole = said_of_given (row_says _ _ _ _) _ row in
    omega (arith, rw rest_is at c.size-at.ensures, whole.costs_whole, c.loop-lot.invariant.inside, length-drop c.loop-lot.at c.args.rows.now)

pub loop-lot-preserved : goal.loop-lot-preserved
loop-lot-preserved c =
    let row = rw rest_is at (sym c.in_ok-read_row.ensures) in
    let whole = said_of_given (row_says _ _ _ _) _ row in
    let size = rw rest_is at c.size-at.ensures in
    record {
      inside = omega (arith, size, whole.costs_whole, c.loop-lot.invariant.inside, length-drop c.loop-lot.at c.args.rows.now);
      same_reply = rw (size, ← drop-drop) (c.loop-lot.invariant.same_reply ∙ rows_step _ _ _ _ _ c.loop-lot-test.true row);
    }

pub returns-then-at-rows : goal.returns-then-at-rows
returns-then-at-rows c =
    let end = rows_end c.args.version c.args.counts.lots c.loop-lot.lot c.args.counts.calls c.loop-lot.at c.args.rows.now c.loop-lot-test.false in
    sym (c.loop-lot.invariant.same_reply ∙ rw (lt-ltb _ _ c.if-at-rows.true) at end)

pub returns : goal.returns
returns c =
    let end = rows_end c.args.version c.args.counts.lots c.loop-lot.lot c.args.counts.calls c.loop-lot.at c.args.rows.now c.loop-lot-test.false in
    sym (c.loop-lot.invariant.same_reply ∙ rw (le-ltb _ _ c.if-at-rows.false) at end)
