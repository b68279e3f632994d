use Rattle.std.proofs.Common.{sym, refl}
use Rattle.std.proofs.lemmas.Result.{err_from_is_err_and}
use Rattle.specification.specs.Book.{read_book}
use Rattle.specification.proofs.Replies.{said_of_given}
use Rattle.specification.proofs.Books.{head_says}
use Rattle.files.proofs.Parts.{rest_is}
use Rattle.book.proofs.read_book.Goals as goal

pub returns-in_err-counts : goal.returns-in_err-counts
unfolding read_book
returns-in_err-counts c =
    let p = err_from_is_err_and c.from_residual.result c.from_residual.ensures.1 in
    rw (p.1, p.2, ← c.in_err-counts.ensures) refl

pub slice_bounds-read_rows-count : goal.slice_bounds-read_rows-count
slice_bounds-read_rows-count c = (said_of_given (head_says _) _ (sym c.in_ok-counts.ensures)).1.opened.seven

pub slice_bounds-read_rows-start : goal.slice_bounds-read_rows-start
slice_bounds-read_rows-start c = (said_of_given (head_says _) _ (sym c.in_ok-counts.ensures)).1.opened.seven

pub returns-in_err-read_rows : goal.returns-in_err-read_rows
unfolding read_book
returns-in_err-read_rows c =
    let p = err_from_is_err_and c.from_residual-in_err-read_rows.result c.from_residual-in_err-read_rows.ensures.1 in
    let rows = rw (rest_is, c.version_of.ensures) at c.in_err-read_rows.ensures in
    rw (p.1, p.2, ← c.in_ok-counts.ensures, ← rows) refl

pub returns : goal.returns
unfolding read_book
returns c = let rows = rw (rest_is, c.version_of.ensures) at c.in_ok-read_rows.ensures in rw (← c.in_ok-counts.ensures, ← rows) refl
