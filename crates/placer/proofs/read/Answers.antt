-- `placer::read`: the amounts are read by the counts of the book that was read, so what it answers is what reading amounts with their book is.
use Rattle.std.proofs.Common.{refl, sym}
use Rattle.std.proofs.lemmas.Result.{err_from_is_err_and}
use Rattle.specification.specs.Amounts.{read_amounts}
use Rattle.remaining.proofs.Loading.{sizes_within, read_with}
use Rattle.placer.proofs.read.Goals as goal

pub returns-in_default-clause-counts : goal.returns-in_default-clause-counts
unfolding read_amounts
returns-in_default-clause-counts c = simp (sym (rw c.unwrap_err.ensures at c.read_book-answer.ensures)) refl

pub read_of-requires : goal.read_of-requires
read_of-requires c = sizes_within _ _ (sym c.in-Ok.ensures)

pub returns-in_err-read_of-clause-counts : goal.returns-in_err-read_of-clause-counts
unfolding read_amounts
returns-in_err-read_of-clause-counts c =
    let p = err_from_is_err_and c.from_residual.result c.from_residual.ensures.1 in
    rw (p.1, p.2) (simp (sym c.in-Ok.ensures, sym c.in_err-read_of.ensures) refl)

pub returns-clause-counts : goal.returns-clause-counts
returns-clause-counts c = sym (read_with c.args.book.now _ (sym c.in-Ok.ensures) c.args.amounts.now _ (sym c.in_ok-read_of.ensures))
