-- `placer::printed_text` meets its contract: the answer and the flow of finding and running are rendered with the book's own counts.
use Rattle.std.proofs.Common.{rules, sym, ◌∙◌, take}
use Rattle.std.proofs.lemmas.List.{take_min}
use Rattle.specification.specs.Book.{problem_of}
use Rattle.specification.specs.Text.{book_most, amounts_most, printed}
use Rattle.placer.proofs.Printing.{counts_fit}
use Rattle.placer.proofs.printed_text.Goals as goal

pub render-requires : goal.render-requires
render-requires c = search (rules, counts_fit _ _ _ _ c.find_and_run-answer.ensures.result_value)

pub returns : goal.returns
unfolding printed problem_of
returns c =
    let book = take_min book_most c.args.book.now in
    let amounts = take_min amounts_most c.args.amounts.now in
    let ran = c.find_and_run-answer.ensures in
    c.render.ensures (problem_of (take c.min.result c.args.book.now)) (sym c.counts_at.ensures.0) (sym c.counts_at.ensures.1)
    ∙ rw (ran.result_value, ran.flow_after, c.min.ensures, c.min-2.ensures, book, amounts)
