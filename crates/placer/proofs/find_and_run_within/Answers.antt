-- Where book and amounts are read and the flow is long enough the panel's own search is what is asked.
use Rattle.std.proofs.Common.{refl, sym, ◌∙◌, arith}
use Rattle.std.proofs.lemmas.Result.{err_from_is_err_and}
use Rattle.specification.specs.Book.{problem_of}
use Rattle.specification.specs.Find.{found_to_run, find_and_run, find_and_run_flow}
use Rattle.book.proofs.Readable.{read_is}
use Rattle.remaining.proofs.Loading.{too_short}
use Rattle.placer.proofs.Placing.{places_17, plain_is}
use Rattle.placer.proofs.find_and_run_within.Goals as goal

pub returns-in_err-book : goal.returns-in_err-book
unfolding find_and_run found_to_run find_and_run_flow
returns-in_err-book c =
    let p = err_from_is_err_and c.from_residual.result c.from_residual.ensures.1 in
    let refused = sym c.in_err-book.ensures.counts in
    record { result_value = rw (p.1, p.2) (simp refused refl); flow_after = simp refused refl }

pub returns-then-flow-cells : goal.returns-then-flow-cells
returns-then-flow-cells c =
    let b = c.in_ok-book.book in
    let book = b.bytes.now in
    let read = sym (rw (← c.in_ok-book.ensures.bytes) at c.in_ok-book.ensures.counts) in
    let short = too_short _ _ b.readable c.args.flow.now (rw c.cells.ensures at c.if-flow-cells.true) in
    let placed = places_17 book (problem_of book) _ _ c.args.flow.now short in
    let same = plain_is _ _ c.args.flow.now _ read in
    rw (← c.in_ok-book.ensures.bytes) (record { result_value = placed.0 ∙ sym same.0; flow_after = placed.1 ∙ sym same.1 })

pub find_then_run-requires-clause-read : goal.find_then_run-requires-clause-read
find_then_run-requires-clause-read c = sym (rw (← c.in_ok-book.ensures.bytes) at c.in_ok-book.ensures.counts)

pub find_then_run-requires-clause-few_lots : goal.find_then_run-requires-clause-few_lots
find_then_run-requires-clause-few_lots c = let b = c.in_ok-book.book in omega (arith, rw c.in_ok-book.ensures.bytes at (read_is _ _ b.readable).lots_is, c.requires.0)

pub find_then_run-requires-clause-few_calls : goal.find_then_run-requires-clause-few_calls
find_then_run-requires-clause-few_calls c = let b = c.in_ok-book.book in omega (arith, rw c.in_ok-book.ensures.bytes at (read_is _ _ b.readable).calls_is, c.requires.1)
