-- A flow that is too short is 17, a search that answers nothing is 13, and else the array's front is the file of the order found (`Found`), by
-- which `run_by` runs as it should (`Placing`).
use Rattle.std.proofs.Common.{◌≡◌, ℕ, ◌+◌, ◌*◌, ◌≤◌, Bool, List, Option, Some, sym, arith, rules}
use Rattle.std.proofs.lemmas.Result.{err_from_is_err_and}
use lib.Seq.{length-take-le}
use Rattle.transport.specs.Finder.{find}
use Rattle.specification.specs.declared.Refusal.{Refusal}
use Rattle.book.specs.declared.Book.{Book}
use Rattle.book.proofs.Readable.{counts_are}
use Rattle.remaining.specs.declared.Remaining.{Remaining}
use Rattle.remaining.proofs.Loading.{too_short, long_enough}
use Rattle.finder.specs.Searched.{searched}
use Rattle.finder.specs.Writing.{Orders}
use Rattle.finder.proofs.Books.{searched_within}
use Rattle.placer.specs.Placing.{Supplied}
use Rattle.placer.proofs.Found.{IsFile, none_found, file_found}
use Rattle.placer.proofs.Placing.{few, places_17, places_13, run_accepted, run_places}
use Rattle.placer.proofs.find_then_run.Goals as goal

-- the search of a book that was read has answered a count of pairs
module _ (b : Book) (idle : Bool) (buffer after : List ℕ) {answer : Option ℕ} {count : ℕ}
    (ran : Orders (find (searched idle b.bytes.now)) answer buffer after) (is : answer ≡ Some count) where
  file : IsFile (searched idle b.bytes.now) after count
  file = file_found _ _ after _ ran count is

  few_pairs : {r : Remaining 32} → Supplied b.counts.lots b.counts.calls idle r → count ≤ 1024
  few_pairs given = few _ _ _ b.readable _ _ given _ _ file

pub returns-then-flow-cells : goal.returns-then-flow-cells
returns-then-flow-cells c a b holds =
    places_17 _ _ a b _ (too_short _ _ c.args.book.now.readable c.args.flow.now (rw c.cells.ensures at c.if-flow-cells.true))

pub find_by-requires-clause-long_enough : goal.find_by-requires-clause-long_enough
find_by-requires-clause-long_enough c =
    let all = searched_within (counts_are _ (sym c.args.book.now.readable)) c.args.idle c.requires.room in
    omega arith

pub returns-in_err-count : goal.returns-in_err-count
returns-in_err-count c a b holds =
    let p = err_from_is_err_and c.from_residual.result c.from_residual.ensures.1 in
    let none = c.in_err-count.ensures.ok_part in
    let value = rw none at c.in_err-count.ensures.value in
    let is : p.0 ≡ Refusal.NoOrder = cc in
    rw (p.1, is) (places_13 _ _ a b _ (long_enough _ _ c.args.book.now.readable c.args.flow.now (rw c.cells.ensures at c.if-flow-cells.false))
    (none_found _ _ c.find_by.new.buffer _ c.find_by.ensures none))

pub overflow_mul-order : goal.overflow_mul-order
overflow_mul-order c = omega (arith, few_pairs c.args.book.now _ _ _ c.find_by.ensures c.in_ok-count.ensures.ok_part c.requires)

pub overflow_add-order : goal.overflow_add-order
overflow_add-order c = omega (arith, few_pairs c.args.book.now _ _ _ c.find_by.ensures c.in_ok-count.ensures.ok_part c.requires)

pub slice_bounds-order-end : goal.slice_bounds-order-end
slice_bounds-order-end c =
    let f = few_pairs c.args.book.now _ _ _ c.find_by.ensures c.in_ok-count.ensures.ok_part c.requires in
    search rules

pub slice_bounds-pairs-end : goal.slice_bounds-pairs-end
slice_bounds-pairs-end c =
    let f = few_pairs c.args.book.now _ _ _ c.find_by.ensures c.in_ok-count.ensures.ok_part c.requires in
    sym (length-take-le _ _ (omega arith))

pub invariant_of-pairs : goal.invariant_of-pairs
invariant_of-pairs c =
    let f = few_pairs c.args.book.now _ _ _ c.find_by.ensures c.in_ok-count.ensures.ok_part c.requires in
    let front = length-take-le (7 + 2 * c.in_ok-count.count) c.find_by.new.buffer (omega arith) in
    record { room = omega arith }

pub run_by-requires : goal.run_by-requires
run_by-requires c =
    let found = file c.args.book.now _ _ _ c.find_by.ensures c.in_ok-count.ensures.ok_part in
    run_accepted _ _ _ c.args.book.now.readable _ _ c.requires _ _ found c.args.flow.now (rw c.cells.ensures at c.if-flow-cells.false)

pub returns : goal.returns
returns c =
    let found = file c.args.book.now _ _ _ c.find_by.ensures c.in_ok-count.ensures.ok_part in
    run_places _ _ _ c.args.book.now.readable _ _ c.requires _ _ found c.args.flow.now (rw c.cells.ensures at c.if-flow-cells.false) _ _ c.run_by.ensures
