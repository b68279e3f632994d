-- At each way out the tests that led there say which line of `run_order` refuses, and past them `run_by` is given what it asks (`accepted`)
-- and does what is specified (`as_specified`).
use Rattle.std.proofs.Common.{refl, sym, arith}
use Rattle.std.proofs.lemmas.Result.{err_from_is_err_and}
use Rattle.specification.specs.Amounts.{read_amounts}
use Rattle.specification.specs.Check.{check_order}
use Rattle.specification.specs.Run.{run_order, run_flow}
use Rattle.remaining.proofs.Loading.{sizes_within, can_load, too_short, read_with}
use Rattle.run.proofs.Supplied.{accepted, as_specified}
use Rattle.run.proofs.run_order.Goals as goal

pub returns-in_default-clause-result_value : goal.returns-in_default-clause-result_value
unfolding run_order check_order
returns-in_default-clause-result_value c = simp (sym (rw c.unwrap_err.ensures at c.read_book-answer.ensures)) refl

pub returns-in_default-clause-flow_after : goal.returns-in_default-clause-flow_after
unfolding run_order run_flow check_order
returns-in_default-clause-flow_after c = simp (sym (rw c.unwrap_err.ensures at c.read_book-answer.ensures)) refl

pub returns-in_err-pairs-clause-result_value : goal.returns-in_err-pairs-clause-result_value
unfolding run_order
returns-in_err-pairs-clause-result_value c =
    let p = err_from_is_err_and c.from_residual.result c.from_residual.ensures.1 in
    rw (p.1, p.2) (simp (sym c.in_err-pairs.ensures.count) refl)

pub returns-in_err-pairs-clause-flow_after : goal.returns-in_err-pairs-clause-flow_after
unfolding run_order run_flow
returns-in_err-pairs-clause-flow_after c = simp (sym c.in_err-pairs.ensures.count) refl

pub read_of-requires : goal.read_of-requires
read_of-requires c = sizes_within _ _ (sym c.in-Ok.ensures)

pub returns-in_err-read_of-clause-result_value : goal.returns-in_err-read_of-clause-result_value
unfolding run_order read_amounts
returns-in_err-read_of-clause-result_value c =
    let p = err_from_is_err_and c.from_residual-in_err-read_of.result c.from_residual-in_err-read_of.ensures.1 in
    rw (p.1, p.2) (simp (sym c.in_ok-pairs.ensures.count, sym c.in-Ok.ensures, sym c.in_err-read_of.ensures) refl)

pub returns-in_err-read_of-clause-flow_after : goal.returns-in_err-read_of-clause-flow_after
unfolding run_order run_flow read_amounts
returns-in_err-read_of-clause-flow_after c = simp (sym c.in_ok-pairs.ensures.count, sym c.in-Ok.ensures, sym c.in_err-read_of.ensures) refl

pub returns-then-flow-cells-clause-result_value : goal.returns-then-flow-cells-clause-result_value
unfolding run_order
returns-then-flow-cells-clause-result_value c =
    let reads = sym c.in-Ok.ensures in
    let read = read_with c.args.book.now _ reads c.args.amounts.now _ (sym c.in_ok-read_of.ensures) in
    simp (sym c.in_ok-pairs.ensures.count, read, too_short _ _ reads c.args.flow.now (rw c.cells.ensures at c.if-flow-cells.true)) refl

pub returns-then-flow-cells-clause-flow_after : goal.returns-then-flow-cells-clause-flow_after
unfolding run_order run_flow
returns-then-flow-cells-clause-flow_after c =
    let reads = sym c.in-Ok.ensures in
    let read = read_with c.args.book.now _ reads c.args.amounts.now _ (sym c.in_ok-read_of.ensures) in
    simp (sym c.in_ok-pairs.ensures.count, read, too_short _ _ reads c.args.flow.now (rw c.cells.ensures at c.if-flow-cells.true)) refl

pub load-remaining-requires : goal.load-remaining-requires
load-remaining-requires c =
    let reads = sym c.in-Ok.ensures in
    let read = read_with c.args.book.now _ reads c.args.amounts.now _ (sym c.in_ok-read_of.ensures) in
    let (lots, calls, reserved) = can_load _ _ reads _ read in
    (omega arith, (omega arith, lots, calls, reserved))

pub run_by-requires : goal.run_by-requires
run_by-requires c =
    let reads = sym c.in-Ok.ensures in
    let passes = sym (rw (← c.in_ok-pairs.ensures.order) at c.in_ok-pairs.ensures.count) in
    let read = read_with c.args.book.now _ reads c.args.amounts.now _ (sym c.in_ok-read_of.ensures) in
    accepted _ _ reads _ _ c.args.flow.now _ passes read (rw c.cells.ensures at c.if-flow-cells.false) _ c.load-remaining.ensures

pub returns-clause-result_value : goal.returns-clause-result_value
returns-clause-result_value c =
    let reads = sym c.in-Ok.ensures in
    let passes = sym (rw (← c.in_ok-pairs.ensures.order) at c.in_ok-pairs.ensures.count) in
    let read = read_with c.args.book.now _ reads c.args.amounts.now _ (sym c.in_ok-read_of.ensures) in
    rw (← c.in_ok-pairs.ensures.order) (as_specified _ _ reads _ _ c.args.flow.now _ passes read (rw c.cells.ensures at c.if-flow-cells.false) _ c.load-remaining.ensures _ _ c.run_by.ensures).0

pub returns-clause-flow_after : goal.returns-clause-flow_after
returns-clause-flow_after c =
    let reads = sym c.in-Ok.ensures in
    let passes = sym (rw (← c.in_ok-pairs.ensures.order) at c.in_ok-pairs.ensures.count) in
    let read = read_with c.args.book.now _ reads c.args.amounts.now _ (sym c.in_ok-read_of.ensures) in
    rw (← c.in_ok-pairs.ensures.order) (as_specified _ _ reads _ _ c.args.flow.now _ passes read (rw c.cells.ensures at c.if-flow-cells.false) _ c.load-remaining.ensures _ _ c.run_by.ensures).1
