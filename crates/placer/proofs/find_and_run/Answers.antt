-- Book and amounts that are refused are refused, and else `find_then_run` is what is asked (`plain_is`).
use Rattle.std.proofs.Common.{refl, sym, ◌∙◌, arith}
use Rattle.std.proofs.lemmas.Result.{err_from_is_err_and}
use mathlib.Core.Bool.{false≢true}
use Rattle.specification.specs.Find.{found_to_run, find_and_run, find_and_run_flow}
use Rattle.remaining.proofs.Loading.{can_load, lots_fit, loaded_holds}
use Rattle.placer.proofs.Placing.{plain_is}
use Rattle.placer.proofs.find_and_run.Goals as goal

pub returns-in_err-book : goal.returns-in_err-book
unfolding find_and_run found_to_run find_and_run_flow
returns-in_err-book c =
    let p = err_from_is_err_and c.from_residual.result c.from_residual.ensures.1 in
    let refused = sym c.in_err-book.ensures.counts in
    record { result_value = rw (p.1, p.2) (simp refused refl); flow_after = simp refused refl }

pub load-remaining-requires : goal.load-remaining-requires
load-remaining-requires c =
    let b = c.in_ok-book.book in
    let read = sym (rw (← c.in_ok-book.ensures.bytes) at c.in_ok-book.ensures.counts) in
    let (lots, calls, reserved) = can_load _ _ b.readable c.args.amounts.now read in
    (omega arith, (omega arith, lots, calls, reserved))

pub find_then_run-requires : goal.find_then_run-requires
find_then_run-requires c =
    let b = c.in_ok-book.book in
    let read = sym (rw (← c.in_ok-book.ensures.bytes) at c.in_ok-book.ensures.counts) in
    record { room = λ e. absurd (false≢true e); fits = lots_fit _ _ b.readable c.args.amounts.now read c.load-remaining.ensures }

pub returns : goal.returns
returns c =
    let b = c.in_ok-book.book in
    let read = sym (rw (← c.in_ok-book.ensures.bytes) at c.in_ok-book.ensures.counts) in
    let placed = c.find_then_run.ensures _ _ (loaded_holds _ _ b.readable c.args.amounts.now read c.load-remaining.ensures) in
    let same = plain_is _ _ c.args.flow.now _ read in
    rw (← c.in_ok-book.ensures.bytes) (record { result_value = placed.0 ∙ sym same.0; flow_after = placed.1 ∙ sym same.1 })
