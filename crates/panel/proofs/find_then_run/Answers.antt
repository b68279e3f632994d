-- `panel::find_then_run`: the filled table states the book's problem, so where no order is found there is none, and where one is found its units
-- and what then remains are those of the definition (`Placing`).
use mathlib.Core.Path.{◌≡◌, refl, ap}
use mathlib.Core.List.{List, ◌++◌}
use Prim.Native.Nat.{ℕ, ◌*◌}
use lib.ListN.{drop}
use native.Mathlib.Omega.{arith}
use Rattle.std.proofs.lemmas.Result.{err_from_is_err_and}
use Rattle.specification.specs.declared.Refusal.{Refusal}
use Rattle.panel.proofs.Placing.{Supplied, loadable, within, searching, refused_13, ended, answered}
use Rattle.panel.proofs.find_then_run.Goals as goal
use Rattle.panel.proofs.find_then_run.Goals.{Start}

given : (c : Start)
    → Supplied c.args.book.now.bytes.now c.args.amounts.now c.args.flow.now c.args.book.now.counts.lots c.args.book.now.counts.calls
given c = record { read = c.requires.read; few_lots = c.requires.few_lots; few_calls = c.requires.few_calls; long = c.requires.long }

pub of-table-requires : goal.of-table-requires
of-table-requires c = within (given (goal.at.of-table-requires c).Start)

pub load-remaining-requires : goal.load-remaining-requires
load-remaining-requires c = (omega arith, loadable (given (goal.at.load-remaining-requires c).Start))

pub take_all-requires : goal.take_all-requires
take_all-requires c =
    let g = given (goal.at.take_all-requires c).Start in
    (searching g c.of-table.result c.of-table.ensures.counts.0 c.of-table.ensures.counts.1 c.of-table.ensures.filled c.load-remaining.ensures c.of-table.ensures.total, refl)

pub returns-in_err-taken : goal.returns-in_err-taken
returns-in_err-taken c =
    let none = c.in_err-taken.ensures.ok_part in
    let value = rw none at c.in_err-taken.ensures.value in
    let p = err_from_is_err_and c.from_residual.result c.from_residual.ensures.1 in
    let is : p.0 ≡ Refusal.NoOrder = cc in
    let g = given (goal.at.returns-in_err-taken c).Start in
    let (answer, flow) = refused_13 g c.of-table.result c.of-table.ensures.counts.0 c.of-table.ensures.counts.1 c.of-table.ensures.filled c.load-remaining.ensures _ _ c.take_all.ensures none in
    record { result_value = rw (p.1, is) answer; flow_after = flow }

pub returns : goal.returns
returns c =
    let g = given (goal.at.returns c).Start in
    let end = ended g c.of-table.result c.of-table.ensures.counts.0 c.of-table.ensures.counts.1 c.of-table.ensures.filled c.load-remaining.ensures _ _ c.take_all.ensures c.in_ok-taken.taken c.in_ok-taken.ensures.ok_part in
    let cells = c.cells-cells.result in
    let copied = rw c.cells-cells.ensures at (ap (λ (front : List ℕ). front ++ drop cells c.args.flow.now) c.copy_from_slice.ensures.after) in
    let (answer, flow) = answered g c.of-table.result c.of-table.ensures.counts.0 c.of-table.ensures.counts.1 c.of-table.ensures.filled end c.reply.result _ c.reply.ensures copied in
    rw c.cells-cells.ensures (record { result_value = answer; flow_after = flow })
