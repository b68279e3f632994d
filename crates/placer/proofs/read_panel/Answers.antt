use Rattle.std.proofs.Common.{arith}
use Rattle.std.proofs.lemmas.Result.{err_from_is_err_and}
use Rattle.specification.specs.Panel.{read_panel}
use Rattle.placer.proofs.read_panel.Goals as goal

pub returns-in_err-head : goal.returns-in_err-head
unfolding read_panel
returns-in_err-head c =
    let p = err_from_is_err_and c.from_residual.result c.from_residual.ensures.1 in
    rw (p.1, p.2, ← c.in_err-head.ensures)

pub returns-then-head-gt8 : goal.returns-then-head-gt8
unfolding read_panel
returns-then-head-gt8 c = grind (arith, c.in_ok-head.ensures)

pub returns : goal.returns
unfolding read_panel
returns c = grind (arith, c.in_ok-head.ensures)
