use Rattle.std.proofs.Common.{refl, sym}
use Rattle.std.proofs.lemmas.Result.{err_from_is_err_and}
use Rattle.specification.specs.Panel.{find_and_run_panel, find_and_run_panel_flow}
use Rattle.placer.proofs.Placing.{panel_few}
use Rattle.placer.proofs.find_and_run_panel.Goals as goal

pub returns-in_err-read_panel : goal.returns-in_err-read_panel
unfolding find_and_run_panel find_and_run_panel_flow
returns-in_err-read_panel c =
    let p = err_from_is_err_and c.from_residual.result c.from_residual.ensures.1 in
    rw (p.1, p.2, ← c.in_err-read_panel.ensures) (record { result_value = refl; flow_after = refl })

pub find_and_run_within-requires : goal.find_and_run_within-requires
find_and_run_within-requires c = panel_few _ _ (sym c.in_ok-read_panel.ensures)

pub returns : goal.returns
unfolding find_and_run_panel find_and_run_panel_flow
returns c = rw (← c.in_ok-read_panel.ensures) c.find_and_run_within.ensures
