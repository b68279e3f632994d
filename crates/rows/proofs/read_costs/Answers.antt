use Rattle.std.proofs.Common.{arith, sym, ◌∙◌}
use Rattle.specification.proofs.Numbers.{u32_below}
use Rattle.rows.proofs.Costs.{costs_low}
use Rattle.rows.proofs.read_costs.Goals as goal

pub returns-then-within : goal.returns-then-within
returns-then-within c = sym (costs_low _ _ _ (u32_below c.args.row.now (λ i. omega (arith, c.type_inv.row i))) (rw (c.count.ensures, c.u32_at.ensures) at (sym c.within.ensures ∙ c.if-within.true)) _ _)
