-- `panel_table::gaps::renew`: the lot's row is that of the words worked out.
use Rattle.std.proofs.Common.{arith, subst, get_or}
use Rattle.std.proofs.lemmas.Grind.{common_steps}
use Rattle.panel_table.specs.Gaps.{LeastCalls}
use Rattle.panel_table.proofs.gaps.renew.Goals as goal

pub returns : goal.returns
returns c = record {
  own = λ k h. subst (LeastCalls c.args.table.now.slacks c.args.left c.args.lot.0 k) {x = get_or c.least_row-words.result k 0}
      (grind (arith, common_steps)) (c.least_row-words.ensures.each k h);
  others = λ g k d h. grind (arith, common_steps);
  long = grind (arith, common_steps);
}
