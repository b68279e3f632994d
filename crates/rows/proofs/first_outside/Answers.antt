use Rattle.std.proofs.Common.{arith, ◌≡◌, ◌+◌, ◌∙◌, true, false, ◌&&◌, sym, ap}
use Rattle.specification.specs.Bytes.{u32_at}
use Rattle.specification.specs.Costs.{cost_outside}
use Rattle.specification.specs.Book.{bit, row_word, row_cost}
use Rattle.rows.proofs.Bits.{ones_below_set, ones_below_unset, ones_below_all}
use Rattle.rows.proofs.Costs.{costs_step, costs_end}
use Rattle.rows.proofs.first_outside.Goals as goal
use Rattle.rows.proofs.first_outside.Goals.{then-is_set+else-outside, else-is_set}

pub u32_in-requires : goal.u32_in-requires
u32_in-requires c = grind (arith, ones_below_set (row_word c.args.row.now) c.loop-j.j, ones_below_all (row_word c.args.row.now) (c.loop-j.j + 1))

pub returns-then-outside : goal.returns-then-outside
returns-then-outside c =
    let cost : c.u32_in.result ≡ row_cost c.args.row.now c.loop-j.j = c.u32_in.ensures ∙ ap (u32_at c.args.row.now) c.loop-j.invariant.at_cost in
    let high : bit (row_word c.args.row.now) c.loop-j.j && cost_outside c.args.version (row_cost c.args.row.now c.loop-j.j) ≡ true = grind (arith, cost) in
    sym (c.loop-j.invariant.same_reply ∙ costs_step _ _ _ _ _ c.loop-j-test.true high)

pub loop-j-preserved : goal.loop-j-preserved
loop-j-preserved c =
    let row = c.args.row.now in
    let j = c.loop-j.j in
    elim c.if-is_set.branch [
      | then-is_set+else-outside w ↦
          let cost : w.u32_in.result ≡ row_cost row j = w.u32_in.ensures ∙ ap (u32_at row) c.loop-j.invariant.at_cost in
          let low : bit (row_word row) j && cost_outside c.args.version (row_cost row j) ≡ false = grind (arith, cost) in
          record {
            at_cost = grind (arith, ones_below_set (row_word row) j);
            same_reply = c.loop-j.invariant.same_reply ∙ costs_step _ _ _ _ _ c.loop-j-test.true low;
          }
      | else-is_set w ↦
          let low : bit (row_word row) j && cost_outside c.args.version (row_cost row j) ≡ false = grind arith in
          record {
            at_cost = grind (arith, ones_below_unset (row_word row) j);
            same_reply = c.loop-j.invariant.same_reply ∙ costs_step _ _ _ _ _ c.loop-j-test.true low;
          }
    ]

pub returns : goal.returns
returns c = sym (c.loop-j.invariant.same_reply ∙ costs_end _ _ _ _ _ c.loop-j-test.false)
