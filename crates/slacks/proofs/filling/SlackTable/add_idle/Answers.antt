-- With the idle call as many pairs more are eligible as there are lots.
use Rattle.std.proofs.Common.{arith}
use Rattle.transport.proofs.Finder.Same.{size_of_same}
use Rattle.transport.proofs.Finder.Idle.{idle_size}
use Rattle.specification.specs.Costs.{cost_limit}
use Rattle.slacks.specs.Slacks.{by_slacks}
use Rattle.slacks.proofs.BySlacks.{size_few}
use Rattle.slacks.proofs.filling.SlackTable.add_idle.Goals as goal

pub overflow_add-self-2 : goal.overflow_add-self-2
overflow_add-self-2 c = let t = c.args.self.now in omega (arith, size_few t.are, t.are.lots_few, t.counted)

pub invariant_of-self : goal.invariant_of-self
invariant_of-self c =
    let t = c.args.self.now in
    let (slacks, words) = c.add_idle.ensures.slacks in
    record {
      are = slacks;
      eligible = words;
      counted = omega (arith, t.counted, idle_size cost_limit (by_slacks t.slacks t.lots t.calls), size_of_same c.add_idle.ensures.same);
    }
