-- The loop of `rows::all_within`: the flag says whether every number passed is within the limit.
use Rattle.std.proofs.Common.{◌≡◌, ◌+◌, ◌*◌, leb}
use Rattle.transport.specs.Finder.{every}
use Rattle.specification.specs.Bytes.{u32_at}
use Rattle.specification.specs.Costs.{lifted_cost}
use Rattle.rows.proofs.all_within.Given as goal

abbrev pub invariant-loop-k : goal.invariant-loop-k
invariant-loop-k l = l.within ≡ every l.k (λ i. leb (lifted_cost l.base (u32_at l.s (l.start + 4 * i))) l.limit)
