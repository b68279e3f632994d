-- The entries passed are the file's.
use Rattle.std.proofs.Common.{◌≡◌, ℕ, ◌+◌, ◌<◌, get_or}
use Rattle.specification.specs.Amounts.{amount_at}
use Rattle.amounts.proofs.inner.amounts_into.Given as goal

abbrev pub invariant-loop-k : goal.invariant-loop-k
invariant-loop-k l = (i : ℕ) → i < l.k → get_or l.out i 0 ≡ amount_at l.amounts (l.first + i)
