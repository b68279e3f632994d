-- The entries passed are what the lots hold less their reserves, and those to come what they hold.
use Rattle.std.proofs.Common.{◌≡◌, ℕ, ◌≤◌, ◌<◌, get_or, length}
use Rattle.specification.specs.Amounts.{amount_at, lot_amount}
use Rattle.amounts.proofs.inner.hold_back.Given as goal

abbrev pub invariant-loop-i : goal.invariant-loop-i
invariant-loop-i l = record {
  passed : (k : ℕ) → k < l.i → get_or l.out k 0 ≡ lot_amount l.amounts k;
  to_come : (k : ℕ) → l.i ≤ k → k < length l.out → get_or l.out k 0 ≡ amount_at l.amounts k;
}
