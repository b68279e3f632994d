-- (k) Every call met, with stock to spare (document 02, request 1).
use mathlib.Core.Logic.Iff
use mathlib.Core.Logic.{◌↔◌}
use mathlib.Core.List.{List}
use Prim.Native.Nat.{ℕ}
use Rattle.transport.specs.Problem.{Problem, MeetsCalls}
use Rattle.transport.specs.Greedy.{Pair, greedy}
use Rattle.transport.specs.Order.{OrderOf, Monge}
use Rattle.transport.proofs.Orders.Lists.{lists_of_order}
use Rattle.transport.proofs.Greedy.Given.{NoneLacks, kept_meets_calls, greedy_kept}
use Rattle.transport.proofs.Greedy.Calls.{greedy_covers}

module _ {P : Problem} {S : List Pair} (order : OrderOf P S) where
  -- (k) GREEDY meets every call exactly when no call lacks anything. Greedy/Given
  pub greedy_meets_calls_iff : (a b : ℕ → ℕ) → MeetsCalls P a b (greedy S a b).given ↔ NoneLacks P (greedy S a b)
  greedy_meets_calls_iff a b = kept_meets_calls (greedy_kept (lists_of_order order) a b)

  -- (k) So by a Monge sequence no call lacks anything exactly when some allocation meets every call, whatever the totals. Greedy/Calls
  pub greedy_covers_iff : Monge P S → (a b : ℕ → ℕ) → NoneLacks P (greedy S a b) ↔ ((x : ℕ → ℕ → ℕ) × MeetsCalls P a b x)
  greedy_covers_iff monge a b = Iff.trans (Iff.symm (greedy_meets_calls_iff a b)) (greedy_covers order monge a b)
