-- (n) Lots that arrive during the day (document 02, request 8): one lot or call takes a new amount, and the flow is brought up to date.
use mathlib.Core.Path.{◌≡◌}
use mathlib.Core.Bool.{Bool}
use mathlib.Core.List.{List}
use Prim.Native.Nat.{ℕ, ◌+◌, ◌<◌}
use lib.Dec.{T}
use Rattle.transport.specs.Problem.{Problem, lot_sum, call_sum, Allocation}
use Rattle.transport.specs.Greedy.{Pair, greedy}
use Rattle.transport.specs.Order.{times, OrderOf}
use Rattle.transport.specs.Changes.{earlier, entries_fit, updated}
use Rattle.transport.proofs.Orders.Lists.{lists_of_order}
use Rattle.transport.proofs.Greedy.Given.{kept_allocation}
use Rattle.transport.proofs.Greedy.Changes.{updated_earlier, updated_kept, updated_is_greedy}

module _ {P : Problem} {S : List Pair} (order : OrderOf P S) where
  -- (n) Where the amounts of the earlier pairs are unchanged and their entries are those of a run, the flow brought up to date is that of a run
  -- by the new amounts, with what is left and what is lacking; and 22 does not apply. So it is again after each of a list of changes.
  pub update_is_run : (test : Pair → Bool) (a b a' b' : ℕ → ℕ) (x : ℕ → ℕ → ℕ)
      → ((i j : ℕ) → 0 < times i j (earlier test S) → (a' i ≡ a i) × (b' j ≡ b j))
      → ((i j : ℕ) → 0 < times i j (earlier test S) → x i j ≡ (greedy S a b).given i j)
      → (updated test S a' b' x ≡ greedy S a' b') × T (entries_fit P a' b' x (earlier test S))
  update_is_run = updated_is_greedy (lists_of_order order)

  -- (n) Whatever the flow was, the earlier entries stand after an update; and where 22 does not apply the flow that then stands is an
  -- allocation, and what a lot has left, and what a call lacks, is its amount less its units of that flow. Greedy/Changes
  module _ (test : Pair → Bool) (a b : ℕ → ℕ) (x : ℕ → ℕ → ℕ) where
    pub update_keeps : (i j : ℕ) → 0 < times i j (earlier test S) → (updated test S a b x).given i j ≡ x i j
    update_keeps = updated_earlier (lists_of_order order) test a b x

    pub update_is_allocation : T (entries_fit P a b x (earlier test S)) → Allocation P a b (updated test S a b x).given
    update_is_allocation fit = kept_allocation (updated_kept (lists_of_order order) test a b x fit)

    pub update_leaves : T (entries_fit P a b x (earlier test S)) → (i : ℕ) → i < P.lots
        → (updated test S a b x).left i + lot_sum P (updated test S a b x).given i ≡ a i
    update_leaves fit = (updated_kept (lists_of_order order) test a b x fit).lot_kept

    pub update_lacks : T (entries_fit P a b x (earlier test S)) → (j : ℕ) → j < P.calls
        → (updated test S a b x).lacks j + call_sum P (updated test S a b x).given j ≡ b j
    update_lacks fit = (updated_kept (lists_of_order order) test a b x fit).call_kept
