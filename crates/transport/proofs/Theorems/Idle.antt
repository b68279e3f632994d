-- (l) The run with an idle call (document 02, request 2): which stock stays idle.
use mathlib.Core.Path.{◌≡◌}
use mathlib.Core.Logic.{◌↔◌}
use mathlib.Core.List.{List}
use Prim.Native.Nat.{ℕ, ◌+◌, ◌*◌, ◌≤◌, ◌<◌}
use Rattle.transport.specs.Problem.{sum, Problem, lot_sum, call_sum, units, total_cost, Allocation, Meets, MeetsCalls}
use Rattle.transport.specs.Greedy.{Pair, greedy}
use Rattle.transport.specs.Order.{OrderOf, Monge}
use Rattle.transport.specs.Idle.{with_idle, idle_amount, idle_amounts, without_idle, greedy_idle}
use Rattle.transport.proofs.Greedy.Given.{Spent, NoneLacks, kept_allocation, kept_meets, kept_meets_calls}
use Rattle.transport.proofs.Greedy.Calls.{meets_calls_of_meets, totals_of_meets, meets_of_totals}
use Rattle.transport.proofs.Greedy.Idle.{with_left, add_idle, drop_idle, idle_kept, idle_least, idle_most_units}

module _ (base : ℕ) (P : Problem) (a b : ℕ → ℕ) where
  -- (l) An allocation that meets every call meets everything in the enlarged problem, with what each lot has left in the idle call, at the
  -- same cost but for the idle call's; and one that meets everything there meets every call without the idle call, likewise. Greedy/Idle
  pub with_idle_meets : (x : ℕ → ℕ → ℕ) → MeetsCalls P a b x
      → Meets (with_idle base P) a (idle_amounts P a b) (with_left P a x)
      × (total_cost (with_idle base P) (with_left P a x) ≡ total_cost P x + base * idle_amount P a b)
  with_idle_meets x = add_idle base P a b

  pub without_idle_meets : (z : ℕ → ℕ → ℕ) → Meets (with_idle base P) a (idle_amounts P a b) z
      → MeetsCalls P a b (without_idle P z) × (total_cost P (without_idle P z) + base * idle_amount P a b ≡ total_cost (with_idle base P) z)
  without_idle_meets z = drop_idle base P a b

module _ (base : ℕ) (P : Problem) {S : List Pair} (order : OrderOf (with_idle base P) S) (a b : ℕ → ℕ) where
  -- (l) What the run with an idle call returns is an allocation. What a lot has left, with its units in the idle call, and what a call
  -- lacks, is its amount less the units it was given. Greedy/Idle
  pub idle_is_allocation : Allocation P a b (greedy_idle P S a b).given
  idle_is_allocation = kept_allocation (idle_kept base P order a b)

  pub idle_leaves : (i : ℕ) → i < P.lots → (greedy_idle P S a b).left i + lot_sum P (greedy_idle P S a b).given i ≡ a i
  idle_leaves = (idle_kept base P order a b).lot_kept

  pub idle_lacks : (j : ℕ) → j < P.calls → (greedy_idle P S a b).lacks j + call_sum P (greedy_idle P S a b).given j ≡ b j
  idle_lacks = (idle_kept base P order a b).call_kept

  module _ (monge : Monge (with_idle base P) S) where
    -- (l) By a Monge sequence of the enlarged problem it meets every call whenever some allocation does, and none that does costs less,
    -- whatever the totals; GREEDY then leaves nothing in the enlarged problem. Greedy/Idle
    pub idle_cheapest : (x : ℕ → ℕ → ℕ) → MeetsCalls P a b x
        → Spent (with_idle base P) (greedy S a (idle_amounts P a b))
        × MeetsCalls P a b (greedy_idle P S a b).given
        × (total_cost P (greedy_idle P S a b).given ≤ total_cost P x)
    idle_cheapest x m = idle_least base P order a b monge m

    -- (l) So no call lacks anything exactly when some allocation meets every call, and nothing is left exactly when one meets everything.
    pub idle_covers_iff : NoneLacks P (greedy_idle P S a b) ↔ ((x : ℕ → ℕ → ℕ) × MeetsCalls P a b x)
    idle_covers_iff =
        let (lacks, met) = kept_meets_calls (idle_kept base P order a b) in
        (λ h. ((greedy_idle P S a b).given, met h), λ (x, m). lacks (idle_cheapest x m).1)

    pub idle_spends_iff : Spent P (greedy_idle P S a b) ↔ ((x : ℕ → ℕ → ℕ) × Meets P a b x)
    idle_spends_iff =
        let (spent, met) = kept_meets (idle_kept base P order a b) in (
          λ h. ((greedy_idle P S a b).given, met h),
          λ (x, m). spent (meets_of_totals (totals_of_meets m) (idle_cheapest x (meets_calls_of_meets m)).1),
        )

    -- (l) Whether or not every call can be met, no allocation has more units, where the lots' total is no lower than the calls'. Greedy/Idle
    pub idle_most : sum P.calls b ≤ sum P.lots a → (x : ℕ → ℕ → ℕ) → Allocation P a b x
        → units P x ≤ units P (greedy_idle P S a b).given
    idle_most enough x h = idle_most_units base P order a b monge enough h
