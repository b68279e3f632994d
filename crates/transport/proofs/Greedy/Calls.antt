-- Calls met with stock to spare: along a Monge sequence GREEDY meets every call exactly when some allocation does, whatever the totals. Such
-- an allocation has the calls' total of units, GREEDY has no fewer, and what its calls lack is the rest of that total.
use mathlib.Core.Path.{◌≡◌, sym, ◌∙◌}
use mathlib.Core.Logic.{◌↔◌}
use mathlib.Core.List.{List}
use Prim.Native.Nat.{ℕ, ◌+◌, ◌≤◌}
use native.Mathlib.Omega.{arith}
use Rattle.transport.specs.Problem.{sum, Problem, lot_sum, call_sum, units, Meets, MeetsCalls, EqualTotals}
use Rattle.transport.specs.Greedy.{Pair, State, greedy}
use Rattle.transport.specs.Order.{OrderOf, Monge}
use Rattle.transport.proofs.Laws.Sums.{sum_cong, sum_both, sum_swap, term_le_sum, sum_tight}
use Rattle.transport.proofs.Orders.Lists.{lists_of_order}
use Rattle.transport.proofs.Greedy.Given.{Kept, NoneLacks, allocation_of_meets, kept_meets_calls, greedy_kept}
use Rattle.transport.proofs.Greedy.Optimal.{greedy_most_units}

-- an allocation that meets every call has the calls' total of units
module _ {P : Problem} {a b : ℕ → ℕ} {x : ℕ → ℕ → ℕ} where
  pub units_of_meets_calls : MeetsCalls P a b x → units P x ≡ sum P.calls b
  units_of_meets_calls m = sum_swap P.lots P.calls x ∙ sum_cong P.calls (call_sum P x) b m.calls_met

  -- it meets everything exactly when the totals are equal
  pub meets_calls_of_meets : Meets P a b x → MeetsCalls P a b x
  meets_calls_of_meets m = record { allocation = allocation_of_meets m; calls_met = m.call_met }

  pub totals_of_meets : Meets P a b x → EqualTotals P a b
  totals_of_meets m =
      omega (arith, units_of_meets_calls (meets_calls_of_meets m), sum_cong P.lots (lot_sum P x) a m.lot_met)

  pub meets_of_totals : EqualTotals P a b → MeetsCalls P a b x → Meets P a b x
  meets_of_totals equal m = record {
    eligible_only = m.allocation.eligible_only;
    lot_met = sum_tight P.lots (lot_sum P x) a m.allocation.lot_within (units_of_meets_calls m ∙ sym equal);
    call_met = m.calls_met;
  }

module _ {P : Problem} {a b : ℕ → ℕ} {S : List Pair} {s : State} (k : Kept P a b S s) where
  -- what the calls lack, in all
  kept_lacks : sum P.calls s.lacks + units P s.given ≡ sum P.calls b
  kept_lacks = omega (
    arith,
    sum_both P.calls s.lacks (call_sum P s.given) b k.call_kept,
    sum_swap P.lots P.calls s.given,
  )

  -- no call lacks anything once the calls' total is given
  kept_covers : sum P.calls b ≤ units P s.given → NoneLacks P s
  kept_covers all j h = omega (arith, kept_lacks, term_le_sum P.calls s.lacks j h)

-- GREEDY tells whether some allocation meets every call
pub greedy_covers : {P : Problem} {S : List Pair} → OrderOf P S → Monge P S → (a b : ℕ → ℕ)
    → MeetsCalls P a b (greedy S a b).given ↔ ((x : ℕ → ℕ → ℕ) × MeetsCalls P a b x)
greedy_covers {P} {S} order monge a b =
    let kept = greedy_kept (lists_of_order order) a b in (
      λ met. ((greedy S a b).given, met),
      λ (x, m). (kept_meets_calls kept).1
          (kept_covers kept (omega (arith, units_of_meets_calls m, greedy_most_units order monge a b m.allocation))),
    )
