-- Where there are no lots or no calls, no pair is eligible, an order has no pairs and the finder takes none. What a run says of its units
-- (`Ran`) then leaves one outcome, by the totals alone, for every run, and nothing is written.
use mathlib.Core.Path.{◌≡◌, refl, ◌∙◌, ap}
use mathlib.Core.Logic.{⊎_elim, by_cases}
use mathlib.Core.List.{List, [], ◌∷◌}
use mathlib.Core.Option.{some, none}
use Prim.Native.Nat.{ℕ, ◌*◌, ◌<◌}
use native.Mathlib.Nat.{mul-zero, zero-mul, zero-add}
use native.Mathlib.Decide.{ℕ_discrete}
use native.Mathlib.Omega.{arith}
use borrow.Author.Tests.{ne_eqb}
use lib.Dec.{eqb}
use lib.Seq.{ext_get_or}
use lib.IntN.{ℤ, pos, zero-*ℤ}
use lib.ListN.{length}
use Rattle.transport.specs.Problem.{Problem, Eligible, sum, lot_sum, call_sum, Meets, MeetsCalls}
use Rattle.transport.specs.Greedy.{Pair}
use Rattle.transport.specs.Order.{OrderOf}
use Rattle.transport.specs.Finder.{take_from, size, find}
use Rattle.transport.proofs.Laws.Sums.{sum_zero, sum_positive, term_le_sum}
use Rattle.transport.proofs.Laws.Integers.{sumℤ_zero}
use Rattle.transport.proofs.Laws.Sets.{count_le}
use Rattle.transport.proofs.Orders.Length.{order_length_lem}
use Rattle.specification.specs.Reply.{Verdict, Outcome}
use Rattle.specification.specs.Run.{verdict_by}
use Rattle.specification.specs.Demands.{Ran}
use Rattle.specification.specs.EmptyDesk.{Empty}

same_outcome : {o : Outcome} {v : Verdict} {n : ℕ} {z : ℤ} → o.verdict ≡ v → o.units ≡ n → o.cost ≡ z
    → o ≡ record { verdict = v; units = n; cost = z }
same_outcome e f g = rw (← e, ← f, ← g) refl

pub some_not_none : {A : Type 0} {a : A} → some a ≡ none → ⊥
some_not_none e = let z : ◌≡◌ {A = ℕ} 0 1 = cc in omega arith

-- no pair is eligible
module _ (P : Problem) (empty : Empty P.lots P.calls) where
  pub none_eligible : (i j : ℕ) → Eligible P i j → ⊥
  none_eligible i j (hi, hj, t) = ⊎_elim (λ (e : P.lots ≡ 0). omega arith) (λ (e : P.calls ≡ 0). omega arith) empty

  pub no_cells : P.lots * P.calls ≡ 0
  no_cells = ⊎_elim (λ (e : P.lots ≡ 0). rw e (zero-mul P.calls)) (λ (e : P.calls ≡ 0). rw e (mul-zero P.lots)) empty

  pub no_size : size P ≡ 0
  no_size = omega (arith, count_le P P.admits, no_cells)

  pub no_pairs : (S : List Pair) → OrderOf P S → S ≡ []
  no_pairs [] order = refl
  no_pairs (p ∷ S) order = absurd (omega (arith, order_length_lem order, no_size))

  -- what a run leaves to be said
  module _ {c : ℕ → ℕ → ℤ} {a b : ℕ → ℕ} {x : ℕ → ℕ → ℕ} {before after : List ℕ} {o : Outcome} (ran : Ran P c a b x before after o) where
    nothing : (i j : ℕ) → x i j ≡ 0
    nothing i j = ran.allocation.eligible_only i j (none_eligible i j)

    of_lot : (i : ℕ) → lot_sum P x i ≡ 0
    of_lot i = sum_zero P.calls (x i) (λ j h. nothing i j)

    of_call : (j : ℕ) → call_sum P x j ≡ 0
    of_call j = sum_zero P.lots (λ i. x i j) (λ i h. nothing i j)

    no_units : o.units ≡ 0
    no_units = ran.its_units ∙ sum_zero P.lots (lot_sum P x) (λ i h. of_lot i)

    no_cost : o.cost ≡ pos 0
    no_cost = ran.its_cost ∙ sumℤ_zero P.lots _ (λ i h. sumℤ_zero P.calls _ (λ j g. rw (nothing i j) (zero-*ℤ (c i j))))

    -- where no call asks for units, every call is met; where no lot has any either, everything is
    module _ (unasked : sum P.calls b ≡ 0) where
      call_met : (j : ℕ) → j < P.calls → call_sum P x j ≡ b j
      call_met j h = omega (arith, of_call j, term_le_sum P.calls b j h)

      calls_met : MeetsCalls P a b x
      calls_met = record {
        allocation = ran.allocation;
        calls_met = call_met;
      }

      all_met : sum P.lots a ≡ 0 → Meets P a b x
      all_met unstocked = record {
        eligible_only = ran.allocation.eligible_only;
        lot_met = λ i h. omega (arith, of_lot i, term_le_sum P.lots a i h);
        call_met = call_met;
      }

    by_totals : o.verdict ≡ verdict_by (eqb (sum P.calls b) 0) (eqb (sum P.lots a) 0)
    by_totals = by_cases (ℕ_discrete (sum P.calls b) 0)
        (λ unasked. by_cases (ℕ_discrete (sum P.lots a) 0)
        (λ unstocked. rw (unasked, unstocked) (ran.full_told.1 (all_met unasked unstocked)))
        (λ stocked.
        let (i, h, has) = sum_positive P.lots a (omega (arith, stocked)) in
        rw (unasked, ne_eqb _ 0 stocked) (ran.covered_told.1 (calls_met unasked, (i, h, omega (arith, of_lot i))))))
        (λ asked.
        let (j, h, asks) = sum_positive P.calls b (omega (arith, asked)) in
        rw (ne_eqb _ 0 asked) (ran.short_told.1 (j, h, omega (arith, of_call j))))

    pub nothing_placed_lem : o ≡ record {
      verdict = verdict_by (eqb (sum P.calls b) 0) (eqb (sum P.lots a) 0);
      units = 0;
      cost = pos 0;
    }
    nothing_placed_lem = same_outcome by_totals no_units no_cost

    pub nothing_written : length after ≡ length before → after ≡ before
    nothing_written as_long = ext_get_or 0 after before as_long (λ k h. rw (no_cells, zero-add) at (ran.kept k))

  -- the finder takes none
  pub found_none : find P ≡ some []
  unfolding take_from
  found_none = ap (λ k. take_from P k P.admits) no_size
