-- The run with an idle call. An allocation that meets every call, with what each lot has left put into the idle call, meets everything in
-- the enlarged problem, and one that meets everything there meets every call once the idle call is dropped. The idle call adds the same cost
-- to all of these, so GREEDY, which is cheapest there, is cheapest among the allocations that meet every call. It also has the most units there, and so of the
-- real calls, since every allocation leaves enough for the idle call.
use mathlib.Core.Path.{◌≡◌, refl, sym, ◌∙◌, ap, ap₂}
use mathlib.Core.Logic.{◌⊎◌, inl, inr, ⊎_elim}
use mathlib.Core.Bool.{cond}
use mathlib.Core.List.{List, []}
use Prim.Native.Nat.{ℕ, ◌+◌, ◌*◌, ◌-◌, ◌≤◌, ◌<◌}
use native.Mathlib.Nat.{mul_comm}
use native.Mathlib.Omega.{arith}
use lib.Dec.{T, eqb, eqb→eq, eqb_refl, ltb, ltb→lt, lt→ltb}
use Rattle.transport.specs.Problem.{sum, Problem, Eligible, lot_sum, call_sum, units, total_cost, Allocation, Meets, MeetsCalls}
use Rattle.transport.specs.Greedy.{Pair, put, State, greedy}
use Rattle.transport.specs.Order.{times, OrderOf, Monge}
use Rattle.transport.specs.Idle.{with_idle, idle_amount, idle_amounts, without_idle, real_part, greedy_idle}
use Rattle.transport.proofs.Laws.Tests.{below_suc, or_says, or_of_left, or_of_right, counted_of, counted_none}
use Rattle.transport.proofs.Laws.Sums.{sum_mono, sum_cong, sum_add, sum_scale, sum_both, sum_swap, put_same, put_below, put_is, part_of}
use Rattle.transport.proofs.Laws.Units.{lot_sum_same, call_sum_same, total_cost_same}
use Rattle.transport.proofs.Orders.Lists.{lists_of_order}
use Rattle.transport.proofs.Greedy.Given.{Kept, Spent, kept_of_meets, kept_meets_calls, greedy_kept, greedy_allocation, greedy_meets}
use Rattle.transport.proofs.Greedy.Optimal.{greedy_most_units, greedy_least_cost}
use Rattle.transport.proofs.Greedy.Calls.{units_of_meets_calls}

-- x, with f of each lot in the idle call
abbrev with_units : Problem → (ℕ → ℕ → ℕ) → (ℕ → ℕ) → ℕ → ℕ → ℕ
with_units P x f i = put (x i) P.calls (cond (ltb i P.lots) (f i) 0)

-- x, with what each lot has left in the idle call
abbrev pub with_left : Problem → (ℕ → ℕ) → (ℕ → ℕ → ℕ) → ℕ → ℕ → ℕ
with_left P a x = with_units P x (λ i. a i - lot_sum P x i)

module _ (base : ℕ) (P : Problem) where
  -- the pairs of the enlarged problem
  pub idle_pair : (i : ℕ) → i < P.lots → Eligible (with_idle base P) i P.calls
  idle_pair i h = (h, omega arith, or_of_left (eqb P.calls P.calls) (P.admits i P.calls) (eqb_refl P.calls))

  pub real_pair : (i j : ℕ) → Eligible P i j → Eligible (with_idle base P) i j
  real_pair i j (hi, hj, t) = (hi, omega arith, or_of_right (eqb j P.calls) (P.admits i j) t)

  pub pair_real : (i j : ℕ) → (j ≡ P.calls → ⊥) → Eligible (with_idle base P) i j → Eligible P i j
  pair_real i j ne (hi, hj, t) = (hi, omega arith, other (or_says (eqb j P.calls) (P.admits i j) t))
    where
      other : T (eqb j P.calls) ⊎ T (P.admits i j) → T (P.admits i j)
      other (inl t) = absurd (ne (eqb→eq j P.calls t))
      other (inr t) = t

  -- the units of the real calls stay, and the idle call adds its cost for each of its units
  pub real_units : (x : ℕ → ℕ → ℕ) (i j : ℕ) → i < P.lots → j < P.calls → without_idle P x i j ≡ x i j
  real_units x i j _ h = put_below (x i) P.calls 0 j h

  cost_idle : (x : ℕ → ℕ → ℕ) → total_cost (with_idle base P) x ≡ total_cost P x + base * call_sum P x P.calls
  unfolding sum
  cost_idle x =
      sum_cong P.lots _ (λ i. sum P.calls (λ j. x i j * P.cost i j) + base * x i P.calls) row
      ∙ sum_add P.lots _ _
      ∙ ap (λ n. total_cost P x + n) (sum_scale P.lots base (λ i. x i P.calls))
    where
      row : (i : ℕ) → i < P.lots → sum P.calls (λ j. x i j * (with_idle base P).cost i j) + x i P.calls * (with_idle base P).cost i P.calls
          ≡ sum P.calls (λ j. x i j * P.cost i j) + base * x i P.calls
      row i r = ap₂ ◌+◌
          (sum_cong P.calls _ _ (λ j h. rw (put_below (P.cost i) P.calls base j h)))
          (rw (put_same (P.cost i) P.calls base) (mul_comm (x i P.calls) base))

  -- units in the idle call: the sums of the real calls stay, and each lot has its units more
  module _ (x : ℕ → ℕ → ℕ) (f : ℕ → ℕ) where
    real_stay : (i j : ℕ) → i < P.lots → j < P.calls → with_units P x f i j ≡ x i j
    real_stay i j _ h = put_below (x i) P.calls _ j h

    of_lot : (i : ℕ) → i < P.lots → with_units P x f i P.calls ≡ f i
    of_lot i h = put_same (x i) P.calls _ ∙ counted_of (ltb i P.lots) (f i) (lt→ltb i P.lots h)

    units_only : ((i j : ℕ) → (Eligible P i j → ⊥) → x i j ≡ 0)
        → (i j : ℕ) → (Eligible (with_idle base P) i j → ⊥) → with_units P x f i j ≡ 0
    units_only only i j n = put_is (x i) P.calls _ j 0
        (λ e. counted_none (ltb i P.lots) _ (λ t. absurd (n (rw e (idle_pair i (ltb→lt i P.lots t))))))
        (λ ne. only i j (λ e. n (real_pair i j e)))

    lot_with : (i : ℕ) → i < P.lots → lot_sum (with_idle base P) (with_units P x f) i ≡ lot_sum P x i + f i
    unfolding sum
    lot_with i h = omega (arith, lot_sum_same P (with_units P x f) x real_stay i h, of_lot i h)

    idle_with : call_sum P (with_units P x f) P.calls ≡ sum P.lots f
    idle_with = sum_cong P.lots _ f of_lot

  module _ (a b : ℕ → ℕ) where
    -- a run of the enlarged problem, seen from the problem itself
    kept_real : {S : List Pair} {s : State} → Kept (with_idle base P) a (idle_amounts P a b) S s → Kept P a b [] (real_part P s)
    unfolding sum times
    kept_real {S} {s} k = record {
      eligible_only = λ i j n. put_is (s.given i) P.calls 0 j 0
          (λ e. refl)
          (λ ne. k.eligible_only i j (λ e. n (pair_real i j ne e)));
      waiting = λ i j h. absurd (omega arith);
      lot_kept = λ i h. omega (arith, k.lot_kept i h, lot_sum_same P (without_idle P s.given) s.given (real_units s.given) i h);
      call_kept = λ j h. omega (
        arith,
        k.call_kept j (omega arith),
        call_sum_same P (without_idle P s.given) s.given (real_units s.given) j h,
        put_below b P.calls (idle_amount P a b) j h,
      );
    }

    -- what an allocation leaves of the lots, in all
    left_total : (x : ℕ → ℕ → ℕ) → Allocation P a b x → sum P.lots (λ i. a i - lot_sum P x i) + units P x ≡ sum P.lots a
    left_total x h = sum_both P.lots _ (lot_sum P x) a (λ i l. omega (arith, h.lot_within i l))

    pub drop_idle : {z : ℕ → ℕ → ℕ} → Meets (with_idle base P) a (idle_amounts P a b) z
        → MeetsCalls P a b (without_idle P z)
        × (total_cost P (without_idle P z) + base * idle_amount P a b ≡ total_cost (with_idle base P) z)
    drop_idle {z} m = (
      (kept_meets_calls (kept_real (kept_of_meets m))).1 (λ j h. refl),
      ap₂ (λ c n. c + base * n)
          (total_cost_same P (without_idle P z) z (real_units z))
          (sym (m.call_met P.calls (omega arith) ∙ put_same b P.calls (idle_amount P a b)))
          ∙ sym (cost_idle z),
    )

    pub add_idle : {x : ℕ → ℕ → ℕ} → MeetsCalls P a b x
        → Meets (with_idle base P) a (idle_amounts P a b) (with_left P a x)
        × (total_cost (with_idle base P) (with_left P a x) ≡ total_cost P x + base * idle_amount P a b)
    add_idle {x} m = (
      record {
        eligible_only = units_only x left m.allocation.eligible_only;
        lot_met = λ i h. omega (arith, lot_with x left i h, m.allocation.lot_within i h);
        call_met = λ j h. sym (put_is b P.calls _ j _
            (λ e. rw e (sym idle_units))
            (λ ne. let h' : j < P.calls = omega arith in omega (arith, m.calls_met j h', call_sum_same P _ x (real_stay x left) j h')));
      },
      cost_idle (with_left P a x) ∙ ap₂ (λ c n. c + base * n) (total_cost_same P (with_left P a x) x (real_stay x left)) idle_units,
    )
      where
        left : ℕ → ℕ
        left i = a i - lot_sum P x i

        idle_units : call_sum P (with_left P a x) P.calls ≡ idle_amount P a b
        idle_units = omega (arith, idle_with x left, left_total x m.allocation, units_of_meets_calls m)

    -- an allocation leaves enough for the idle call: with its amount taken from what is left, it is one of the enlarged problem
    fill_idle : sum P.calls b ≤ sum P.lots a → {x : ℕ → ℕ → ℕ} → Allocation P a b x
        → (z : ℕ → ℕ → ℕ) × Allocation (with_idle base P) a (idle_amounts P a b) z × (units (with_idle base P) z ≡ units P x + idle_amount P a b)
    fill_idle enough {x} h =
        let placed : units P x ≤ sum P.calls b = omega (
          arith,
          sum_swap P.lots P.calls x,
          sum_mono P.calls (call_sum P x) b h.call_within,
        ) in
        let (f, below, is) = part_of P.lots (λ i. a i - lot_sum P x i) (idle_amount P a b) (omega (arith, left_total x h)) in (
          with_units P x f,
          record {
            eligible_only = units_only x f h.eligible_only;
            lot_within = λ i l. omega (arith, lot_with x f i l, below i l, h.lot_within i l);
            call_within = λ j l. ⊎_elim
                (λ (e : j ≡ P.calls). rw e (omega (arith, idle_with x f, put_same b P.calls (idle_amount P a b))))
                (λ own. omega (
                  arith,
                  call_sum_same P _ x (real_stay x f) j own,
                  put_below b P.calls (idle_amount P a b) j own,
                  h.call_within j own,
                ))
                (below_suc l);
          },
          omega (arith, sum_both P.lots (lot_sum P x) f _ (λ i l. sym (lot_with x f i l))),
        )

-- GREEDY by an order of the enlarged problem
module _ (base : ℕ) (P : Problem) {S : List Pair} (order : OrderOf (with_idle base P) S) (a b : ℕ → ℕ) where
  -- what is returned is as a run of the problem itself would leave it
  pub idle_kept : Kept P a b [] (greedy_idle P S a b)
  idle_kept = kept_real base P a b (greedy_kept (lists_of_order order) a (idle_amounts P a b))

  -- where some allocation meets every call, GREEDY leaves nothing, and what is returned meets every call at no higher cost
  pub idle_least : Monge (with_idle base P) S → {x : ℕ → ℕ → ℕ} → MeetsCalls P a b x
      → Spent (with_idle base P) (greedy S a (idle_amounts P a b))
      × MeetsCalls P a b (greedy_idle P S a b).given
      × (total_cost P (greedy_idle P S a b).given ≤ total_cost P x)
  idle_least monge m =
      let (rival, rival_cost) = add_idle base P a b m in
      let (met, least) = greedy_least_cost order monge a (idle_amounts P a b) rival in
      let (dropped, dropped_cost) = drop_idle base P a b met in
      ((greedy_meets (lists_of_order order) a (idle_amounts P a b)).0 met, dropped, omega (arith, least, dropped_cost, rival_cost))

  -- whether or not every call can be met, no allocation has more units of the real calls: GREEDY has the most with the idle call's, and
  -- no more than its amount of these
  pub idle_most_units : Monge (with_idle base P) S → sum P.calls b ≤ sum P.lots a → {x : ℕ → ℕ → ℕ} → Allocation P a b x
      → units P x ≤ units P (greedy_idle P S a b).given
  unfolding sum
  idle_most_units monge enough {x} h =
      let given : ℕ → ℕ → ℕ = (greedy S a (idle_amounts P a b)).given in
      let (z, rival, rival_units) = fill_idle base P a b enough h in
      omega (
        arith,
        rival_units,
        greedy_most_units order monge a (idle_amounts P a b) rival,
        sum_add P.lots (lot_sum P given) (λ i. given i P.calls),
        (greedy_allocation (lists_of_order order) a (idle_amounts P a b)).call_within P.calls (omega arith),
        put_same b P.calls (idle_amount P a b),
        sum_cong P.lots _ _ (λ i l. lot_sum_same P (without_idle P given) given (real_units base P given) i l),
      )
