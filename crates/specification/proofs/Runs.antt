-- What running an order says: the order passes, the amounts are read and the flow buffer is long enough, and the outcome and the flow
-- are GREEDY's. What holds of every order that passes is proved here: by the theorems on Monge sequences its runs are Full exactly when
-- some allocation meets everything, Covered or Full exactly when one meets every call, and no allocation has more units, or costs less
-- where it meets everything.
use mathlib.Core.Path.{◌≡◌, refl}
use mathlib.Core.Logic.Iff
use mathlib.Core.Logic.{◌⊎◌, inl, inr}
use mathlib.Core.List.{List, []}
use Prim.Native.Nat.{ℕ, ◌*◌, ◌≤◌, ◌<◌}
use native.Mathlib.Omega.{arith}
use lib.Dec.{ltb→lt, nltb→le}
use lib.ListN.{length}
use lib.IntN.{ℤ}
use Rattle.transport.specs.Problem.{Problem}
use Rattle.transport.specs.Greedy.{State}
use Rattle.transport.specs.Order.{Monge}
use Rattle.transport.specs.Signed.{Lifts}
use Rattle.transport.proofs.Orders.Lists.{lists_of_order}
use Rattle.transport.proofs.Greedy.Given.{Kept, kept_allocation, kept_meets, kept_meets_calls, greedy_kept}
use Rattle.transport.proofs.Greedy.Optimal.{greedy_most_units, good_of_monge}
use Rattle.transport.proofs.Greedy.Signed.{signed_least_cost}
use Rattle.transport.proofs.Theorems.{greedy_spends_iff}
use Rattle.transport.proofs.Theorems.Covered.{greedy_covers_iff}
use Rattle.specification.specs.Reply.{gives, refuses, Size, Outcome}
use Rattle.specification.specs.Costs.{cost_base}
use Rattle.specification.specs.Book.{book_version, problem_of, costs_of}
use Rattle.specification.specs.Amounts.{read_amounts, lot_amount, call_amount}
use Rattle.specification.specs.OrderFile.{order_pairs}
use Rattle.specification.specs.Check.{check_order}
use Rattle.specification.specs.Run.{greedy_on, outcome, flow_of, flow_too_short, run_order, run_flow}
use Rattle.specification.specs.Demands.{Passing, Ran, BestOn, ByPassing}
use Rattle.specification.proofs.Replies.{
  Says,
  giving,
  not_both,
  said_of_given,
  said_of_refused,
  says_known,
  says_then,
  says_unless,
  says_afterwards,
}
use Rattle.specification.proofs.Books.{BookRead, book_read, book_lifts, book_monge, book_good}
use Rattle.specification.proofs.AmountsFiles.{AmountsRead, AmountsOrBookRefused, amounts_say}
use Rattle.specification.proofs.Checks.{CheckRefused, check_says, check_passes}
use Rattle.specification.proofs.Verdicts.{full_iff_spent, covered_iff, short_iff, best_of}
use Rattle.specification.proofs.Flows.{length_flow_of, flow_at, flow_kept, units_over_flow, cost_over_flow}

pub data RunRefused (book order amounts flow : List ℕ) : ℕ → List ℕ → Type 0 where
  of_check : {k : ℕ} {vs : List ℕ} → CheckRefused book order k vs → check_order book order ≡ refuses k vs
      → RunRefused book order amounts flow k vs
  of_amounts : {k : ℕ} {vs : List ℕ} → Passing book order → AmountsOrBookRefused book amounts k vs → read_amounts book amounts ≡ refuses k vs
      → RunRefused book order amounts flow k vs
  too_short_flow : {n : Size} → Passing book order → AmountsRead n amounts → length flow < (problem_of book).lots * (problem_of book).calls
      → RunRefused book order amounts flow 17 []

-- the outcome is GREEDY's, the order passes, the amounts are read, and the flow buffer is long enough
pub record RunGave (book order amounts flow : List ℕ) (o : Outcome) : Type 0 where
  pub outcome_is : o ≡ outcome (problem_of book) (costs_of book) (greedy_on book (order_pairs order) amounts)
  pub passing : Passing book order
  pub read : (n : Size) × BookRead book n × AmountsRead n amounts
  pub long : (problem_of book).lots * (problem_of book).calls ≤ length flow

-- a state that keeps the amounts, nothing being still to come: its outcome and flow are what a run writes and replies
pub ran_of : (P : Problem) (c : ℕ → ℕ → ℤ) {a b : ℕ → ℕ} {s : State} → Kept P a b [] s → (flow : List ℕ)
    → P.lots * P.calls ≤ length flow → Ran P c a b s.given flow (flow_of P s.given flow) (outcome P c s)
ran_of P c {a} {b} {s} kept flow long = record {
  flow = flow_at P _ flow;
  allocation = kept_allocation kept;
  kept = flow_kept P _ flow;
  its_units = refl;
  its_cost = refl;
  units_of_flow = units_over_flow P _ flow;
  cost_of_flow = cost_over_flow P _ flow c;
  full_told = Iff.trans (full_iff_spent P s) (Iff.symm (kept_meets kept));
  covered_told = (
    λ e.
        let (none, (i, h, some)) = (covered_iff P s).0 e in
        ((kept_meets_calls kept).1 none, (i, h, omega (arith, kept.lot_kept i h))),
    λ (met, (i, h, below)). (covered_iff P s).1 ((kept_meets_calls kept).0 met, (i, h, omega (arith, kept.lot_kept i h))),
  );
  short_told = (
    λ e. let (j, h, some) = (short_iff P s).0 e in (j, h, omega (arith, kept.call_kept j h)),
    λ (j, h, below). (short_iff P s).1 (j, h, omega (arith, kept.call_kept j h)),
  );
}

module _ (book order amounts flow : List ℕ) where
  pub run_says : Says (RunGave book order amounts flow) (RunRefused book order amounts flow) (run_order book order amounts flow)
  unfolding run_order
  run_says =
      says_then _ (says_known (check_says book order)) (λ k vs (q, e). of_check q e) (λ n ((count, passing), passes).
      says_then _ (says_known (amounts_say book amounts)) (λ k vs (q, e). of_amounts passing q e) (λ m ((book_is, read), _).
      says_unless (flow_too_short (problem_of book) flow) 17 _ _ (λ t. too_short_flow passing read (ltb→lt _ _ t)) (λ long.
      giving (record { outcome_is = refl; passing = passing; read = (m, book_is, read); long = nltb→le _ _ long }))))

  -- the flow buffer keeps its length
  pub length_run_flow : length (run_flow book order amounts flow) ≡ length flow
  unfolding run_flow
  length_run_flow = says_afterwards flow _ (λ s. length s ≡ length flow) run_says refl
      (λ o gave. length_flow_of (problem_of book) _ flow gave.long)

  -- a run that is not refused writes GREEDY's units
  module _ (o : Outcome) (e : run_order book order amounts flow ≡ gives o) where
    pub outcome_is : o ≡ outcome (problem_of book) (costs_of book) (greedy_on book (order_pairs order) amounts)
    outcome_is = (said_of_given run_says o e).outcome_is

    pub run_flow_is : run_flow book order amounts flow ≡ flow_of (problem_of book) (greedy_on book (order_pairs order) amounts).given flow
    unfolding run_flow
    run_flow_is = rw e refl

    pub ran : Ran (problem_of book) (costs_of book) (lot_amount amounts) (call_amount book amounts)
        (greedy_on book (order_pairs order) amounts).given
        flow (run_flow book order amounts flow) o
    ran =
        let gave = said_of_given run_says o e in
        let kept = greedy_kept (lists_of_order gave.passing.each_once) _ _ in
        rw (run_flow_is, outcome_is) (ran_of (problem_of book) (costs_of book) kept flow gave.long)

-- every order that passes is good, gives most units, and its runs are refused for the amounts or the buffer alone
module _ (book order : List ℕ) (passing : Passing book order) where
  lifts : Lifts (cost_base (book_version book)) (problem_of book) (costs_of book)
  lifts = book_lifts (book_read book _ passing.readable.1)

  monge : Monge (problem_of book) (order_pairs order)
  monge = (book_monge book passing.readable (order_pairs order)).0 passing.monge

  -- the outcome of GREEDY by it, on the amounts of a file
  passing_best : (amounts : List ℕ) → BestOn book amounts (outcome (problem_of book) (costs_of book) (greedy_on book (order_pairs order) amounts))
  passing_best amounts =
      let by : State = greedy_on book (order_pairs order) amounts in
      let (a, b) : (ℕ → ℕ) × (ℕ → ℕ) = (lot_amount amounts, call_amount book amounts) in
      best_of (problem_of book) (costs_of book) a b by
      (greedy_spends_iff passing.each_once monge a b)
      (greedy_covers_iff passing.each_once monge a b)
      (λ x m. (signed_least_cost lifts passing.each_once monge a b m).1)
      (λ x h. greedy_most_units passing.each_once monge a b h)

  pub passing_run_best : (amounts flow : List ℕ) (o : Outcome) → run_order book order amounts flow ≡ gives o → BestOn book amounts o
  passing_run_best amounts flow o e = rw (outcome_is book order amounts flow o e) (passing_best amounts)

  pub by_passing : ByPassing book order
  by_passing = record {
    good = (passing.each_once, (book_good book passing.readable _ _).1 (good_of_monge passing.each_once monge _));
    most_units = λ a b x h. greedy_most_units passing.each_once monge a b h;
    refused_only = λ amounts flow k vs e. of_run (said_of_refused (run_says book order amounts flow) k vs e);
  }
    where
      of_run : {amounts flow : List ℕ} {k : ℕ} {vs : List ℕ} → RunRefused book order amounts flow k vs
          → (read_amounts book amounts ≡ refuses k vs) ⊎ ((k ≡ 17) × (length flow < (problem_of book).lots * (problem_of book).calls))
      of_run (of_check q e) = absurd (not_both (check_passes book order passing) e)
      of_run (of_amounts passing q e) = inl e
      of_run (too_short_flow passing read h) = inr (refl, h)
