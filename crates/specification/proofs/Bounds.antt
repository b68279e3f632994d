-- How large the answer of a run can be: a lot gives no more than its amount, so there are at most 32,000,000,000 units, and a unit costs at
-- most 1,000,000, and no less than that below zero. So 64 bits hold units and a cost with its sign, and no number that is printed has more
-- than 17 digits.
use mathlib.Core.Path.{◌≡◌, sym, ◌∙◌}
use mathlib.Core.Logic.{by_cases}
use mathlib.Core.Bool.{Bool, true, false, cond}
use mathlib.Core.List.{List}
use Prim.Native.Nat.{ℕ, suc, ◌*◌, ◌≤◌}
use native.Mathlib.Nat.{mul_comm, zero-mul, add-mul, mul-le-mul_left, mul-le-mul, le_of_suc-le-suc}
use native.Mathlib.Omega.{arith}
use lib.Dec.{eqb, leb→le}
use lib.IntN.{ℤ, pos, negsuc, neg_ℤ}
use lib.Signed.{mag, ◌≤ℤ◌}
use Rattle.transport.specs.Problem.{Problem, Eligible, sum, lot_sum, units, total_cost, Allocation, Within}
use Rattle.transport.specs.Greedy.{State}
use Rattle.transport.specs.Idle.{idle_amount}
use Rattle.transport.proofs.Laws.Sums.{sum_mono, sum_cong, sum_le, sum_scale}
use Rattle.transport.proofs.Laws.Sets.{eligible?}
use Rattle.transport.proofs.Orders.Lists.{lists_of_order}
use Rattle.transport.proofs.Greedy.Given.{greedy_allocation}
use Rattle.transport.proofs.Laws.Integers.{mag_difference}
use Rattle.transport.proofs.Greedy.Signed.{cost_signed}
use Rattle.transport.proofs.Finder.Find.{find_is_order}
use Rattle.transport.proofs.Theorems.Idle.{idle_is_allocation}
use Rattle.specification.specs.Reply.{gives, Size, Outcome}
use Rattle.specification.specs.Costs.{cost_limit, cost_base, Allows}
use Rattle.specification.specs.Book.{book_version, problem_of, costs_of, costs, pair_cost}
use Rattle.specification.specs.Amounts.{amount_limit, lot_amount, call_amount, read_amounts}
use Rattle.specification.specs.OrderFile.{order_pairs, order_file}
use Rattle.specification.specs.Run.{greedy_on, outcome, run_order}
use Rattle.specification.specs.Find.{find_and_run}
use Rattle.specification.specs.Idle.{enlarged, greedy_idle_on, find_and_run_idle}
use Rattle.specification.proofs.Replies.{said_of_given}
use Rattle.specification.proofs.Costs.{base_within}
use Rattle.specification.proofs.Books.{BookRead, problem_within, lifted_within, book_lifts}
use Rattle.specification.proofs.AmountsFiles.{AmountsRead, amounts_read, amounts_within}
use Rattle.specification.proofs.PairCosts.{pair_cost_says}
use Rattle.specification.proofs.Runs.{run_says}
use Rattle.specification.proofs.FindRuns.{find_and_run_says, find_and_run_is_run}
use Rattle.specification.proofs.IdleRuns.{idle_says}

module _ (P : Problem) (lots : P.lots ≤ 32) (top : ℕ) (costs : (i j : ℕ) → Eligible P i j → P.cost i j ≤ top)
    (a b : ℕ → ℕ) (within : Within amount_limit P a b) (x : ℕ → ℕ → ℕ) (allocation : Allocation P a b x) where
  pub units_within : units P x ≤ 32 * amount_limit
  units_within = omega (
    arith,
    sum_le P.lots amount_limit (lot_sum P x) (λ i h. omega (arith, allocation.lot_within i h, within.lots_within i h)),
  )

  -- a pair's units cost at most the highest cost each
  cell_within : (i j : ℕ) → x i j * P.cost i j ≤ top * x i j
  cell_within i j = by_cases (eligible? P i j)
      (λ eligible. rw (mul_comm top (x i j)) (mul-le-mul_left (x i j) (costs i j eligible)))
      (λ never. let none = allocation.eligible_only i j never in rw (none, zero-mul (P.cost i j)) (omega arith))

  pub total_cost_within : total_cost P x ≤ top * units P x
  total_cost_within =
      let row : ℕ → ℕ = λ i. sum P.calls (λ j. top * x i j) in
      omega (
        arith,
        sum_mono P.lots (λ i. sum P.calls (λ j. x i j * P.cost i j)) row (λ i h. sum_mono P.calls _ _ (λ j g. cell_within i j)),
        sum_cong P.lots row (λ i. top * lot_sum P x i) (λ i h. sum_scale P.calls top (x i)),
        sum_scale P.lots top (lot_sum P x),
      )

-- units and cost of an answer that is no refusal
abbrev Small : Outcome → Type 0
Small o = (o.units ≤ 32 * amount_limit) × (mag o.cost ≤ 32 * amount_limit * cost_limit)

-- of an allocation of amounts that are read
allocation_within : (book amounts : List ℕ) (n : Size) → BookRead book n → AmountsRead n amounts
    → (s : State) → Allocation (problem_of book) (lot_amount amounts) (call_amount book amounts) s.given
    → Small (outcome (problem_of book) (costs_of book) s)
allocation_within book amounts n read amounts_are s allocation =
    let P : Problem = problem_of book in
    let within = amounts_within read amounts_are in
    let a : ℕ → ℕ = lot_amount amounts in
    let b : ℕ → ℕ = call_amount book amounts in
    let base : ℕ = cost_base (book_version book) in
    let x : ℕ → ℕ → ℕ = s.given in
    let few = units_within P (problem_within read).0 _ (lifted_within read) a b within x allocation in
    let low = total_cost_within P (problem_within read).0 _ (lifted_within read) a b within x allocation in
    let lifted : base * units P x ≤ cost_limit * (32 * amount_limit) = mul-le-mul (base_within (book_version book)) few in
    rw (cost_signed (book_lifts read) x allocation.eligible_only) (
      few,
      le_of_suc-le-suc (mag_difference (total_cost P x) (base * units P x) (suc (32 * amount_limit * cost_limit))
          (omega (arith, add-mul cost_limit base (units P x))) (omega arith)),
    )

pub run_within : (book order amounts flow : List ℕ) (o : Outcome) → run_order book order amounts flow ≡ gives o → Small o
run_within book order amounts flow o e =
    let gave = said_of_given (run_says book order amounts flow) o e in
    let (n, read, amounts_are) = gave.read in
    let allocation = greedy_allocation (lists_of_order gave.passing.each_once) (lot_amount amounts) (call_amount book amounts) in
    rw gave.outcome_is (allocation_within book amounts n read amounts_are (greedy_on book (order_pairs order) amounts) allocation)

pub find_and_run_within : (book amounts flow : List ℕ) (o : Outcome) → find_and_run book amounts flow ≡ gives o → Small o
find_and_run_within book amounts flow o e =
    let (S, found, _, _) = said_of_given (find_and_run_says book amounts flow) o e in
    run_within book (order_file S) amounts flow o (sym (find_and_run_is_run book amounts flow S found).0 ∙ e)

-- and with an idle call, whose own amount has the same limit as the units
pub idle_within : (book amounts flow : List ℕ) (o : Outcome) → find_and_run_idle book amounts flow ≡ gives o → Small o
idle_within book amounts flow o e =
    let (S, gave, _, is) = said_of_given (idle_says book amounts flow) o e in
    let (read, amounts_are) = amounts_read book amounts _ gave.allowed.reads in
    let order = find_is_order (enlarged book) S gave.found in
    let allocation = idle_is_allocation (cost_base (book_version book)) (problem_of book) order (lot_amount amounts) (call_amount book amounts) in
    rw is (allocation_within book amounts _ read amounts_are (greedy_idle_on book S amounts) allocation)

pub idle_amount_within : (book amounts : List ℕ) (n : Size) → read_amounts book amounts ≡ gives n
    → idle_amount (problem_of book) (lot_amount amounts) (call_amount book amounts) ≤ 32 * amount_limit
idle_amount_within book amounts n reads =
    let (read, amounts_are) = amounts_read book amounts n reads in
    omega (
      arith,
      problem_within read,
      sum_le (problem_of book).lots amount_limit (lot_amount amounts) (amounts_within read amounts_are).lots_within,
    )

-- and the cost of one pair
allows_small : (version : ℕ) (z : ℤ) → Allows version z → mag z ≤ cost_limit
allows_small version z = by_version (eqb version 2) z
  where
    by_version : (b : Bool) (z : ℤ) → (neg_ℤ (pos (cond b cost_limit 0)) ≤ℤ z) × (z ≤ℤ pos cost_limit) → mag z ≤ cost_limit
    by_version b (pos n) (low, high) = leb→le n cost_limit high.le
    by_version true (negsuc n) (low, high) = omega (arith, leb→le n 999999 low.le)
    by_version false (negsuc n) (low, high) = absurd low.le

pub pair_cost_within : (book : List ℕ) (lot call : ℕ) (cost : ℤ) → pair_cost book lot call ≡ gives (costs cost) → mag cost ≤ cost_limit
pair_cost_within book lot call cost e =
    allows_small (book_version book) cost (said_of_given (pair_cost_says book lot call) (costs cost) e)

-- 1,024 flow entries are enough for every book
pub cells_within : {book : List ℕ} {n : Size} → BookRead book n → (problem_of book).lots * (problem_of book).calls ≤ 1024
cells_within read = mul-le-mul (problem_within read).0 (problem_within read).1
