-- What the run with an idle call says: the amounts are read, 18, 19 and 17 do not apply, and the outcome and the flow are those of the real
-- calls by the order that is found for the enlarged book. That order is a Monge sequence of it, so by the theorems on the idle call the run is
-- Full or Covered exactly when some allocation meets everything or every call, and no allocation that meets every call costs less.
use mathlib.Core.Path.{◌≡◌, refl, sym, ◌∙◌}
use mathlib.Core.List.{List, []}
use mathlib.Core.Option.{some, none}
use Prim.Native.Nat.{ℕ, ◌*◌, ◌≤◌, ◌<◌}
use native.Mathlib.Omega.{arith}
use lib.Dec.{ltb, eqb, ltb→lt, nltb→le, eqb→eq, T_not}
use lib.ListN.{length}
use lib.Signed.{◌≤ℤ◌}
use Rattle.transport.specs.Problem.{Problem, MeetsCalls}
use Rattle.transport.specs.Greedy.{Pair}
use Rattle.transport.specs.Order.{OrderOf, Monge}
use Rattle.transport.specs.Signed.{signed_cost, Lifts}
use Rattle.transport.specs.Finder.{find}
use Rattle.transport.proofs.Greedy.Calls.{meets_calls_of_meets}
use Rattle.transport.proofs.Greedy.Idle.{idle_kept}
use Rattle.transport.proofs.Greedy.Signed.{idle_lifts, signed_idle_least}
use Rattle.transport.proofs.Finder.Find.{find_is_order, find_is_monge}
use Rattle.transport.proofs.Theorems.Idle.{idle_most, idle_covers_iff, idle_spends_iff}
use Rattle.specification.specs.Reply.{Reply, gives, refuses, Size, Outcome}
use Rattle.specification.specs.Costs.{cost_base}
use Rattle.specification.specs.Book.{book_version, book_calls, problem_of, costs_of}
use Rattle.specification.specs.Amounts.{read_amounts, lot_amount, call_amount}
use Rattle.specification.specs.Run.{outcome, flow_too_short}
use Rattle.specification.specs.Idle.{enlarged, enlarged_costs, lots_total, calls_total, greedy_idle_on}
use Rattle.specification.specs.Idle.{found_to_run_idle, find_and_run_idle, find_and_run_idle_flow}
use Rattle.specification.specs.Entry.{idle}
use Rattle.specification.specs.Demands.{RanBy, BestOn, GoodOrder}
use Rattle.specification.specs.Requests.{Request2}
use Rattle.specification.proofs.Replies.{
  Says,
  giving,
  not_both,
  said_of_given,
  gives_if_never_refused,
  gives_less,
  says_known,
  says_then,
  says_unless,
  says_afterwards,
}
use Rattle.specification.proofs.Books.{book_lifts}
use Rattle.specification.proofs.AmountsFiles.{AmountsOrBookRefused, amounts_say, amounts_read}
use Rattle.specification.proofs.Verdicts.{best_of}
use Rattle.specification.proofs.Flows.{length_flow_of}
use Rattle.specification.proofs.Runs.{ran_of}
use Rattle.specification.proofs.Finds.{none_is_good, or_13_says}

-- none of the refusals before 13 applies
pub record Allowed (book amounts flow : List ℕ) : Type 0 where
  pub size : Size
  pub reads : read_amounts book amounts ≡ gives size
  pub not_18 : calls_total book amounts ≤ lots_total book amounts
  pub not_19 : size.calls < 32
  pub not_17 : size.lots * size.calls ≤ length flow

-- the refusals of a run with an idle call, each where those before it do not apply
pub data IdleRefused (book amounts flow : List ℕ) : ℕ → List ℕ → Type 0 where
  of_amounts : {k : ℕ} {vs : List ℕ} → AmountsOrBookRefused book amounts k vs → read_amounts book amounts ≡ refuses k vs
      → IdleRefused book amounts flow k vs
  calls_exceed_lots : {n : Size} → read_amounts book amounts ≡ gives n → lots_total book amounts < calls_total book amounts
      → IdleRefused book amounts flow 18 []
  no_idle_call : {n : Size} → read_amounts book amounts ≡ gives n → calls_total book amounts ≤ lots_total book amounts
      → n.calls ≡ 32 → IdleRefused book amounts flow 19 []
  too_short_flow : {n : Size} → read_amounts book amounts ≡ gives n → calls_total book amounts ≤ lots_total book amounts
      → n.calls < 32 → length flow < n.lots * n.calls → IdleRefused book amounts flow 17 []
  without_order : Allowed book amounts flow → find (enlarged book) ≡ none → IdleRefused book amounts flow 13 []

-- the order of the enlarged book, where none of them applies
pub record IdleGave (book amounts flow : List ℕ) (S : List Pair) : Type 0 where
  pub allowed : Allowed book amounts flow
  pub found : find (enlarged book) ≡ some S

module _ (book amounts flow : List ℕ) where
  pub found_idle_says : Says (IdleGave book amounts flow) (IdleRefused book amounts flow) (found_to_run_idle book amounts flow)
  unfolding found_to_run_idle problem_of
  found_idle_says =
      says_then _ (says_known (amounts_say book amounts)) (λ k vs (q, e). of_amounts q e) (λ n ((read, _), reads).
      says_unless (ltb (lots_total book amounts) (calls_total book amounts)) 18 _ _ (λ t. calls_exceed_lots reads (ltb→lt _ _ t)) (λ enough.
      let total = nltb→le _ _ enough in
      says_unless (eqb (book_calls book) 32) 19 _ _
      (λ t. no_idle_call reads total (rw read.sizes (eqb→eq (book_calls book) 32 t))) (λ other.
      let not_32 : (book_calls book ≡ 32 → ⊥) = λ e. T_not (eqb (book_calls book) 32) other (rw e tt) in
      let few : n.calls < 32 = rw read.sizes (omega (arith, read.calls_within)) in
      says_unless (flow_too_short (problem_of book) flow) 17 _ _
      (λ t. too_short_flow reads total few (rw read.sizes (ltb→lt _ _ t))) (λ enough_room.
      let long : n.lots * n.calls ≤ length flow = rw read.sizes (nltb→le _ _ enough_room) in
      let allowed : Allowed book amounts flow = record { size = n; reads = reads; not_18 = total; not_19 = few; not_17 = long } in
      gives_less (or_13_says (enlarged book) (without_order allowed)) (λ S found. record { allowed = allowed; found = found })))))

  -- the flow has an entry for each pair of a lot and a call
  long_enough : Allowed book amounts flow → (problem_of book).lots * (problem_of book).calls ≤ length flow
  unfolding problem_of
  long_enough allowed = rw (amounts_read book amounts allowed.size allowed.reads).0.sizes at allowed.not_17

  -- the problem's costs are lifted
  lifts_of : Allowed book amounts flow → Lifts (cost_base (book_version book)) (problem_of book) (costs_of book)
  lifts_of allowed = book_lifts (amounts_read book amounts allowed.size allowed.reads).0

  -- the flow buffer keeps its length
  pub length_find_and_run_idle_flow : length (find_and_run_idle_flow book amounts flow) ≡ length flow
  unfolding find_and_run_idle_flow
  length_find_and_run_idle_flow = says_afterwards flow _ (λ s. length s ≡ length flow) found_idle_says refl
      (λ S gave. length_flow_of (problem_of book) _ flow (long_enough gave.allowed))

  pub idle_says : Says (λ o. (S : List Pair) × IdleGave book amounts flow S × (found_to_run_idle book amounts flow ≡ gives S)
      × (o ≡ outcome (problem_of book) (costs_of book) (greedy_idle_on book S amounts)))
      (IdleRefused book amounts flow) (find_and_run_idle book amounts flow)
  unfolding find_and_run_idle
  idle_says = says_then _ (says_known found_idle_says) (λ k vs q. q.0) (λ S (gave, it). giving (S, gave, it, refl))

-- an accepted run, by the order found
module _ (book amounts flow : List ℕ) (S : List Pair) (gave : IdleGave book amounts flow S) where
  abbrev P : Problem
  P = problem_of book

  abbrev base : ℕ
  base = cost_base (book_version book)

  abbrev o : Outcome
  o = outcome P (costs_of book) (greedy_idle_on book S amounts)

  order : OrderOf (enlarged book) S
  order = find_is_order (enlarged book) S gave.found

  monge : Monge (enlarged book) S
  monge = find_is_monge (enlarged book) S gave.found

  ran_by : found_to_run_idle book amounts flow ≡ gives S → RanBy idle book amounts flow o
  unfolding find_and_run_idle_flow
  ran_by it = (
    S,
    gave.found,
    rw it (ran_of P (costs_of book) (idle_kept base P order (lot_amount amounts) (call_amount book amounts)) flow
        (long_enough book amounts flow gave.allowed)),
  )

  least : (x : ℕ → ℕ → ℕ) → MeetsCalls P (lot_amount amounts) (call_amount book amounts) x → o.cost ≤ℤ signed_cost P (costs_of book) x
  least x m = (signed_idle_least (lifts_of book amounts flow gave.allowed) order monge (lot_amount amounts) (call_amount book amounts) m).1

  best_by : BestOn book amounts o
  best_by =
      let (a, b) : (ℕ → ℕ) × (ℕ → ℕ) = (lot_amount amounts, call_amount book amounts) in
      best_of P (costs_of book) a b _ (idle_spends_iff base P order a b monge) (idle_covers_iff base P order a b monge)
      (λ x m. least x (meets_calls_of_meets m)) (idle_most base P order a b monge gave.allowed.not_18)

module _ (book amounts flow : List ℕ) (o : Outcome) (e : find_and_run_idle book amounts flow ≡ gives o) where
  pub ran_idle : RanBy idle book amounts flow o
  ran_idle = let (S, gave, it, is) = said_of_given (idle_says book amounts flow) o e in rw is (ran_by book amounts flow S gave it)

  pub best_idle : BestOn book amounts o
  best_idle = let (S, gave, _, is) = said_of_given (idle_says book amounts flow) o e in rw is (best_by book amounts flow S gave)

-- amounts are read with one size
same_size : (book amounts : List ℕ) {n m : Size} → read_amounts book amounts ≡ gives n → read_amounts book amounts ≡ gives m → n ≡ m
same_size book amounts e f = (amounts_read book amounts _ e).0.sizes ∙ sym (amounts_read book amounts _ f).0.sizes

-- where none of the refusals before 13 applies, there is no other
module _ (book amounts flow : List ℕ) (allowed : Allowed book amounts flow) where
  only_13 : {k : ℕ} {vs : List ℕ} → IdleRefused book amounts flow k vs
      → (◌≡◌ {A = Reply Outcome} (refuses k vs) (refuses 13 [])) × (find (enlarged book) ≡ none)
  only_13 (of_amounts q e) = absurd (not_both allowed.reads e)
  only_13 (calls_exceed_lots _ h) = absurd (omega (arith, allowed.not_18))
  only_13 (no_idle_call reads _ e) = absurd (omega (arith, rw (same_size book amounts allowed.reads reads) at allowed.not_19))
  only_13 (too_short_flow reads _ _ short) = absurd (omega (arith, rw (same_size book amounts allowed.reads reads) at allowed.not_17))
  only_13 (without_order _ e) = (refl, e)

  lifts : Lifts (cost_base (book_version book)) (enlarged book) (enlarged_costs book)
  lifts = idle_lifts (lifts_of book amounts flow allowed)

  pub idle_found : (S : List Pair) → GoodOrder (enlarged book) (enlarged_costs book) S → (o : Outcome) × (find_and_run_idle book amounts flow ≡ gives o)
  idle_found S good =
      let (o, _, e) = gives_if_never_refused (idle_says book amounts flow) (λ k vs q. none_is_good lifts (only_13 q).1 S good) in
      (o, e)

pub request2 : Request2
request2 = record {
  least_cost = λ book amounts flow o e.
      let (S, gave, _, is) = said_of_given (idle_says book amounts flow) o e in
      rw is (least book amounts flow S gave);
}
