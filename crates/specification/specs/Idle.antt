-- The run with an idle call (document 02, request 2): it takes book, amounts and a flow buffer, as finding and running in one call does.
use Rattle.std.specs.Prelude.{List, [], ℕ, ltb, eqb, ℤ}
use Rattle.transport.specs.Problem.{Problem, sum}
use Rattle.transport.specs.Greedy.{Pair, State}
use Rattle.transport.specs.Idle.{with_idle, greedy_idle}
use Rattle.transport.specs.Signed.{idle_costs}
use Rattle.specification.specs.Reply.{Reply, gives, refuse_if, ◌>>=◌, afterwards, Outcome}
use Rattle.specification.specs.Costs.{cost_base}
use Rattle.specification.specs.Book.{book_version, book_calls, problem_of, costs_of}
use Rattle.specification.specs.Amounts.{read_amounts, lot_amount, call_amount}
use Rattle.specification.specs.Run.{outcome, flow_of, flow_too_short}
use Rattle.specification.specs.Find.{order_or13}

-- "the enlarged book": "every lot is eligible for it at cost 0", "it is the last call"; its problem has that cost, as all others, with the
-- base added
abbrev pub enlarged : List ℕ → Problem
enlarged book = with_idle (cost_base (book_version book)) (problem_of book)

-- the cost of each of its pairs, with its sign
abbrev pub enlarged_costs : List ℕ → ℕ → ℕ → ℤ
enlarged_costs book = idle_costs (problem_of book) (costs_of book)

-- "the lots' total", and "the calls' total"
abbrev pub lots_total : List ℕ → List ℕ → ℕ
lots_total book amounts = sum (problem_of book).lots (lot_amount amounts)

abbrev pub calls_total : List ℕ → List ℕ → ℕ
calls_total book amounts = sum (problem_of book).calls (call_amount book amounts)

-- GREEDY by an order of the enlarged book, on the amounts of a file: what is the book's own of it
abbrev pub greedy_idle_on : List ℕ → List Pair → List ℕ → State
greedy_idle_on book S amounts = greedy_idle (problem_of book) S (lot_amount amounts) (call_amount book amounts)

-- "18 when the calls' total exceeds the lots' total, after all other checks of the amounts; 19 when the book already has 32 calls, after 18
-- and before 17; 13 is then about the enlarged book"
unfoldable pub found_to_run_idle : List ℕ → List ℕ → List ℕ → Reply (List Pair)
found_to_run_idle book amounts flow = do
  _ ← read_amounts book amounts
  _ ← refuse_if (ltb (lots_total book amounts) (calls_total book amounts)) 18 []
  _ ← refuse_if (eqb (book_calls book) 32) 19 []
  _ ← refuse_if (flow_too_short (problem_of book) flow) 17 []
  order_or13 (enlarged book)

-- "The flow, units, cost and verdict returned are those of the real calls, .. units in the idle call counting as left": the reply
unfoldable pub find_and_run_idle : List ℕ → List ℕ → List ℕ → Reply Outcome
find_and_run_idle book amounts flow = do
  S ← found_to_run_idle book amounts flow
  gives (outcome (problem_of book) (costs_of book) (greedy_idle_on book S amounts))

-- and the flow buffer afterwards, "the flow laid out by the book's own m"
unfoldable pub find_and_run_idle_flow : List ℕ → List ℕ → List ℕ → List ℕ
find_and_run_idle_flow book amounts flow = afterwards (found_to_run_idle book amounts flow) flow (λ S.
    flow_of (problem_of book) (greedy_idle_on book S amounts).given flow)
