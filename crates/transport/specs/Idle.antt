-- The run with an idle call (document 02, request 2). The paper assumes equal totals; the idle call's amount makes them equal.
use Rattle.std.specs.Prelude.{◌||◌, List, ℕ, suc, ◌+◌, ◌-◌, eqb}
use Rattle.transport.specs.Problem.{Problem, sum}
use Rattle.transport.specs.Greedy.{Pair, put, State, greedy}

-- "the enlarged book": one call more, the last, and "every lot is eligible for it at cost 0"; where a base is added to every cost of the
-- problem (`Lifts`), it is added to this one
abbrev pub with_idle : ℕ → Problem → Problem
with_idle base P = record {
  lots = P.lots;
  calls = suc P.calls;
  admits = λ i j. eqb j P.calls || P.admits i j;
  cost = λ i. put (P.cost i) P.calls base;
}

-- its amount: "the lots' total less the calls' total" (where the calls' total is higher, the run is refused)
abbrev pub idle_amount : Problem → (ℕ → ℕ) → (ℕ → ℕ) → ℕ
idle_amount P a b = sum P.lots a - sum P.calls b

-- the amounts of the enlarged book's calls
abbrev pub idle_amounts : Problem → (ℕ → ℕ) → (ℕ → ℕ) → ℕ → ℕ
idle_amounts P a b = put b P.calls (idle_amount P a b)

-- the units of the real calls alone
abbrev pub without_idle : Problem → (ℕ → ℕ → ℕ) → ℕ → ℕ → ℕ
without_idle P x i = put (x i) P.calls 0

-- of what GREEDY keeps for the enlarged book, what is the book's own: "those of the real calls, .. units in the idle call counting as left"
abbrev pub real_part : Problem → State → State
real_part P s = record {
  left = λ i. s.left i + s.given i P.calls;
  lacks = s.lacks;
  given = without_idle P s.given;
}

-- what the run with an idle call returns, by an order of the enlarged book
abbrev pub greedy_idle : Problem → List Pair → (ℕ → ℕ) → (ℕ → ℕ) → State
greedy_idle P S a b = real_part P (greedy S a (idle_amounts P a b))
