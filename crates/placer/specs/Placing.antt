-- Finding and running past the refusals of the files: what is replied and written, by the problem that is searched and by the amounts.
use Rattle.std.specs.Prelude.{◌≡◌, Result, Bool, true, List, [], ℕ, ◌<◌, get_or}
use Rattle.transport.specs.Problem.{Problem}
use Rattle.transport.specs.Greedy.{Pair, start, greedy}
use Rattle.transport.specs.Idle.{real_part}
use Rattle.specification.specs.declared.Placed.{Placed}
use Rattle.specification.specs.declared.Refusal.{Refusal}
use Rattle.specification.specs.Reply.{Reply, gives, refuse_if, ◌>>=◌, afterwards, Outcome, stated_placed}
use Rattle.specification.specs.Book.{problem_of, costs_of}
use Rattle.specification.specs.Run.{outcome, flow_of, flow_too_short}
use Rattle.specification.specs.Find.{order_or13}
use Rattle.finder.specs.Searched.{searched}
use Rattle.remaining.specs.declared.Remaining.{Remaining}
use Rattle.remaining.specs.States.{HoldsState}

-- what is asked beside a book that was read, with n lots and m calls: there is room for an idle call where there is one, and the lots' amounts fit
-- an entry of the flow
pub record Supplied (n m : ℕ) (idle : Bool) (r : Remaining 32) : Type 0 where
  pub room : idle ≡ true → m < 32
  pub fits : (i : ℕ) → i < n → get_or r.lots i 0 < 4294967296

-- the order found for E, "then 17, and 13 last", the flow being laid out for the book
abbrev pub found_for : List ℕ → Problem → List ℕ → Reply (List Pair)
found_for book E flow = do
  _ ← refuse_if (flow_too_short (problem_of book) flow) 17 []
  order_or13 E

-- the reply, of the book's own calls
abbrev pub placed_by : List ℕ → Problem → (ℕ → ℕ) → (ℕ → ℕ) → List ℕ → Reply Outcome
placed_by book E a b flow = do
  S ← found_for book E flow
  gives (outcome (problem_of book) (costs_of book) (real_part (problem_of book) (greedy S a b)))

-- and the flow buffer afterwards
abbrev pub flow_by : List ℕ → Problem → (ℕ → ℕ) → (ℕ → ℕ) → List ℕ → List ℕ
flow_by book E a b flow = afterwards (found_for book E flow) flow (λ S.
    flow_of (problem_of book) (real_part (problem_of book) (greedy S a b)).given flow)

-- both, for all amounts that the arrays hold; E has the idle call or not
abbrev pub Places : Bool → List ℕ → Remaining 32 → List ℕ → Result Placed Refusal → List ℕ → Type 0
Places idle book r flow reply flow' =
    (a b : ℕ → ℕ) → HoldsState (problem_of book).lots (searched idle book).calls r (start a b)
    → (stated_placed reply ≡ placed_by book (searched idle book) a b flow) × (flow' ≡ flow_by book (searched idle book) a b flow)
