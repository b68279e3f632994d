-- Finding an order, and finding and running in one call (document 01, "Finding an order").
use Rattle.std.specs.Prelude.{List, [], ◌++◌, ℕ, ◌+◌, ◌*◌, length, drop, ltb}
use Rattle.std.proofs.Math.Option.{some, none}
use Rattle.transport.specs.Problem.{Problem}
use Rattle.transport.specs.Greedy.{Pair}
use Rattle.transport.specs.Finder.{find, size}
use Rattle.specification.specs.Reply.{Reply, gives, refuses, refuse_if, ◌>>=◌, afterwards, Outcome}
use Rattle.specification.specs.Book.{read_book, problem_of, costs_of}
use Rattle.specification.specs.Amounts.{read_amounts}
use Rattle.specification.specs.OrderFile.{order_file}
use Rattle.specification.specs.Run.{greedy_on, outcome, flow_of, flow_too_short}

-- "7 bytes plus two for each eligible pair"
abbrev pub order_length : List ℕ → ℕ
order_length book = 7 + 2 * size (problem_of book)

-- the order that the finder takes pair by pair, or 13: "If pairs remain and none is free, no order exists"
abbrev pub order_or13 : Problem → Reply (List Pair)
order_or13 P = elim (find P) [ none ↦ refuses 13 [] | some S ↦ gives S ]

-- the order that is found: "book, .. then 17, and 13 last"
unfoldable pub found_order : List ℕ → List ℕ → Reply (List Pair)
found_order book buffer = do
  _ ← read_book book
  _ ← refuse_if (ltb (length buffer) (order_length book)) 17 []
  order_or13 (problem_of book)

-- it "replies with the file's length"
unfoldable pub find_order : List ℕ → List ℕ → Reply ℕ
find_order book buffer = do
  _ ← found_order book buffer
  gives (order_length book)

-- the order buffer afterwards: the order file; "bytes after it keep their contents"
unfoldable pub find_buffer : List ℕ → List ℕ → List ℕ
find_buffer book buffer = afterwards (found_order book buffer) buffer (λ S. order_file S ++ drop (order_length book) buffer)

-- finding and running in one call, the order: "book, .. amounts, then 17, and 13 last"; 17 is the flow buffer's
unfoldable pub found_to_run : List ℕ → List ℕ → List ℕ → Reply (List Pair)
found_to_run book amounts flow = do
  _ ← read_amounts book amounts
  _ ← refuse_if (flow_too_short (problem_of book) flow) 17 []
  order_or13 (problem_of book)

-- it "replies and writes as the run by the order found": its reply
unfoldable pub find_and_run : List ℕ → List ℕ → List ℕ → Reply Outcome
find_and_run book amounts flow = do
  S ← found_to_run book amounts flow
  gives (outcome (problem_of book) (costs_of book) (greedy_on book S amounts))

-- and the flow buffer afterwards
unfoldable pub find_and_run_flow : List ℕ → List ℕ → List ℕ → List ℕ
find_and_run_flow book amounts flow = afterwards (found_to_run book amounts flow) flow (λ S.
    flow_of (problem_of book) (greedy_on book S amounts).given flow)
