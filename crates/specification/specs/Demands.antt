-- The three demands, with what the change requests add to them, as types over what the entry points reply and leave in their buffers. Above
-- each part stands the sentence it is.
use Rattle.std.specs.Prelude.{◌≡◌, ◌⊎◌, ◌↔◌, cond, List, [], ◌++◌, map, ℕ, ◌+◌, ◌*◌, ◌^◌, ◌≤◌, ◌<◌, length, get_or, take, drop, ℤ, ◌≤ℤ◌}
use Rattle.std.proofs.Math.Option.{some}
use Rattle.std.specs.Int.Signed.{mag}
use Rattle.transport.specs.Problem.{Problem, Eligible, sum, lot_sum, call_sum, units, Allocation, Meets, MeetsCalls, Within}
use Rattle.transport.specs.Greedy.{Pair, greedy}
use Rattle.transport.specs.Order.{OrderOf}
use Rattle.transport.specs.Signed.{signed_cost, SignedMonge, SignedGood}
use Rattle.transport.specs.Finder.{size, find}
use Rattle.specification.specs.declared.Refusal.{Refusal}
use Rattle.specification.specs.Reply.{Reply, gives, refuses, stated, Never, Size, Outcome, full, covered, short}
use Rattle.specification.specs.Bytes.{byte_at, u32_at, order_mark, read_opening}
use Rattle.specification.specs.Costs.{held_cost, Allows}
use Rattle.specification.specs.Book.{largest_book, book_version, read_book, problem_of, costs_of, lot_costs, costs, not_eligible, outside, pair_cost}
use Rattle.specification.specs.Amounts.{amount_limit, read_amounts, lot_amount, call_amount}
use Rattle.specification.specs.OrderFile.{order_count, order_pairs, order_file}
use Rattle.specification.specs.Check.{check_order}
use Rattle.specification.specs.Run.{run_order, run_flow}
use Rattle.specification.specs.Find.{order_length, find_order, find_buffer, find_and_run, find_and_run_flow}
use Rattle.specification.specs.Entry.{Run, run_reply, run_leaves, ItsOrder, last_state, Entry, reply_of, buffers_of}
use Rattle.specification.specs.Text.{decimal, read_digits, text_of, book_most, printed}

-- "a number from the table in document 01", and the values that its line returns
abbrev pub InTable : ℕ → List ℕ → Type 0
InTable k vs = (r : Refusal) × ((stated r).number ≡ k) × ((stated r).values ≡ vs)

-- "either accepted or refused by a number from the table .. and a refusal writes to nothing": what is lent, before and after
abbrev pub Answered : {A B : Type 0} → Reply A → B → B → Type 0
Answered (gives a) before after = Unit {0}
Answered (refuses k vs) before after = InTable k vs × (after ≡ before)

-- Demand 1. "The program as a whole finishes on every input": each entry point is a function that is defined on all files and buffers.
-- Files are lent for reading alone: nothing here gives one later contents. The printing program prints find-and-run's reply (`Demand2.prints`).
pub record Demand1 : Type 0 where
  -- "each file, order and buffer handed to a public entry point is either accepted or refused"
  pub answered : (e : Entry) → Answered (reply_of e) (buffers_of e).0 (buffers_of e).1
  -- accepted or refused, each buffer keeps its length
  pub as_long : (e : Entry) → map length (buffers_of e).1 ≡ map length (buffers_of e).0
  -- "(a lot's costs: by an empty stretch)": of a refused book
  pub costs_of_refused : (book : List ℕ) (lot k : ℕ) (vs : List ℕ) → read_book book ≡ refuses k vs → lot_costs book lot ≡ []
  -- and of a lot number n or more
  pub costs_outside : (book : List ℕ) (lot : ℕ) (n : Size) → read_book book ≡ gives n → n.lots ≤ lot → lot_costs book lot ≡ []

-- "A book is readable if none of the refusals listed for a book under Refused applies to it" (document 01, Words)
abbrev pub Readable : List ℕ → Type 0
Readable book = (n : Size) × (read_book book ≡ gives n)

-- the limits of document 01, Words, with those of the costs by the version (document 02, request 4) and n and m from 0 (request 5), and
-- "Largest book: 4,231 bytes"
pub record BookLimits (book : List ℕ) (n : Size) : Type 0 where
  pub its_lots : (problem_of book).lots ≡ n.lots
  pub its_calls : (problem_of book).calls ≡ n.calls
  pub lots : n.lots ≤ 32
  pub calls : n.calls ≤ 32
  pub costs : (i j : ℕ) → Eligible (problem_of book) i j → Allows (book_version book) (costs_of book i j)
  pub pairs : size (problem_of book) ≤ 1024
  pub bytes : length book ≤ largest_book

-- an order file with the right opening and length; which pairs it holds is another question
pub record OrderShaped (order : List ℕ) : Type 0 where
  pub opening : read_opening order_mark 1 order ≡ gives tt
  pub whole : length order ≡ 7 + 2 * order_count order

-- an order file of a readable book that holds an order of the eligible pairs, which is a Monge sequence of the book
pub record Passing (book order : List ℕ) : Type 0 where
  pub readable : Readable book
  pub shaped : OrderShaped order
  pub each_once : OrderOf (problem_of book) (order_pairs order)
  pub monge : SignedMonge (problem_of book) (costs_of book) (order_pairs order)

-- "the sums over the flow written" (document 01, Running an order): units
abbrev pub flow_units : Problem → List ℕ → ℕ
flow_units P flow = sum P.lots (λ i. sum P.calls (λ j. get_or flow (i * P.calls + j) 0))

-- and cost
abbrev pub flow_cost : Problem → (ℕ → ℕ → ℤ) → List ℕ → ℤ
flow_cost P c flow = signed_cost P c (λ i j. get_or flow (i * P.calls + j) 0)

-- what an accepted run on the amounts a and b writes and replies, c being the cost of each pair and x GREEDY's units of it
pub record Ran (P : Problem) (c : ℕ → ℕ → ℤ) (a b : ℕ → ℕ) (x : ℕ → ℕ → ℕ) (before after : List ℕ) (o : Outcome) : Type 0 where
  -- "a run's flow .. [is that] of their GREEDY"
  pub flow : (i j : ℕ) → i < P.lots → j < P.calls → get_or after (i * P.calls + j) 0 ≡ x i j
  -- these are an allocation: "0 if not eligible", and "a lot's units sum to at most its amount, a call's likewise" (document 01)
  pub allocation : Allocation P a b x
  -- "entries from n times m on keep their contents" (document 01)
  pub kept : (k : ℕ) → get_or after (P.lots * P.calls + k) 0 ≡ get_or before (P.lots * P.calls + k) 0
  -- "units and cost are those of their GREEDY"
  pub its_units : o.units ≡ units P x
  pub its_cost : o.cost ≡ signed_cost P c x
  -- and "the sums over the flow written"
  pub units_of_flow : o.units ≡ flow_units P after
  pub cost_of_flow : o.cost ≡ flow_cost P c after
  -- "Full .. if nothing is left in any lot or call" (document 01)
  pub full_told : (o.verdict ≡ full) ↔ Meets P a b x
  -- "Covered .. when every call is met and some lot has units left" (document 02, request 1)
  pub covered_told : (o.verdict ≡ covered) ↔ (MeetsCalls P a b x × ((i : ℕ) × (i < P.lots) × (lot_sum P x i < a i)))
  -- "Short when a call still lacks units" (request 1)
  pub short_told : (o.verdict ≡ short) ↔ ((j : ℕ) × (j < P.calls) × (call_sum P x j < b j))

-- what an accepted run writes and replies, by its order; with an idle call "The flow, units, cost and verdict returned are those of the real
-- calls, the flow laid out by the book's own m, units in the idle call counting as left" (document 02, request 2): what a lot has left is its
-- amount less the units written for it
abbrev pub RanBy : Run → List ℕ → List ℕ → List ℕ → Outcome → Type 0
RanBy run book amounts flow o = (S : List Pair) × ItsOrder run book S
    × Ran (problem_of book) (costs_of book) (lot_amount amounts) (call_amount book amounts) (last_state run book S amounts).given
    flow (run_leaves run book amounts flow) o

-- how many calls below j a lot is eligible for
abbrev pub calls_below : Problem → ℕ → ℕ → ℕ
calls_below P i j = sum j (λ l. cond (P.admits i l) 1 0)

-- "the order file that the finder wrote, which ends at the length it replied" (document 01, Words)
abbrev pub returned : List ℕ → List ℕ → List ℕ
returned book buffer = take (order_length book) (find_buffer book buffer)

-- Demand 2
pub record Demand2 : Type 0 where
  -- "Book, order and amounts are read as document 01 lays out": Book, OrderFile and Amounts of this folder are that lay-out. A book
  -- that is read is within the limits
  pub book_limits : (book : List ℕ) (n : Size) → read_book book ≡ gives n → BookLimits book n
  -- and one of "4,231 bytes" (document 01) is read
  pub largest : (book : List ℕ) × Readable book × (length book ≡ 4231) × ((k : ℕ) → k < length book → byte_at book k < 256)
  -- "The costs of a lot are handed back as that stretch" (document 01): the cost of (i, j) stands behind those of the lower calls
  pub costs_of_lot : (book : List ℕ) (n : Size) → read_book book ≡ gives n → (i j : ℕ) → Eligible (problem_of book) i j
      → held_cost (book_version book) (u32_at (lot_costs book i) (4 * calls_below (problem_of book) i j)) ≡ costs_of book i j
  -- "The number of set bits tells how many costs the lot has" (document 01)
  pub lot_costs_length : (book : List ℕ) (n : Size) → read_book book ≡ gives n → (i : ℕ) → i < (problem_of book).lots
      → length (lot_costs book i) ≡ 4 * calls_below (problem_of book) i n.calls
  -- the cost of one pair: that of an eligible pair is replied
  pub pair_costs : (book : List ℕ) (n : Size) → read_book book ≡ gives n → (i j : ℕ) → Eligible (problem_of book) i j
      → pair_cost book i j ≡ gives (costs (costs_of book i j))
  -- of another pair of the book's lots and calls, that it is not eligible
  pub pair_not_eligible : (book : List ℕ) (n : Size) → read_book book ≡ gives n → (i j : ℕ) → i < n.lots → j < n.calls
      → (Eligible (problem_of book) i j → ⊥) → pair_cost book i j ≡ gives not_eligible
  -- and of any other, that it is outside the book
  pub pair_outside : (book : List ℕ) (n : Size) → read_book book ≡ gives n → (i j : ℕ) → (n.lots ≤ i) ⊎ (n.calls ≤ j)
      → pair_cost book i j ≡ gives outside
  -- amounts that are read have n and m of their book and are within the limits
  pub amounts_limits : (book amounts : List ℕ) (n : Size) → read_amounts book amounts ≡ gives n
      → (read_book book ≡ gives n) × Within amount_limit (problem_of book) (lot_amount amounts) (call_amount book amounts)
  -- the order file of a list has the right opening and length, and its pairs are the list
  pub order_back : (S : List Pair) → OrderShaped (order_file S) × (order_pairs (order_file S) ≡ S)
  -- "an order passes exactly when it is a Monge sequence of the book as Adler, Hoffman and Shamir define it": when
  pub passes : (book order : List ℕ) → Passing book order → check_order book order ≡ gives (order_count order)
  -- and only when
  pub only_these : (book order : List ℕ) (n : ℕ) → check_order book order ≡ gives n → Passing book order
  -- "a run's flow, units and cost are those of their GREEDY", and its verdict says what they leave
  pub runs : (run : Run) (book amounts flow : List ℕ) (o : Outcome) → run_reply run book amounts flow ≡ gives o → RanBy run book amounts flow o
  -- the finder "writes the order file", of the order that it finds; "bytes after it keep their contents" (document 01)
  pub writes : (book buffer : List ℕ) (n : ℕ) → find_order book buffer ≡ gives n
      → (S : List Pair) × (find (problem_of book) ≡ some S) × (find_buffer book buffer ≡ order_file S ++ drop (order_length book) buffer)
  -- "an order written by the finder passes when read back"
  pub read_back : (book buffer : List ℕ) (n : ℕ) → find_order book buffer ≡ gives n
      → check_order book (returned book buffer) ≡ gives (size (problem_of book))
  -- finding and running in one call "replies and writes as the run by the order found" (document 01)
  pub by_find_and_run : (book buffer : List ℕ) (n : ℕ) → find_order book buffer ≡ gives n → (amounts flow : List ℕ)
      → (find_and_run book amounts flow ≡ run_order book (returned book buffer) amounts flow)
      × (find_and_run_flow book amounts flow ≡ run_flow book (returned book buffer) amounts flow)
  -- the printing program "reads the book, then the amounts, finds an order, runs" (document 01): its text is that of the reply to the two whole
  -- files, and of the flow written, in any flow buffer of 1,024 entries or more
  pub prints : (book amounts flow : List ℕ) → 1024 ≤ length flow
      → printed book amounts ≡ text_of (find_and_run book amounts flow) (problem_of book) (find_and_run_flow book amounts flow)
  -- it never prints 17
  pub prints_no_17 : (book amounts flow : List ℕ) → 1024 ≤ length flow → Never 17 (find_and_run book amounts flow)
  -- it reads "at most 4,232 .. bytes" of a book (document 01), one more than the largest has
  pub reads_4232 : book_most ≡ 4232
  -- "Decimal" (document 01): digits, the first of a number above 0 being no 0, that spell the number, if it has at most 17,
  pub decimal_digits : (n k : ℕ) → k < length (decimal n) → (48 ≤ get_or (decimal n) k 0) × (get_or (decimal n) k 0 ≤ 57)
  pub decimal_first : (n : ℕ) → 0 < n → n < 10 ^ 17 → 48 < get_or (decimal n) 0 0
  pub decimal_back : (n : ℕ) → n < 10 ^ 17 → read_digits 0 (decimal n) ≡ n
  -- as units and cost have
  pub digits_17 : (book amounts flow : List ℕ) (o : Outcome) → find_and_run book amounts flow ≡ gives o
      → (o.units < 10 ^ 17) × (mag o.cost < 10 ^ 17)

-- "An order of the eligible pairs is good if, for all amounts of equal total within the limits, GREEDY by it meets everything whenever
-- some allocation does, and every other allocation that meets everything costs at least as much" (`SignedGood`, in transport), c being the
-- cost of each pair
abbrev pub GoodOrder : Problem → (ℕ → ℕ → ℤ) → List Pair → Type 0
GoodOrder P c S = OrderOf P S × SignedGood amount_limit P c S

-- what the reply of an accepted run on the amounts a and b says, c being the cost of each pair
pub record Best (P : Problem) (c : ℕ → ℕ → ℤ) (a b : ℕ → ℕ) (o : Outcome) : Type 0 where
  -- it "says Full exactly when some allocation meets everything"
  pub full_iff : (o.verdict ≡ full) ↔ ((x : ℕ → ℕ → ℕ) × Meets P a b x)
  -- "A run that isn't refused says Covered or Full exactly when some allocation meets every call, whatever the totals" (request 1)
  pub met_iff : ((o.verdict ≡ full) ⊎ (o.verdict ≡ covered)) ↔ ((x : ℕ → ℕ → ℕ) × MeetsCalls P a b x)
  -- "The cost of meeting everything is least"; it "may be below zero", and it is "that least one under either version" (document 02,
  -- request 4)
  pub least_cost : (x : ℕ → ℕ → ℕ) → Meets P a b x → o.cost ≤ℤ signed_cost P c x
  -- "and the unit count greatest"
  pub greatest_units : (x : ℕ → ℕ → ℕ) → Allocation P a b x → units P x ≤ o.units

-- of a book and an amounts file
abbrev pub BestOn : List ℕ → List ℕ → Outcome → Type 0
BestOn book amounts o = Best (problem_of book) (costs_of book) (lot_amount amounts) (call_amount book amounts) o

-- what holds of an order file that passes the check; of every run of the book by it, that it "otherwise .. replies GREEDY's units and cost" is
-- in `Demand2.runs`, and what that reply says in `Demand3.best`
pub record ByPassing (book order : List ℕ) : Type 0 where
  -- "The returned order is good"
  pub good : GoodOrder (problem_of book) (costs_of book) (order_pairs order)
  -- "Whatever the amounts .., totals equal or not, every other allocation has at most as many units as GREEDY" by it, within the limits or not
  pub most_units : (a b : ℕ → ℕ) (x : ℕ → ℕ → ℕ) → Allocation (problem_of book) a b x
      → units (problem_of book) x ≤ units (problem_of book) (greedy (order_pairs order) a b).given
  -- "A run of the book by it is refused only for its amounts or its flow buffer"
  pub refused_only : (amounts flow : List ℕ) (k : ℕ) (vs : List ℕ) → run_order book order amounts flow ≡ refuses k vs
      → (read_amounts book amounts ≡ refuses k vs) ⊎ ((k ≡ 17) × (length flow < (problem_of book).lots * (problem_of book).calls))

-- Demand 3
pub record Demand3 : Type 0 where
  -- "For every readable book the finder, given a long enough buffer, returns an order exactly when some order of the eligible pairs is
  -- good": when; only when, since the returned order is one
  pub finds : (book buffer : List ℕ) → Readable book → order_length book ≤ length buffer
      → (S : List Pair) → GoodOrder (problem_of book) (costs_of book) S → find_order book buffer ≡ gives (order_length book)
  -- "and replies 13 otherwise"
  pub or_13 : (book buffer : List ℕ) → Readable book → order_length book ≤ length buffer
      → ((S : List Pair) → GoodOrder (problem_of book) (costs_of book) S → ⊥) → find_order book buffer ≡ refuses 13 []
  -- there is no third reply
  pub one_of_two : (book buffer : List ℕ) → Readable book → order_length book ≤ length buffer
      → (find_order book buffer ≡ gives (order_length book)) ⊎ (find_order book buffer ≡ refuses 13 [])
  -- the returned order; what a run by it replies is in `Demand2.runs` and `best`, of `by_order (returned book buffer)`
  pub by_returned : (book buffer : List ℕ) (n : ℕ) → find_order book buffer ≡ gives n
      → (n ≡ order_length book) × ByPassing book (returned book buffer)
  -- it is one of those that pass, and the same holds of each of them
  pub by_passing : (book order : List ℕ) (n : ℕ) → check_order book order ≡ gives n → ByPassing book order
  -- which are the files of the good orders: one that holds a good order passes
  pub good_passes : (book order : List ℕ) → Readable book → OrderShaped order → GoodOrder (problem_of book) (costs_of book) (order_pairs order)
      → check_order book order ≡ gives (order_count order)
  -- what the reply of every run "that isn't refused" (request 1) says
  pub best : (run : Run) (book amounts flow : List ℕ) (o : Outcome) → run_reply run book amounts flow ≡ gives o → BestOn book amounts o
