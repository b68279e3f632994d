-- Request 8 (document 02): lots that arrive during the day. What one change replies and leaves in its two buffers is `change`, `change_amounts` and
-- `change_flow`, and when it is refused is `change_causes`. What is promised of it, as of the entry points in `Demands` and `Refused`, and of
-- lists of changes.
use Rattle.std.specs.Prelude.{◌≡◌, ◌⊎◌, ◌↔◌, List, [], ◌∷◌, ◌++◌, ℕ, ◌+◌, ◌*◌, ◌≤◌, ◌<◌, T, length, get_or}
use Rattle.transport.specs.Problem.{Eligible}
use Rattle.transport.specs.Greedy.{Pair, pair}
use Rattle.transport.specs.Order.{times}
use Rattle.transport.specs.Changes.{is_of_lot, is_of_call, Change, lot_takes, call_takes, concerns, earlier, entry_sum}
use Rattle.specification.specs.Reply.{Reply, gives, refuses, Never, Outcome}
use Rattle.specification.specs.Bytes.{byte_at}
use Rattle.specification.specs.Book.{book_lots, book_calls, problem_of, costs_of}
use Rattle.specification.specs.Amounts.{amount_at, lot_amount, call_amount}
use Rattle.specification.specs.OrderFile.{order_pairs}
use Rattle.specification.specs.Run.{run_order, run_flow}
use Rattle.specification.specs.Change.{changed_field, new_amount, amounts_with, flow_so_far, updated_on, change, change_amounts, change_flow}
use Rattle.specification.specs.Entry.{by_order}
use Rattle.specification.specs.Demands.{InTable, Ran, RanBy, BestOn}
use Rattle.specification.specs.Refused.{Causes, cause, None, ◌then◌, amounts_causes, order_causes, flow_short, order_numbers, among}

-- "a lot or call outside the book"
abbrev pub Outside : List ℕ → Change → Type 0
Outside book (lot_takes i v) = book_lots book ≤ i
Outside book (call_takes j v) = book_calls book ≤ j

-- "the entries of those earlier pairs", which "precede, in the order, the first pair of that lot or call", "sum, for some lot or call, to more
-- than its amount": the amounts are those of this file
abbrev pub Exceeding : List ℕ → List ℕ → List ℕ → List ℕ → Change → Type 0
Exceeding book order amounts flow c =
    let x : ℕ → ℕ → ℕ = flow_so_far book flow in
    let S : List Pair = earlier (concerns c) (order_pairs order) in
    ((i : ℕ) × (i < book_lots book) × (lot_amount amounts i < entry_sum (is_of_lot i) x S))
    ⊎ ((j : ℕ) × (j < book_calls book) × (call_amount book amounts j < entry_sum (is_of_call j) x S))

-- when a change is refused, in the sequence of the tests: "16 and 21 are tested with the new amount in place; 22 .. after 17; 9, with place 0,
-- after the order's checks"
abbrev pub change_causes : List ℕ → List ℕ → List ℕ → List ℕ → Change → Causes
change_causes book order amounts flow c =
    order_causes book order
    then cause 9 (0 ∷ []) (Outside book c)
    then amounts_causes book (amounts_with book amounts c)
    then flow_short book flow
    then cause 22 [] (Exceeding book order (amounts_with book amounts c) flow c)

-- the numbers of these causes
abbrev pub change_numbers : List ℕ
change_numbers = order_numbers ++ (15 ∷ 16 ∷ 17 ∷ 21 ∷ 22 ∷ [])

-- "a number from the table in document 01", with the values that its line returns; or 22, which returns none
abbrev pub InTableOr22 : ℕ → List ℕ → Type 0
InTableOr22 k vs = InTable k vs ⊎ ((k ≡ 22) × (vs ≡ []))

-- what an accepted change leaves and replies: "Pairs from that first one on are given units as in a run, from what the earlier entries leave of
-- the amounts; the reply is a run's, over the flow that then stands", by the amounts that it leaves
abbrev pub RanChange : (book order amounts flow : List ℕ) → Change → Outcome → Type 0
RanChange book order amounts flow c o =
    let after : List ℕ = change_amounts book order amounts flow c in
    Ran (problem_of book) (costs_of book) (lot_amount after) (call_amount book after) (updated_on book (order_pairs order) after flow c).given
    flow (change_flow book order amounts flow c) o

-- what an accepted change leaves in the two buffers
pub record Changed (book order amounts flow : List ℕ) (c : Change) : Type 0 where
  -- the "new amount .. is written into the caller's amounts file", in its field
  pub its_field : new_amount c < 4294967296 → amount_at (change_amounts book order amounts flow c) (changed_field book c) ≡ new_amount c
  -- and nowhere else
  pub other_bytes : (k : ℕ) → (k < 7 + 4 * changed_field book c) ⊎ (7 + 4 * changed_field book c + 4 ≤ k)
      → byte_at (change_amounts book order amounts flow c) k ≡ byte_at amounts k
  -- "Entries of pairs that precede, in the order, the first pair of that lot or call are not written", whatever the flow was
  pub earlier_stand : (i j : ℕ) → 0 < times i j (earlier (concerns c) (order_pairs order))
      → get_or (change_flow book order amounts flow c) (i * book_calls book + j) 0 ≡ get_or flow (i * book_calls book + j) 0
  -- "(if it has none, that is every pair)"
  pub if_none : ((i j : ℕ) → 0 < times i j (order_pairs order) → T (concerns c (pair i j)) → ⊥)
      → earlier (concerns c) (order_pairs order) ≡ order_pairs order
  -- "entries of ineligible pairs become 0"
  pub where_not_eligible : (i j : ℕ) → i < book_lots book → j < book_calls book → (Eligible (problem_of book) i j → ⊥)
      → get_or (change_flow book order amounts flow c) (i * book_calls book + j) 0 ≡ 0

-- what the caller holds: the amounts file, the flow buffer, and the last answer
pub record Held : Type 0 where
  pub amounts : List ℕ
  pub flow : List ℕ
  pub answer : Outcome

-- the last answer after one more reply: a refusal leaves it
abbrev pub answer_after : Reply Outcome → Outcome → Outcome
answer_after (gives o) last = o
answer_after (refuses k vs) last = last

-- what is held after one change
abbrev pub after_change : List ℕ → List ℕ → Held → Change → Held
after_change book order h c = record {
  amounts = change_amounts book order h.amounts h.flow c;
  flow = change_flow book order h.amounts h.flow c;
  answer = answer_after (change book order h.amounts h.flow c) h.answer;
}

-- and after a "list of such changes .. all on that run's book, order, amounts file and flow buffer"; "Nothing else writes to either buffer"
unfoldable pub after_changes : List ℕ → List ℕ → Held → List Change → Held
after_changes book order h [] = h
after_changes book order h (c ∷ cs) = after_changes book order (after_change book order h c) cs

-- the list comes "after an accepted run", whose answer is o
abbrev pub held_after : List ℕ → List ℕ → List ℕ → List ℕ → Outcome → List Change → Held
held_after book order amounts flow o cs =
    after_changes book order (record { amounts = amounts; flow = run_flow book order amounts flow; answer = o }) cs

-- what holds after each list of changes: h is held
pub record AsRun (book order flow : List ℕ) (h : Held) : Type 0 where
  -- "the flow, verdict, units and cost are those of a run from the beginning with the last amounts",
  pub its_answer : run_order book order h.amounts flow ≡ gives h.answer
  pub its_flow : run_flow book order h.amounts flow ≡ h.flow
  -- so all is promised of them that is promised of that run
  pub ran : RanBy (by_order order) book h.amounts flow h.answer
  pub best : BestOn book h.amounts h.answer
  -- and of a change that follows 22 never comes
  pub never_22 : (c : Change) → Never 22 (change book order h.amounts h.flow c)

pub record Request8 : Type 0 where
  -- accepted or refused, and "a refused one changing nothing"
  pub answered : (book order amounts flow : List ℕ) (c : Change) (k : ℕ) (vs : List ℕ) → change book order amounts flow c ≡ refuses k vs
      → InTableOr22 k vs × (change_amounts book order amounts flow c ≡ amounts) × (change_flow book order amounts flow c ≡ flow)
  -- accepted or refused, both buffers keep their lengths
  pub as_long : (book order amounts flow : List ℕ) (c : Change)
      → (length (change_amounts book order amounts flow c) ≡ length amounts) × (length (change_flow book order amounts flow c) ≡ length flow)
  -- a change is refused by k with vs exactly where that is the first cause that applies,
  pub by_first : (book order amounts flow : List ℕ) (c : Change) (k : ℕ) (vs : List ℕ)
      → (change book order amounts flow c ≡ refuses k vs) ↔ change_causes book order amounts flow c k vs
  -- and accepted exactly where none applies;
  pub accepted : (book order amounts flow : List ℕ) (c : Change)
      → ((o : Outcome) × (change book order amounts flow c ≡ gives o)) ↔ None (change_causes book order amounts flow c)
  -- so it is refused by these numbers alone
  pub by_its_own : (book order amounts flow : List ℕ) (c : Change) (k : ℕ) (vs : List ℕ) → change book order amounts flow c ≡ refuses k vs
      → T (among k change_numbers)
  -- the flow that an accepted change leaves, and its reply, are those of GREEDY from its first pair on
  pub ran : (book order amounts flow : List ℕ) (c : Change) (o : Outcome) → change book order amounts flow c ≡ gives o
      → RanChange book order amounts flow c o
  -- and of both buffers besides
  pub changed : (book order amounts flow : List ℕ) (c : Change) (o : Outcome) → change book order amounts flow c ≡ gives o
      → Changed book order amounts flow c
  -- "For every list of such changes after an accepted run, .. a refused one changing nothing"
  pub as_a_run : (book order amounts flow : List ℕ) (o : Outcome) → run_order book order amounts flow ≡ gives o → (cs : List Change)
      → AsRun book order flow (held_after book order amounts flow o cs)
