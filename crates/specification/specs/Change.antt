-- Lots that arrive during the day (document 02, request 8): "Given book, order, amounts and the flow so far, one lot or call takes a new
-- amount, which is written into the caller's amounts file, and the flow is brought up to date". One definition for a lot and for a call.
use Rattle.std.specs.Prelude.{Bool, not, List, [], ◌∷◌, ℕ, ◌+◌, ◌*◌, ◌/◌, ◌%◌, get_or, set, ltb}
use Rattle.transport.specs.Greedy.{Pair, State}
use Rattle.transport.specs.Changes.{Change, lot_takes, call_takes, concerns, earlier, entries_fit, updated}
use Rattle.specification.specs.Reply.{Reply, gives, refuse_if, ◌>>=◌, afterwards, Outcome}
use Rattle.specification.specs.Book.{book_lots, book_calls, problem_of, costs_of}
use Rattle.specification.specs.Amounts.{read_amounts, lot_amount, call_amount}
use Rattle.specification.specs.OrderFile.{order_pairs}
use Rattle.specification.specs.Check.{check_order}
use Rattle.specification.specs.Run.{outcome, flow_of, flow_too_short}

-- a list of bytes with a 32-bit number put at an offset, little-endian; its length stays
abbrev pub put_u32 : List ℕ → ℕ → ℕ → List ℕ
put_u32 s at v =
    set (set (set (set s at (v % 256)) (at + 1) (v / 256 % 256)) (at + 2) (v / 65536 % 256)) (at + 3) (v / 16777216 % 256)

-- which number of the amounts file is the amount of "that lot or call"
abbrev pub changed_field : List ℕ → Change → ℕ
changed_field book (lot_takes i v) = i
changed_field book (call_takes j v) = book_lots book + j

-- its "new amount": what the file is to hold, so that of a lot its reserve (request 7) is a part of it
abbrev pub new_amount : Change → ℕ
new_amount (lot_takes i v) = v
new_amount (call_takes j v) = v

-- whether it is a lot or call of the book
abbrev pub is_in_book : List ℕ → Change → Bool
is_in_book book (lot_takes i v) = ltb i (book_lots book)
is_in_book book (call_takes j v) = ltb j (book_calls book)

-- the amounts file "with the new amount in place"
abbrev pub amounts_with : List ℕ → List ℕ → Change → List ℕ
amounts_with book amounts c = put_u32 amounts (7 + 4 * changed_field book c) (new_amount c)

-- "the flow so far": entry i times m plus j of the flow buffer
abbrev pub flow_so_far : List ℕ → List ℕ → ℕ → ℕ → ℕ
flow_so_far book flow i j = get_or flow (i * (problem_of book).calls + j) 0

-- whether the entries of the pairs that precede the first one of that lot or call fit the amounts of this file
abbrev pub earlier_fit : List ℕ → List Pair → List ℕ → List ℕ → Change → Bool
earlier_fit book S amounts flow c =
    entries_fit (problem_of book) (lot_amount amounts) (call_amount book amounts) (flow_so_far book flow) (earlier (concerns c) S)

-- "Pairs from that first one on are given units as in a run, from what the earlier entries leave of the amounts" of this file
abbrev pub updated_on : List ℕ → List Pair → List ℕ → List ℕ → Change → State
updated_on book S amounts flow c = updated (concerns c) S (lot_amount amounts) (call_amount book amounts) (flow_so_far book flow)

-- "9, with place 0, after the order's checks, for a lot or call outside the book"; "16 and 21 are tested with the new amount in place;
-- 22 .. after 17"; "the reply is a run's, over the flow that then stands"
unfoldable pub change : List ℕ → List ℕ → List ℕ → List ℕ → Change → Reply Outcome
change book order amounts flow c = do
  _ ← check_order book order
  _ ← refuse_if (not (is_in_book book c)) 9 (0 ∷ [])
  _ ← read_amounts book (amounts_with book amounts c)
  _ ← refuse_if (flow_too_short (problem_of book) flow) 17 []
  _ ← refuse_if (not (earlier_fit book (order_pairs order) (amounts_with book amounts c) flow c)) 22 []
  gives (outcome (problem_of book) (costs_of book) (updated_on book (order_pairs order) (amounts_with book amounts c) flow c))

-- the caller's amounts file afterwards: as it was where the change is refused
unfoldable pub change_amounts : List ℕ → List ℕ → List ℕ → List ℕ → Change → List ℕ
change_amounts book order amounts flow c = afterwards (change book order amounts flow c) amounts (λ _. amounts_with book amounts c)

-- and the flow buffer
unfoldable pub change_flow : List ℕ → List ℕ → List ℕ → List ℕ → Change → List ℕ
change_flow book order amounts flow c = afterwards (change book order amounts flow c) flow (λ _.
    flow_of (problem_of book) (updated_on book (order_pairs order) (amounts_with book amounts c) flow c).given flow)
