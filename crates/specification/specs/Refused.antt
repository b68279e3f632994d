-- What each refusal means (document 01, "Refused"; document 02). The causes of each entry point stand in the sequence in which they are looked
-- at, and it is refused exactly where one applies, by the first that does. Who believes this page need not read the tests of the definitions.
use Rattle.std.specs.Prelude.{◌≡◌, ◌⊎◌, ◌↔◌, Bool, false, ◌||◌, List, [], ◌∷◌, ◌++◌, ℕ, suc, ◌+◌, ◌*◌, ◌≤◌, ◌<◌, T, eqb, ℤ, length, get_or, take, drop}
use Rattle.transport.specs.Problem.{Problem, Eligible}
use Rattle.transport.specs.Greedy.{Pair, pair}
use Rattle.transport.specs.Order.{times}
use Rattle.transport.specs.Signed.{SignedFit}
use Rattle.specification.specs.Reply.{gives, refuses, Size}
use Rattle.specification.specs.Bytes.{byte_at, u16_at, book_mark, order_mark, amounts_mark}
use Rattle.specification.specs.Costs.{held_cost, Allows}
use Rattle.specification.specs.Book.{bit, row_word, row_size, row_cost, book_version, book_lots, book_calls, row_at, problem_of, costs_of}
use Rattle.specification.specs.Amounts.{amount_limit, amount_at, amounts_length, reserve_at}
use Rattle.specification.specs.OrderFile.{order_count, order_pairs}
use Rattle.specification.specs.Find.{order_length}
use Rattle.specification.specs.Idle.{enlarged, enlarged_costs, lots_total, calls_total}
use Rattle.specification.specs.Entry.{Run, by_order, by_found, idle, panel, Entry, reads_book, reads_amounts, costs_pair, checks, finds, runs, reply_of}
use Rattle.specification.specs.Demands.{GoodOrder}

-- some causes: by which number and values something is refused, and why
abbrev pub Causes : Type 1
Causes = ℕ → List ℕ → Type 0

-- a line of the table, with what it says
abbrev pub cause : ℕ → List ℕ → Type 0 → Causes
cause number values Holds k vs = (k ≡ number) × (vs ≡ values) × Holds

-- none of them applies
abbrev pub None : Causes → Type 0
None C = (k : ℕ) (vs : List ℕ) → C k vs → ⊥

infixr 10 ◌then◌
-- one of the first, or where none of these applies one of the others
abbrev pub ◌then◌ : Causes → Causes → Causes
◌then◌ C D k vs = C k vs ⊎ (None C × D k vs)

-- those of 0, 1, .., n - 1 in turn
abbrev pub in_turn_of : ℕ → (ℕ → Causes) → Causes
in_turn_of n C k vs = (i : ℕ) × (i < n) × ((g : ℕ) → g < i → None (C g)) × C i k vs

-- "file under 7 bytes", "mark differs", "version not 1", or not 1 or 2
abbrev pub opening_causes : List ℕ → ℕ → List ℕ → Causes
opening_causes mark newest s =
    cause 1 [] (length s < 7)
    then cause 2 [] (take 3 s ≡ mark → ⊥)
    then cause 3 [] ((u16_at s 3 ≡ 0) ⊎ (newest < u16_at s 3))

-- "book's n or m is .. above 32"
abbrev pub head_causes : List ℕ → Causes
head_causes book = opening_causes book_mark 2 book then cause 4 [] ((32 < book_lots book) ⊎ (32 < book_calls book))

-- "6 for the word, 5, 6 for the costs, 7 for each cost", of lot i
abbrev pub row_causes : List ℕ → ℕ → Causes
row_causes book i =
    let row : List ℕ = row_at book i in
    cause 6 [] (length row < 4)
    then cause 5 (i ∷ []) ((j : ℕ) × (book_calls book ≤ j) × T (bit (row_word row) j))
    then cause 6 [] (length row < row_size row)
    then in_turn_of (book_calls book) (λ j. cause 7 (i ∷ j ∷ [])
    (T (bit (row_word row) j) × (Allows (book_version book) (held_cost (book_version book) (row_cost row j)) → ⊥)))

-- "Book: 1, 2, 3, 4; then lot by lot ..; then 8"
abbrev pub book_causes : List ℕ → Causes
book_causes book =
    head_causes book then in_turn_of (book_lots book) (row_causes book) then cause 8 [] (0 < length (row_at book (book_lots book)))

-- "Amounts: 1, 2, 3, 15, 6, 8, 16", after the book; "16 is for the lot and call amounts as the file holds them, not for reserves. 21 when a
-- reserve exceeds its lot, .. after 16 has been checked for all"
abbrev pub amounts_causes : List ℕ → List ℕ → Causes
amounts_causes book s =
    let n : Size = record { lots = book_lots book; calls = book_calls book } in
    book_causes book
    then opening_causes amounts_mark 2 s
    then cause 15 [] ((byte_at s 5 ≡ n.lots) × (byte_at s 6 ≡ n.calls) → ⊥)
    then cause 6 [] (length s < amounts_length n s)
    then cause 8 [] (amounts_length n s < length s)
    then cause 16 [] ((k : ℕ) × (k < n.lots + n.calls) × (amount_limit < amount_at s k))
    then cause 21 [] ((i : ℕ) × (i < n.lots) × (amount_at s i < reserve_at s i))

-- the pair at a place of an order
abbrev pub pair_at : List Pair → ℕ → Pair
pair_at S place = get_or S place (pair 0 0)

-- "at each pair 9, then 10": it is not in the book or not eligible, and it stands before
abbrev pub pair_causes : Problem → List Pair → ℕ → Causes
pair_causes P S place =
    let p : Pair = pair_at S place in
    cause 9 (place ∷ []) (Eligible P p.lot p.call → ⊥)
    then cause 10 (place ∷ []) (0 < times p.lot p.call (take place S))

-- (i, l) and (k, j) stand after (i, j), which is at this place: "(k, l) not eligible", "cost sum too high", which
-- is that cost(i, j) + cost(k, l) ≤ cost(i, l) + cost(k, j) does not hold
abbrev pub cross_causes : List ℕ → List Pair → ℕ → ℕ → ℕ → Causes
cross_causes book S place k l =
    let (i, j) : ℕ × ℕ = ((pair_at S place).lot, (pair_at S place).call) in
    let after : List Pair = drop (suc place) S in
    let Both : Type 0 = (0 < times i l after) × (0 < times k j after) in
    cause 11 (i ∷ j ∷ k ∷ l ∷ []) (Both × (Eligible (problem_of book) k l → ⊥))
    then cause 12 (i ∷ j ∷ k ∷ l ∷ []) (Both × (SignedFit (costs_of book) i j k l → ⊥))

-- "Order: 1, 2, 3, 6, 8; at each pair 9, then 10; then 14; then 11 or 12", after the book; "by the place of (i, j) in the order, then k rising,
-- then l rising"
abbrev pub order_causes : List ℕ → List ℕ → Causes
order_causes book s =
    let P : Problem = problem_of book in
    let S : List Pair = order_pairs s in
    book_causes book
    then opening_causes order_mark 1 s
    then cause 6 [] (length s < 7 + 2 * order_count s)
    then cause 8 [] (7 + 2 * order_count s < length s)
    then in_turn_of (length S) (pair_causes P S)
    then cause 14 [] ((i j : ℕ) × Eligible P i j × (times i j S ≡ 0))
    then in_turn_of (length S) (λ place. in_turn_of P.lots (λ k. in_turn_of P.calls (cross_causes book S place k)))

-- "no order exists": none is good. The limit that `GoodOrder` has on the amounts makes no difference, also where an idle call takes more: by theorem
-- (e) of transport the good orders are the same for every limit from 1 up
abbrev pub no_order : Problem → (ℕ → ℕ → ℤ) → Causes
no_order P c = cause 13 [] ((S : List Pair) → GoodOrder P c S → ⊥)

-- "lent buffer too short": the flow's
abbrev pub flow_short : List ℕ → List ℕ → Causes
flow_short book flow = cause 17 [] (length flow < book_lots book * book_calls book)

-- "Several inputs: book, order, amounts, then 17, and 13 last"; 18, 19 and 20 by document 02, requests 2 and 6
abbrev pub run_causes : Run → List ℕ → List ℕ → List ℕ → Causes
run_causes (by_order order) book amounts flow = order_causes book order then amounts_causes book amounts then flow_short book flow
run_causes by_found book amounts flow = amounts_causes book amounts then flow_short book flow then no_order (problem_of book) (costs_of book)
run_causes idle book amounts flow =
    amounts_causes book amounts
    then cause 18 [] (lots_total book amounts < calls_total book amounts)
    then cause 19 [] (book_calls book ≡ 32)
    then flow_short book flow
    then no_order (enlarged book) (enlarged_costs book)
run_causes panel book amounts flow =
    (head_causes book then cause 20 [] ((8 < book_lots book) ⊎ (8 < book_calls book)))
    then amounts_causes book amounts then flow_short book flow then no_order (problem_of book) (costs_of book)

-- of every entry point
abbrev pub causes_of : Entry → Causes
causes_of (reads_book book) = book_causes book
causes_of (reads_amounts book amounts) = amounts_causes book amounts
causes_of (costs_pair book i j) = book_causes book
causes_of (checks book order) = order_causes book order
causes_of (finds book buffer) =
    book_causes book then cause 17 [] (length buffer < order_length book) then no_order (problem_of book) (costs_of book)
causes_of (runs run book amounts flow) = run_causes run book amounts flow

-- the numbers of these causes: 18 and 19 are of the run with an idle call alone, 20 of the ticket panel's, 21 of those that take amounts
abbrev pub book_numbers : List ℕ
book_numbers = 1 ∷ 2 ∷ 3 ∷ 4 ∷ 5 ∷ 6 ∷ 7 ∷ 8 ∷ []

abbrev pub order_numbers : List ℕ
order_numbers = book_numbers ++ (9 ∷ 10 ∷ 11 ∷ 12 ∷ 14 ∷ [])

abbrev pub amounts_numbers : List ℕ
amounts_numbers = book_numbers ++ (15 ∷ 16 ∷ 21 ∷ [])

abbrev pub numbers_of : Entry → List ℕ
numbers_of (reads_book book) = book_numbers
numbers_of (reads_amounts book amounts) = amounts_numbers
numbers_of (costs_pair book i j) = book_numbers
numbers_of (checks book order) = order_numbers
numbers_of (finds book buffer) = book_numbers ++ (13 ∷ 17 ∷ [])
numbers_of (runs (by_order order) book amounts flow) = order_numbers ++ (15 ∷ 16 ∷ 17 ∷ 21 ∷ [])
numbers_of (runs by_found book amounts flow) = amounts_numbers ++ (13 ∷ 17 ∷ [])
numbers_of (runs idle book amounts flow) = amounts_numbers ++ (13 ∷ 17 ∷ 18 ∷ 19 ∷ [])
numbers_of (runs panel book amounts flow) = amounts_numbers ++ (13 ∷ 17 ∷ 20 ∷ [])

-- whether a number is one of some
unfoldable pub among : ℕ → List ℕ → Bool
among k [] = false
among k (n ∷ ns) = eqb k n || among k ns

pub record RefusedExactly : Type 0 where
  -- an entry point is refused by k with vs exactly where that is the first cause that applies,
  pub by_first : (e : Entry) (k : ℕ) (vs : List ℕ) → (reply_of e ≡ refuses k vs) ↔ causes_of e k vs
  -- and accepted exactly where none applies: "A book is readable if none of the refusals listed for a book under Refused applies to it"
  pub accepted : (e : Entry) → (reply_of e ≡ gives tt) ↔ None (causes_of e)
  -- so it is refused by its own numbers alone, each of which occurs (`book_cases` and the others, computed)
  pub by_its_own : (e : Entry) (k : ℕ) (vs : List ℕ) → reply_of e ≡ refuses k vs → T (among k (numbers_of e))
