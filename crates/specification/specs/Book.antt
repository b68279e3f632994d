-- The book file (document 01, "The three files" and "Refused"), and the transportation problem that it states.
use Rattle.std.specs.Prelude.{List, [], ◌∷◌, Bool, cond, ◌&&◌, ◌||◌, ℕ, zero, suc, ◌+◌, ◌*◌, ◌/◌, ◌%◌, ◌^◌, length, take, drop, ltb, leb, eqb, ℤ}
use Rattle.std.specs.Int.Count.{ones}
use Rattle.transport.specs.Problem.{Problem}
use Rattle.specification.specs.Reply.{Reply, gives, refuse_if, ◌>>=◌, afterwards, Size}
use Rattle.specification.specs.Bytes.{byte_at, u16_at, u32_at, book_mark, read_opening}
use Rattle.specification.specs.Costs.{cost_base, held_cost, cost_outside, lifted_cost}

-- "Largest book: 4,231 bytes": the opening, and for each of 32 lots a word and 32 costs
abbrev pub largest_book : ℕ
largest_book = 7 + 32 * (4 + 4 * 32)

-- bit j of a word, bit 0 the lowest
abbrev pub bit : ℕ → ℕ → Bool
bit word j = eqb (word / 2 ^ j % 2) 1

-- the eligibility word of a row; a row is the part of the book that starts at a lot's word
abbrev pub row_word : List ℕ → ℕ
row_word row = u32_at row 0

-- the bytes of a row: the word, "then one 32-bit cost for each set bit"
abbrev pub row_size : List ℕ → ℕ
row_size row = 4 + 4 * ones (row_word row)

-- the byte of the row at which the cost of call j starts: before it stand the word and as many costs as bits are set below bit j
abbrev pub cost_in_row : List ℕ → ℕ → ℕ
cost_in_row row j = 4 + 4 * ones (row_word row % 2 ^ j)

-- the 32 bits of that cost
abbrev pub row_cost : List ℕ → ℕ → ℕ
row_cost row j = u32_at row (cost_in_row row j)

-- 7 for each cost, lowest bit first: calls j to j + left - 1
unfoldable pub read_costs : List ℕ → ℕ → ℕ → ℕ → ℕ → Reply (Unit {0})
read_costs row version lot zero j = gives tt
read_costs row version lot (suc left) j = do
  _ ← refuse_if (bit (row_word row) j && cost_outside version (row_cost row j)) 7 (lot ∷ j ∷ [])
  read_costs row version lot left (suc j)

-- "6 for the word, 5, 6 for the costs, 7 for each cost"; a bit m or higher is set where the word is 2 ^ m or more,
-- so "each word must be 0 if there are no calls" (document 02, request 5)
unfoldable pub read_row : List ℕ → ℕ → ℕ → ℕ → Reply (Unit {0})
read_row row version lot calls = do
  _ ← refuse_if (ltb (length row) 4) 6 []
  _ ← refuse_if (leb (2 ^ calls) (row_word row)) 5 (lot ∷ [])
  _ ← refuse_if (ltb (length row) (row_size row)) 6 []
  read_costs row version lot calls 0

-- "lot by lot", `left` of them from `lot` on; "then 8"
unfoldable pub read_rows : List ℕ → ℕ → ℕ → ℕ → ℕ → Reply (Unit {0})
read_rows rest version lot zero calls = refuse_if (ltb 0 (length rest)) 8 []
read_rows rest version lot (suc left) calls = do
  _ ← read_row rest version lot calls
  read_rows (drop (row_size rest) rest) version (suc lot) left calls

-- "a 16-bit version", 1 or 2
abbrev pub book_version : List ℕ → ℕ
book_version book = u16_at book 3

-- "Bytes 5 and 6: n, m"
abbrev pub book_lots : List ℕ → ℕ
book_lots book = byte_at book 5

-- m
abbrev pub book_calls : List ℕ → ℕ
book_calls book = byte_at book 6

-- "4 is only for counts above 32" (document 02, request 5): "A book with n or m equal to 0 is now read"
abbrev pub count_outside : ℕ → Bool
count_outside n = ltb 32 n

-- "Book: 1, 2, 3, 4"; the reply is n and m
abbrev pub read_head : List ℕ → Reply Size
read_head book = do
  _ ← read_opening book_mark 2 book
  _ ← refuse_if (count_outside (book_lots book) || count_outside (book_calls book)) 4 []
  gives (record { lots = book_lots book; calls = book_calls book })

-- "then lot by lot .. then 8"; the reply is n and m
unfoldable pub read_book : List ℕ → Reply Size
read_book book = do
  n ← read_head book
  _ ← read_rows (drop 7 book) (book_version book) 0 n.lots n.calls
  gives n

-- the row of a lot: each starts where the one before it ends, the first after the opening
unfoldable pub row_at : List ℕ → ℕ → List ℕ
row_at book zero = drop 7 book
row_at book (suc i) = drop (row_size (row_at book i)) (row_at book i)

-- the byte of the book at which that row starts
unfoldable pub row_start : List ℕ → ℕ → ℕ
row_start book zero = 7
row_start book (suc i) = row_start book i + row_size (row_at book i)

-- and the byte of the book at which the cost of (i, j) starts
abbrev pub cost_start : List ℕ → ℕ → ℕ → ℕ
cost_start book i j = row_start book i + cost_in_row (row_at book i) j

-- the book's transportation problem: n lots, m calls, (i, j) eligible where both are in the book and lot i's word has bit j, its cost with
-- the base added (the check compares two costs with two, so that it asks the same); of a pair that is not eligible the cost means nothing
unfoldable pub problem_of : List ℕ → Problem
problem_of book = record {
  lots = book_lots book;
  calls = book_calls book;
  admits = λ i j. ltb i (book_lots book) && (ltb j (book_calls book) && bit (row_word (row_at book i)) j);
  cost = λ i j. lifted_cost (cost_base (book_version book)) (row_cost (row_at book i) j);
}

-- the cost of each eligible pair, with its sign; what the problem has is tied to it by `Lifts`, in transport
unfoldable pub costs_of : List ℕ → ℕ → ℕ → ℤ
costs_of book i j = held_cost (book_version book) (row_cost (row_at book i) j)

-- the stretch of the book that holds a lot's costs, "empty if the book is refused or the lot number is n or more"
unfoldable pub lot_costs : List ℕ → ℕ → List ℕ
lot_costs book i = afterwards (read_book book) [] (λ size.
    cond (ltb i size.lots) (take (4 * ones (row_word (row_at book i))) (drop 4 (row_at book i))) [])

-- what a readable book says of a lot and a call: the pair's cost, that the pair is not eligible, or that one of the two is not in the book
pub data PairCost : Type 0 where
  costs : ℤ → PairCost
  not_eligible outside : PairCost

-- the cost of one pair, lot i with call j: the book's refusals, and else what it says of the pair
abbrev pub pair_cost : List ℕ → ℕ → ℕ → Reply PairCost
pair_cost book i j = read_book book >>= λ size. gives (
    cond (ltb i size.lots && ltb j size.calls)
    (cond ((problem_of book).admits i j) (costs (costs_of book i j)) not_eligible)
    outside)
