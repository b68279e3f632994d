-- Request 5 (document 02): a desk with no lots yet, or with no calls. No definition has a case of its own for it: where a list may be empty,
-- sums and orders are those of the empty list. "Amounts may have the same zero counts": when they are read, and when such a book is refused by 4,
-- 5, 6 or 8 and its order by 9, is in `Refused`. What is promised beside the demands, which hold of these books as of all.
use Rattle.std.specs.Prelude.{◌≡◌, ◌⊎◌, ◌↔◌, cond, List, [], ◌∷◌, ◌++◌, ℕ, ◌+◌, ◌*◌, ◌≤◌, ◌<◌, eqb, length, take, drop, pos}
use Rattle.specification.specs.Reply.{gives, Size, Outcome, full, covered, short}
use Rattle.specification.specs.Bytes.{u32_at, book_mark, read_opening}
use Rattle.specification.specs.Book.{book_lots, book_calls, read_book, lot_costs, outside, pair_cost}
use Rattle.specification.specs.Amounts.{read_amounts}
use Rattle.specification.specs.OrderFile.{order_count, order_file}
use Rattle.specification.specs.Check.{check_order}
use Rattle.specification.specs.Run.{verdict_by, run_order, run_flow}
use Rattle.specification.specs.Find.{find_order, find_buffer, find_and_run, find_and_run_flow}
use Rattle.specification.specs.Idle.{lots_total, calls_total, find_and_run_idle, find_and_run_idle_flow}
use Rattle.specification.specs.Text.{decimal, line, verdict_word, book_most, amounts_most, printed}
use Rattle.specification.specs.Demands.{OrderShaped}

-- "n or m equal to 0"
abbrev pub Empty : ℕ → ℕ → Type 0
Empty n m = (n ≡ 0) ⊎ (m ≡ 0)

-- a readable book with these counts, and amounts that are read with such a book
abbrev pub EmptyDesk : List ℕ → Size → Type 0
EmptyDesk book n = (read_book book ≡ gives n) × Empty n.lots n.calls

abbrev pub EmptyAmounts : List ℕ → List ℕ → Size → Type 0
EmptyAmounts book amounts n = (read_amounts book amounts ≡ gives n) × Empty n.lots n.calls

-- a file that opens as a book and has such counts, neither above 32
pub record EmptyOpening (book : List ℕ) : Type 0 where
  pub opens : read_opening book_mark 2 book ≡ gives tt
  pub lots_few : book_lots book ≤ 32
  pub calls_few : book_calls book ≤ 32
  pub empty : Empty (book_lots book) (book_calls book)

-- the words of its first k lots stand in the book and are 0: a row without costs has four bytes
pub record NoBits (book : List ℕ) (k : ℕ) : Type 0 where
  pub stand : 7 + 4 * k ≤ length book
  pub are_0 : (i : ℕ) → i < k → u32_at book (7 + 4 * i) ≡ 0

-- the outcome where nothing is placed, "by the usual sums": Short where a call asks for units, else Covered where a lot has some, else Full
abbrev pub nothing_placed : List ℕ → List ℕ → Outcome
nothing_placed book amounts = record {
  verdict = verdict_by (eqb (calls_total book amounts) 0) (eqb (lots_total book amounts) 0);
  units = 0;
  cost = pos 0;
}

pub record Request5 : Type 0 where
  -- "A book with n or m equal to 0 is now read: it has its rows, possibly none, and each word must be 0 if there are no calls"
  pub reads : (book : List ℕ) → EmptyOpening book
      → (read_book book ≡ gives (record { lots = book_lots book; calls = book_calls book }))
      ↔ (NoBits book (book_lots book) × (length book ≡ 7 + 4 * book_lots book))
  -- no lot has costs, and no pair is in the book
  pub costs_of_lot : (book : List ℕ) (n : Size) → EmptyDesk book n → (i : ℕ) → lot_costs book i ≡ []
  pub cost_of_pair : (book : List ℕ) (n : Size) → EmptyDesk book n → (i j : ℕ) → pair_cost book i j ≡ gives outside
  -- "Its order has no pairs": an order file that counts none, and so has 7 bytes, passes the check, and no other,
  pub passes : (book order : List ℕ) (n : Size) → EmptyDesk book n → (k : ℕ)
      → (check_order book order ≡ gives k) ↔ ((k ≡ 0) × OrderShaped order × (order_count order ≡ 0))
  -- and the finder writes the one that passes
  pub finds : (book buffer : List ℕ) (n : Size) → EmptyDesk book n → 7 ≤ length buffer
      → (find_order book buffer ≡ gives 7) × (find_buffer book buffer ≡ order_file [] ++ drop 7 buffer)
  -- a run of such a desk is accepted, with a flow buffer of any length, and writes nothing:
  -- by an order that passes,
  pub run : (book order amounts flow : List ℕ) (n : Size) (k : ℕ) → EmptyAmounts book amounts n → check_order book order ≡ gives k
      → (run_order book order amounts flow ≡ gives (nothing_placed book amounts)) × (run_flow book order amounts flow ≡ flow)
  -- in one call, and so for the ticket panel if 20 does not apply (`Request6`),
  pub by_find_and_run : (book amounts flow : List ℕ) (n : Size) → EmptyAmounts book amounts n
      → (find_and_run book amounts flow ≡ gives (nothing_placed book amounts)) × (find_and_run_flow book amounts flow ≡ flow)
  -- and with an idle call, if neither 18 nor 19 applies
  pub by_find_and_run_idle : (book amounts flow : List ℕ) (n : Size) → EmptyAmounts book amounts n
      → calls_total book amounts ≤ lots_total book amounts → n.calls < 32
      → (find_and_run_idle book amounts flow ≡ gives (nothing_placed book amounts)) × (find_and_run_idle_flow book amounts flow ≡ flow)
  -- "a desk without calls is Full or Covered by the usual sums": each of these replies
  pub no_calls : (book amounts : List ℕ) (n : Size) → read_amounts book amounts ≡ gives n → n.calls ≡ 0
      → (nothing_placed book amounts).verdict ≡ cond (eqb (lots_total book amounts) 0) full covered
  -- and one without lots is Full or Short
  pub no_lots : (book amounts : List ℕ) (n : Size) → read_amounts book amounts ≡ gives n → n.lots ≡ 0
      → (nothing_placed book amounts).verdict ≡ cond (eqb (calls_total book amounts) 0) full short
  -- the printing program prints the first line alone
  pub prints : (book_file amounts_file : List ℕ) (n : Size) → EmptyAmounts (take book_most book_file) (take amounts_most amounts_file) n
      → printed book_file amounts_file
      ≡ line (verdict_word (nothing_placed (take book_most book_file) (take amounts_most amounts_file)).verdict) (decimal 0 ∷ decimal 0 ∷ [])
