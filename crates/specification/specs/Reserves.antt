-- Request 7 (document 02): stock reserved by the desk. How amounts are read by their version is in `read_amounts_of`, and a lot's amount is
-- `lot_amount`: every run, every verdict, the idle stock and all rival allocations of the demands and of the other requests go by it. When amounts
-- are refused by 3, 6, 8, 16 or 21 is in `Refused`. What is promised beside them.
use Rattle.std.specs.Prelude.{◌≡◌, List, ℕ, ◌+◌, ◌*◌, ◌≤◌, ◌<◌, length, get_or}
use Rattle.transport.specs.Problem.{sum}
use Rattle.specification.specs.Reply.{gives, Size, Outcome}
use Rattle.specification.specs.Bytes.{byte_at, u32_at}
use Rattle.specification.specs.Book.{book_lots, book_calls}
use Rattle.specification.specs.Amounts.{amount_at, amounts_version, amounts_length, reserve_at, lot_amount, call_amount, read_amounts}
use Rattle.specification.specs.Entry.{Run, run_reply, run_leaves}
use Rattle.specification.specs.Text.{amounts_most}

-- no reserve exceeds its lot
abbrev pub WithinLots : Size → List ℕ → Type 0
WithinLots n amounts = (i : ℕ) → i < n.lots → reserve_at amounts i ≤ amount_at amounts i

-- the units that a flow has for a lot, with its reserve, are at most what it holds
abbrev pub KeptBack : List ℕ → List ℕ → List ℕ → Type 0
KeptBack book amounts flow = (i : ℕ) → i < book_lots book
    → sum (book_calls book) (λ j. get_or flow (i * book_calls book + j) 0) + reserve_at amounts i ≤ amount_at amounts i

-- two amounts files that are read with a book and have the same amounts of its lots and calls: one may have reserves where the other, of
-- version 1, holds that much less
pub record SameAmounts (book s t : List ℕ) : Type 0 where
  pub reads : (n : Size) × (read_amounts book s ≡ gives n) × (read_amounts book t ≡ gives n)
  pub lots : (i : ℕ) → i < book_lots book → lot_amount s i ≡ lot_amount t i
  pub calls : (j : ℕ) → j < book_calls book → call_amount book s j ≡ call_amount book t j

pub record Request7 : Type 0 where
  -- "Amounts version 2 carries n reserves, 32 bits each, after the call amounts"
  pub version_2 : (n : Size) (amounts : List ℕ) → byte_at amounts 5 ≡ n.lots → byte_at amounts 6 ≡ n.calls → amounts_version amounts ≡ 2
      → (amounts_length n amounts ≡ 7 + 4 * (2 * n.lots + n.calls))
      × ((i : ℕ) → reserve_at amounts i ≡ u32_at amounts (7 + 4 * n.lots + 4 * n.calls + 4 * i))
  -- "Version 1 means reserves of 0"
  pub version_1 : (n : Size) (amounts : List ℕ) → amounts_version amounts ≡ 1
      → (amounts_length n amounts ≡ 7 + 4 * (n.lots + n.calls))
      × ((i : ℕ) → (reserve_at amounts i ≡ 0) × (lot_amount amounts i ≡ amount_at amounts i))
  -- "the printing program reads up to 392 bytes", one more than amounts that are read have
  pub reads_392 : amounts_most ≡ 392
  pub at_most_391 : (book amounts : List ℕ) (n : Size) → read_amounts book amounts ≡ gives n → length amounts ≤ 391
  -- "A lot's amount .. is from here on what it holds less its reserve"
  pub holds : (book amounts : List ℕ) (n : Size) → read_amounts book amounts ≡ gives n → (i : ℕ) → i < n.lots
      → lot_amount amounts i + reserve_at amounts i ≡ amount_at amounts i
  -- nothing is taken off a call
  pub calls_hold : (book amounts : List ℕ) (n : Size) → read_amounts book amounts ≡ gives n → (j : ℕ)
      → call_amount book amounts j ≡ u32_at amounts (7 + 4 * n.lots + 4 * j)
  -- "in every run and for idle stock too": none places a lot's reserve,
  pub keeps : (run : Run) (book amounts flow : List ℕ) (o : Outcome) → run_reply run book amounts flow ≡ gives o
      → KeptBack book amounts (run_leaves run book amounts flow)
  -- and each is as if the lot held that much less
  pub same_runs : (run : Run) (book s t flow : List ℕ) → SameAmounts book s t
      → (run_reply run book s flow ≡ run_reply run book t flow) × (run_leaves run book s flow ≡ run_leaves run book t flow)
