-- Where a book holds its rows and costs. The row of a lot is the rest of the book from the byte at which it starts (`row_is`), and in a
-- readable book it stands whole (`row_inside`). So the cost of an eligible pair is held in four bytes of the book (`cost_inside`,
-- `cost_held`).
use mathlib.Core.Path.{◌≡◌, refl, sym, ◌∙◌, ap}
use mathlib.Core.Bool.{◌&&◌}
use mathlib.Core.List.{List}
use Prim.Native.Nat.{ℕ, zero, suc, ◌+◌, ◌-◌, ◌≤◌, ◌<◌}
use native.Mathlib.Numerals.{add-one}
use native.Mathlib.Omega.{arith}
use lib.Dec.{ltb}
use lib.ListN.{length, drop, length-drop}
use lib.Seq.{drop-drop}
use Rattle.transport.specs.Problem.{Eligible}
use Rattle.transport.proofs.Laws.Tests.{and_says}
use Rattle.specification.specs.Reply.{Size}
use Rattle.specification.specs.Bytes.{u32_at}
use Rattle.specification.specs.Book.{bit, row_word, row_size, row_cost, book_lots, book_calls, row_at, row_start, cost_start, problem_of}
use Rattle.specification.proofs.Numbers.{u32_drop}
use Rattle.specification.proofs.Bits.{ones_below_lt}
use Rattle.specification.proofs.Books.{BookRead}

pub row_is : (book : List ℕ) (i : ℕ) → row_at book i ≡ drop (row_start book i) book
unfolding row_at row_start
row_is book zero = refl
row_is book (suc i) = ap (drop (row_size (row_at book i))) (row_is book i) ∙ drop-drop (row_size (row_at book i)) (row_start book i) book

pub start_next : (book : List ℕ) (i : ℕ) → row_start book (i + 1) ≡ row_start book i + row_size (row_at book i)
unfolding row_start
start_next book i = rw add-one

pub cost_held : (book : List ℕ) (i j : ℕ) → u32_at book (cost_start book i j) ≡ row_cost (row_at book i) j
cost_held book i j = rw (row_is book i) (sym (u32_drop (row_start book i) book _))

module _ {book : List ℕ} {n : Size} (read : BookRead book n) where
  pub row_inside : (i : ℕ) → i < book_lots book → row_start book i + row_size (row_at book i) ≤ length book
  row_inside i h =
      let long : length (row_at book i) ≡ length book - row_start book i = ap length (row_is book i) ∙ length-drop (row_start book i) book in
      omega (arith, (read.row i h).costs_whole)

  -- and the book ends where the last row ends
  start_inside : (i : ℕ) → i ≤ book_lots book → row_start book i ≤ length book
  unfolding row_start
  start_inside zero h = read.opened.seven
  start_inside (suc i) h = row_inside i (omega arith)

  pub book_ends : length book ≡ row_start book (book_lots book)
  book_ends = omega (
    arith,
    start_inside (book_lots book) (omega arith),
    read.ends,
    ap length (row_is book (book_lots book)),
    length-drop (row_start book (book_lots book)) book,
  )

  pub cost_inside : (i j : ℕ) → Eligible (problem_of book) i j → cost_start book i j + 4 ≤ length book
  unfolding problem_of
  cost_inside i j (hi, hj, t) =
      let word = row_word (row_at book i) in
      let (_, rest) = and_says (ltb i (book_lots book)) (ltb j (book_calls book) && bit word j) t in
      let (_, set) = and_says (ltb j (book_calls book)) (bit word j) rest in
      omega (arith, row_inside i hi, ones_below_lt word j set)
