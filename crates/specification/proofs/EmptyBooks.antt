-- Reading a book with no lots or no calls (document 02, request 5). A row whose word is 0 is read and has four bytes, so the readings go on
-- past such rows one by one: the reply is that of the first row which is not so, or of what follows the last.
use mathlib.Core.Path.{◌≡◌, refl, ◌∙◌, ap}
use mathlib.Core.Logic.{⊎_elim, ◌↔◌}
use mathlib.Core.List.{List}
use Prim.Native.Nat.{ℕ, zero, suc, ◌+◌, ◌*◌, ◌-◌, ◌^◌, ◌≤◌, ◌<◌}
use native.Mathlib.Omega.{arith}
use borrow.Author.Tests.{le-ltb}
use lib.Count.{ones, ones-le}
use lib.ListN.{length, drop, length-drop}
use lib.Pow.{pow_pos}
use Rattle.transport.proofs.Laws.Tests.{below_suc}
use Rattle.specification.specs.Reply.{Reply, gives, ◌>>=◌, Size}
use Rattle.specification.specs.Bytes.{u32_at}
use Rattle.specification.specs.Book.{row_word, read_row, read_rows, book_version, book_lots, book_calls, read_book, row_at, row_start}
use Rattle.specification.specs.EmptyDesk.{EmptyOpening, NoBits}
use Rattle.specification.proofs.Numbers.{u32_drop}
use Rattle.specification.proofs.Bits.{bit_le}
use Rattle.specification.proofs.Rows.{row_passes}
use Rattle.specification.proofs.Books.{BookRead, book_read, rows_past}
use Rattle.specification.proofs.Starts.{row_is, book_ends}

-- no bit of 0 is set
no_ones : (word : ℕ) → word ≡ 0 → ones word ≡ 0
no_ones word none = omega (arith, ones-le 0 word (omega arith))

-- a row whose word is 0
row_reads : (row : List ℕ) (version lot calls : ℕ) → 4 ≤ length row → row_word row ≡ 0 → read_row row version lot calls ≡ gives tt
row_reads row version lot calls whole none =
    row_passes lot (record {
      word_whole = whole;
      word_below = omega (arith, none, pow_pos calls);
      costs_whole = omega (arith, no_ones (row_word row) none);
      costs_within = λ j h set. absurd (omega (arith, bit_le (row_word row) j set, pow_pos j));
    })

module _ (book : List ℕ) where
  -- fewer lots, and one more
  fewer : {g k : ℕ} → g ≤ k → NoBits book k → NoBits book g
  fewer le none = record { stand = omega (arith, none.stand); are_0 = λ i h. none.are_0 i (omega arith) }

  more : {k : ℕ} → NoBits book k → 7 + 4 * suc k ≤ length book → u32_at book (7 + 4 * k) ≡ 0 → NoBits book (suc k)
  more none long word = record {
    stand = long;
    are_0 = λ i h. ⊎_elim (λ same. rw same word) (none.are_0 i) (below_suc h);
  }

  -- where the words of the lots below k are 0, the row of lot k starts at byte 7 + 4 k
  word_at : (k : ℕ) → row_start book k ≡ 7 + 4 * k → row_word (row_at book k) ≡ u32_at book (7 + 4 * k)
  word_at k start = rw (row_is book k, start) (u32_drop (7 + 4 * k) book 0 ∙ ap (u32_at book) (omega arith))

  starts : (k : ℕ) → NoBits book k → row_start book k ≡ 7 + 4 * k
  unfolding row_start
  starts zero none = refl
  starts (suc k) none =
      let start = starts k (fewer (omega arith) none) in
      omega (arith, start, no_ones (row_word (row_at book k)) (word_at k start ∙ none.are_0 k (omega arith)))

  module _ (k : ℕ) (none : NoBits book k) where
    word_is : row_word (row_at book k) ≡ u32_at book (7 + 4 * k)
    word_is = word_at k (starts k none)

    row_length : length (row_at book k) ≡ length book - (7 + 4 * k)
    row_length = ap length (row_is book k) ∙ length-drop (row_start book k) book ∙ ap (λ s. length book - s) (starts k none)

  -- reading goes on past them
  rows_from : (version calls k left : ℕ) → k + left ≡ book_lots book → NoBits book k
      → read_rows (drop 7 book) version 0 (book_lots book) calls ≡ read_rows (row_at book k) version k left calls
  rows_from version calls k left e none = rows_past book version calls k left e (λ g h.
      let before = fewer (omega arith) none in
      row_reads (row_at book g) version g calls (omega (arith, row_length g before, none.stand)) (word_is g before ∙ none.are_0 g h))

  module _ (opening : EmptyOpening book) where
    -- a book whose counts are not above 32 is read by its rows
    by_rows : (r : Reply (Unit {0})) → read_rows (drop 7 book) (book_version book) 0 (book_lots book) (book_calls book) ≡ r
        → read_book book ≡ (r >>= λ _. gives (record { lots = book_lots book; calls = book_calls book }))
    unfolding read_book
    by_rows r e = rw (opening.opens, le-ltb 32 (book_lots book) opening.lots_few, le-ltb 32 (book_calls book) opening.calls_few, e) refl

    -- a lot is of a book without calls
    no_call : (i : ℕ) → i < book_lots book → book_calls book ≡ 0
    no_call i h = ⊎_elim (λ (e : book_lots book ≡ 0). absurd (omega arith)) (λ e. e) opening.empty

    -- past the last lot
    past : {r : Reply (Unit {0})} → NoBits book (book_lots book)
        → read_rows (row_at book (book_lots book)) (book_version book) (book_lots book) 0 (book_calls book) ≡ r
        → read_book book ≡ (r >>= λ _. gives (record { lots = book_lots book; calls = book_calls book }))
    past {r} none e = by_rows r (rows_from (book_version book) (book_calls book) (book_lots book) 0 (omega arith) none ∙ e)

    -- where each word is 0 it is read
    reads_if : NoBits book (book_lots book) → length book ≡ 7 + 4 * book_lots book
        → read_book book ≡ gives (record { lots = book_lots book; calls = book_calls book })
    unfolding read_rows
    reads_if none ends =
        let over = le-ltb 0 (length (row_at book (book_lots book))) (omega (arith, row_length (book_lots book) none)) in
        past {r = gives tt} none (rw over refl)

    -- and where it is read each word is 0
    module _ {n : Size} (read : BookRead book n) where
      no_bits : (k : ℕ) → k ≤ book_lots book → NoBits book k
      no_bits zero h = record { stand = read.opened.seven; are_0 = λ i none. absurd (omega arith) }
      no_bits (suc k) h =
          let none = no_bits k (omega arith) in
          let row = read.row k (omega arith) in
          let below : u32_at book (7 + 4 * k) < 2 ^ book_calls book = rw (word_is k none) at row.word_below in
          more none (omega (arith, row.word_whole, row_length k none)) (omega (arith, rw (no_call k (omega arith)) at below))

      ends_there : length book ≡ 7 + 4 * book_lots book
      ends_there = book_ends read ∙ starts (book_lots book) (no_bits (book_lots book) (omega arith))

    pub empty_reads : (read_book book ≡ gives (record { lots = book_lots book; calls = book_calls book }))
        ↔ (NoBits book (book_lots book) × (length book ≡ 7 + 4 * book_lots book))
    empty_reads = (
      λ reads. let read = book_read book _ reads in (no_bits read (book_lots book) (omega arith), ends_there read),
      λ (none, ends). reads_if none ends,
    )
