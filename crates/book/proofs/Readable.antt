-- What a caller of `read_book` learns from its answer: n and m of a readable book, and all that is known of one.
use mathlib.Core.Path.{◌≡◌, refl, sym, ap}
use mathlib.Core.Bool.{true, true≢false}
use mathlib.Core.List.{List}
use Prim.Native.Nat.{ℕ, ◌+◌, ◌≤◌, ◌<◌}
use lib.ListN.{length}
use Rattle.specification.specs.Reply.{Reply, gives, refuses, Size}
use Rattle.specification.specs.Book.{row_size, row_at, row_start, book_lots, book_calls, read_book}
use Rattle.specification.proofs.Books.{BookRead, book_read}
use Rattle.specification.proofs.Starts.{row_inside}
use Rattle.book.specs.Pairs.{not_refused, readable}

pub record Read (book : List ℕ) (lots calls : ℕ) : Type 0 where
  pub lots_is : lots ≡ book_lots book
  pub calls_is : calls ≡ book_calls book
  pub is_readable : readable book ≡ true
  pub known : BookRead book (record { lots = lots; calls = calls })

pub counts_are : (book : List ℕ) {n m : ℕ} → gives (record { lots = n; calls = m }) ≡ read_book book → Read book n m
counts_are book {n} {m} e =
    let known = book_read book (record { lots = n; calls = m }) (sym e) in
    record {
      lots_is = ap (λ (z : Size). z.lots) known.sizes;
      calls_is = ap (λ (z : Size). z.calls) known.sizes;
      is_readable = sym (ap not_refused e);
      known = known;
    }

pub readable_is : (book : List ℕ) → readable book ≡ true → (n : Size) × BookRead book n
readable_is book e = go (read_book book) refl e
  where
    go : (r : Reply Size) → read_book book ≡ r → not_refused r ≡ true → (n : Size) × BookRead book n
    go (gives n) q e = (n, book_read book n q)
    go (refuses k vs) q e = absurd (true≢false (sym e))

pub read_of : (book : List ℕ) → readable book ≡ true → Read book (book_lots book) (book_calls book)
read_of book e =
    let (n, known) = readable_is book e in
    record { lots_is = refl; calls_is = refl; is_readable = e; known = rw known.sizes at known }

-- of a book that was read
module _ (book : List ℕ) (counts : Size) (e : read_book book ≡ gives counts) where
  pub read_is : Read book counts.lots counts.calls
  read_is = counts_are book (sym e)

  pub row_fits : (i : ℕ) → i < counts.lots → row_start book i + row_size (row_at book i) ≤ length book
  row_fits i h = row_inside read_is.known i (rw (← read_is.lots_is) h)

  pub lots_few : counts.lots ≤ 32
  lots_few = rw read_is.lots_is read_is.known.lots_within
