-- What reading amounts with their book says: a readable book, n and m as the book has them, one amount for each lot and call, all within
-- the limit, and no reserve above what its lot holds; and amounts with all this are read. A refusal says what its line of the table says,
-- those before it not applying.
use mathlib.Core.Path.{◌≡◌, refl, ap}
use mathlib.Core.Bool.{Bool, not, ◌&&◌}
use mathlib.Core.List.{List, []}
use Prim.Native.Nat.{ℕ, ◌+◌, ◌≤◌, ◌<◌}
use native.Mathlib.Omega.{arith}
use lib.Dec.{T, ltb, leb, eqb, ltb→lt, nltb→le, leb→le, nleb→lt, eqb→eq, eqb_refl, T_not, not_T}
use lib.ListN.{length}
use Rattle.transport.specs.Problem.{Within}
use Rattle.transport.specs.Finder.{every}
use Rattle.transport.proofs.Laws.Tests.{and_says, and_of, counted_le}
use Rattle.transport.proofs.Laws.Searches.{every_says, every_fails}
use Rattle.specification.specs.Reply.{gives, Size}
use Rattle.specification.specs.Bytes.{byte_at, amounts_mark}
use Rattle.specification.specs.Book.{book_lots, book_calls, read_book, problem_of}
use Rattle.specification.specs.Amounts.{amount_limit, largest_amounts, amount_at, carries_reserves, amounts_length, reserve_at}
use Rattle.specification.specs.Amounts.{lot_amount, call_amount, read_amounts_of, read_amounts}
use Rattle.specification.proofs.Replies.{
  Says,
  giving,
  said_of_given,
  gives_less,
  refuses_less,
  says_then,
  says_unless,
  test_of_twice_not,
}
use Rattle.specification.proofs.Rows.{Opened, OpeningRefused, opening_says, opened_not_refused}
use Rattle.specification.proofs.Books.{BookRead, BookRefused, book_says, book_reads}

pub record AmountsRead (size : Size) (s : List ℕ) : Type 0 where
  pub opened : Opened amounts_mark 2 s
  pub same_lots : byte_at s 5 ≡ size.lots
  pub same_calls : byte_at s 6 ≡ size.calls
  pub whole : length s ≡ amounts_length size s
  pub within : (k : ℕ) → k < size.lots + size.calls → amount_at s k ≤ amount_limit
  pub reserved : (i : ℕ) → i < size.lots → reserve_at s i ≤ amount_at s i

-- its opening, and n and m as the book has them
pub record Alike (size : Size) (s : List ℕ) : Type 0 where
  pub opened : Opened amounts_mark 2 s
  pub same_lots : byte_at s 5 ≡ size.lots
  pub same_calls : byte_at s 6 ≡ size.calls

-- 1, 2, 3, 15, 6, 8, 16, 21, each where those before it do not apply
pub data AmountsRefused (size : Size) (s : List ℕ) : ℕ → List ℕ → Type 0 where
  amounts_opening : {k : ℕ} {vs : List ℕ} → OpeningRefused amounts_mark 2 s k vs → AmountsRefused size s k vs
  counts_differ : Opened amounts_mark 2 s → ((byte_at s 5 ≡ size.lots) × (byte_at s 6 ≡ size.calls) → ⊥) → AmountsRefused size s 15 []
  amounts_end_early : Alike size s → length s < amounts_length size s → AmountsRefused size s 6 []
  amounts_bytes_after : Alike size s → amounts_length size s < length s → AmountsRefused size s 8 []
  amount_too_high : Alike size s → length s ≡ amounts_length size s
      → (k : ℕ) → k < size.lots + size.calls → amount_limit < amount_at s k → AmountsRefused size s 16 []
  reserve_exceeds : Alike size s → length s ≡ amounts_length size s
      → ((k : ℕ) → k < size.lots + size.calls → amount_at s k ≤ amount_limit)
      → (i : ℕ) → i < size.lots → amount_at s i < reserve_at s i → AmountsRefused size s 21 []

-- whether each of the first n numbers of f is at most that of g: where not, one is above
pub one_above : (n : ℕ) (f g : ℕ → ℕ) → T (not (every n (λ k. leb (f k) (g k)))) → (k : ℕ) × (k < n) × (g k < f k)
one_above n f g t =
    let (k, h, above) = every_fails n _ (T_not (every n (λ k. leb (f k) (g k))) t) in
    (k, h, nleb→lt (f k) (g k) (not_T (leb (f k) (g k)) above))

pub none_above : (n : ℕ) (f g : ℕ → ℕ) → T (not (not (every n (λ k. leb (f k) (g k))))) → (k : ℕ) → k < n → f k ≤ g k
none_above n f g t k h = leb→le (f k) (g k) (every_says n _ (test_of_twice_not (every n (λ k. leb (f k) (g k))) t) k h)

pub amounts_of_say : (size : Size) (s : List ℕ) → Says (λ n. (n ≡ size) × AmountsRead size s) (AmountsRefused size s) (read_amounts_of size s)
unfolding read_amounts_of
amounts_of_say size s =
    let count : ℕ = size.lots + size.calls in
    let limit : ℕ → ℕ = λ k. amount_limit in
    let same_lots : Bool = eqb (byte_at s 5) size.lots in
    let same_calls : Bool = eqb (byte_at s 6) size.calls in
    says_then _ (opening_says amounts_mark 2 s) (λ k vs. amounts_opening) (λ _ opened.
    let same_if : (byte_at s 5 ≡ size.lots) × (byte_at s 6 ≡ size.calls) → T (same_lots && same_calls) = λ (n, m).
    and_of same_lots same_calls (rw n (eqb_refl size.lots)) (rw m (eqb_refl size.calls)) in
    let both : Bool = same_lots && same_calls in
    says_unless (not both) 15 _ _ (λ t. counts_differ opened (λ e. T_not both t (same_if e))) (λ same.
    let (lots, calls) = and_says same_lots same_calls (test_of_twice_not both same) in
    let alike : Alike size s = record {
      opened = opened;
      same_lots = eqb→eq (byte_at s 5) size.lots lots;
      same_calls = eqb→eq (byte_at s 6) size.calls calls;
    } in
    says_unless (ltb (length s) (amounts_length size s)) 6 _ _ (λ t. amounts_end_early alike (ltb→lt _ _ t)) (λ long.
    says_unless (ltb (amounts_length size s) (length s)) 8 _ _ (λ t. amounts_bytes_after alike (ltb→lt _ _ t)) (λ short.
    let whole : length s ≡ amounts_length size s = omega (arith, nltb→le) in
    says_unless (not (every count (λ k. leb (amount_at s k) amount_limit))) 16 _ _
    (λ t. let (k, h, high) = one_above count (amount_at s) limit t in amount_too_high alike whole k h high) (λ low.
    let within = none_above count (amount_at s) limit low in
    says_unless (not (every size.lots (λ i. leb (reserve_at s i) (amount_at s i)))) 21 _ _
    (λ t. let (i, h, more) = one_above size.lots (reserve_at s) (amount_at s) t in reserve_exceeds alike whole within i h more) (λ kept.
    giving (
      refl,
      record {
        opened = opened;
        same_lots = alike.same_lots;
        same_calls = alike.same_calls;
        whole = whole;
        within = within;
        reserved = none_above size.lots (reserve_at s) (amount_at s) kept;
      },
    )))))))

-- none of these applies to amounts that say what read ones say
amounts_read_not_refused : {size : Size} {s : List ℕ} {k : ℕ} {vs : List ℕ} → AmountsRead size s → AmountsRefused size s k vs → ⊥
amounts_read_not_refused read (amounts_opening q) = opened_not_refused read.opened q
amounts_read_not_refused read (counts_differ opened differ) = differ (read.same_lots, read.same_calls)
amounts_read_not_refused read (amounts_end_early alike h) = omega (arith, read.whole)
amounts_read_not_refused read (amounts_bytes_after alike h) = omega (arith, read.whole)
amounts_read_not_refused read (amount_too_high alike whole k h high) = omega (arith, read.within k h)
amounts_read_not_refused read (reserve_exceeds alike whole within i h more) = omega (arith, read.reserved i h)

-- refused for the book, or with a readable book for themselves
pub data AmountsOrBookRefused (book s : List ℕ) : ℕ → List ℕ → Type 0 where
  amounts_book : {k : ℕ} {vs : List ℕ} → BookRefused book k vs → AmountsOrBookRefused book s k vs
  amounts_own : {n : Size} {k : ℕ} {vs : List ℕ} → BookRead book n → AmountsRefused n s k vs → AmountsOrBookRefused book s k vs

pub amounts_say : (book s : List ℕ) → Says (λ n. BookRead book n × AmountsRead n s) (AmountsOrBookRefused book s) (read_amounts book s)
unfolding read_amounts
amounts_say book s =
    says_then _ (book_says book) (λ k vs. amounts_book) (λ n read.
    refuses_less (gives_less (amounts_of_say n s) (λ m (e, amounts). rw e (read, amounts))) (λ k vs. amounts_own read))

pub amounts_read : (book s : List ℕ) (n : Size) → read_amounts book s ≡ gives n → BookRead book n × AmountsRead n s
amounts_read book s n e = said_of_given (amounts_say book s) n e

-- their book is read, with the same counts
pub book_of_amounts : (book s : List ℕ) (n : Size) → read_amounts book s ≡ gives n → read_book book ≡ gives n
book_of_amounts book s n e = book_reads book n (amounts_read book s n e).0

module _ {book s : List ℕ} {n : Size} (read : BookRead book n) (amounts : AmountsRead n s) where
  same_sizes : (n.lots ≡ book_lots book) × (n.calls ≡ book_calls book)
  same_sizes = (ap (λ m. m.lots) read.sizes, ap (λ m. m.calls) read.sizes)

  -- amounts that are read are within the limits
  pub amounts_within : Within amount_limit (problem_of book) (lot_amount s) (call_amount book s)
  unfolding problem_of
  amounts_within = record {
    lots_within = λ i h. omega (arith, amounts.within i (omega (arith, same_sizes)));
    calls_within = λ j h. amounts.within (book_lots book + j) (omega (arith, same_sizes));
  }

  -- and their file is no longer than the largest
  pub amounts_length_lem : length s ≤ largest_amounts
  amounts_length_lem =
      omega (arith, amounts.whole, read.lots_within, read.calls_within, same_sizes, counted_le (carries_reserves s) n.lots)
