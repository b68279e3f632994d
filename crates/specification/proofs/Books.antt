-- What reading a book says. A readable book has the opening of a book, at most 32 lots and calls, for each lot a whole row whose word has
-- no bit past the last call and whose costs are within the range, and nothing after the last row; and a book with all this is readable.
-- A refusal says what its line of the table says, and is the first that applies in the stated sequence.
use mathlib.Core.Path.{◌≡◌, refl, sym, ◌∙◌, ap, subst}
use mathlib.Core.Logic.{◌⊎◌, inl, inr, ⊎_elim, ◌↔◌}
use mathlib.Core.Bool.{Bool, false, ◌&&◌, ◌||◌}
use mathlib.Core.List.{List, []}
use Prim.Native.Nat.{ℕ, zero, suc, ◌+◌, ◌*◌, ◌≤◌, ◌<◌}
use native.Mathlib.Nat.{mul-le-mul}
use native.Mathlib.Omega.{arith}
use borrow.Author.Tests.{le-ltb}
use lib.Dec.{T, ltb, ltb→lt, nltb→le}
use lib.Count.{ones-le}
use lib.ListN.{length, drop, length-drop}
use Rattle.transport.specs.Problem.{Eligible}
use Rattle.transport.specs.Greedy.{Pair}
use Rattle.transport.specs.Order.{Monge, Good}
use Rattle.transport.specs.Finder.{size}
use Rattle.transport.specs.Signed.{Lifts, SignedMonge, SignedGood}
use Rattle.transport.proofs.Laws.Tests.{and_says, or_says, below_suc}
use Rattle.transport.proofs.Laws.Sets.{count_le}
use Rattle.transport.proofs.Greedy.Signed.{signed_monge, signed_good}
use Rattle.specification.specs.Reply.{gives, Size}
use Rattle.specification.specs.Bytes.{book_mark}
use Rattle.specification.specs.Costs.{cost_limit, cost_base, cost_outside, Allows}
use Rattle.specification.specs.Book.{largest_book, bit, row_word, row_size, row_cost, book_version, book_lots, book_calls, count_outside}
use Rattle.specification.specs.Book.{read_row, read_rows, read_head, read_book, row_at, problem_of, costs_of}
use Rattle.specification.specs.Demands.{Readable, BookLimits}
use Rattle.specification.proofs.Replies.{
  Says,
  giving,
  said_of_given,
  gives_if_never_refused,
  says_then,
  says_unless,
  says_if,
  neither_of_or,
}
use Rattle.specification.proofs.Costs.{cost_lifted, cost_range}
use Rattle.specification.proofs.Rows.{Opened, OpeningRefused, opening_says, opened_not_refused}
use Rattle.specification.proofs.Rows.{RowRead, RowRefused, row_says, row_read_not_refused}

-- the rows of the lots below i are read
abbrev RowsRead : List ℕ → ℕ → Type 0
RowsRead book i = (g : ℕ) → g < i → RowRead (row_at book g) (book_version book) (book_calls book)

-- the opening, n and m: 1 to 4 do not apply
pub record Headed (book : List ℕ) : Type 0 where
  pub opened : Opened book_mark 2 book
  pub lots_within : book_lots book ≤ 32
  pub calls_within : book_calls book ≤ 32

-- what a readable book says
pub record BookRead (book : List ℕ) (n : Size) : Type 0 where
  pub sizes : n ≡ record { lots = book_lots book; calls = book_calls book }
  pub opened : Opened book_mark 2 book
  pub lots_within : book_lots book ≤ 32
  pub calls_within : book_calls book ≤ 32
  pub row : (i : ℕ) → i < book_lots book → RowRead (row_at book i) (book_version book) (book_calls book)
  pub ends : length (row_at book (book_lots book)) ≡ 0

-- 1 to 8 of a book: 4 says that n or m is above 32, a row's refusal that the lots before it are fine, and 8 that all are
pub data BookRefused (book : List ℕ) : ℕ → List ℕ → Type 0 where
  book_opening : {k : ℕ} {vs : List ℕ} → OpeningRefused book_mark 2 book k vs → BookRefused book k vs
  count_is_outside : Opened book_mark 2 book → (32 < book_lots book) ⊎ (32 < book_calls book) → BookRefused book 4 []
  book_row : {i k : ℕ} {vs : List ℕ} → Headed book → i < book_lots book → RowsRead book i
      → RowRefused (row_at book i) (book_version book) i (book_calls book) k vs → BookRefused book k vs
  book_bytes_after : Headed book → RowsRead book (book_lots book) → 0 < length (row_at book (book_lots book)) → BookRefused book 8 []

module _ (book : List ℕ) (headed : Headed book) where
  rows_say : (left lot : ℕ) → lot + left ≡ book_lots book → RowsRead book lot
      → Says (λ _. RowsRead book (book_lots book) × (length (row_at book (book_lots book)) ≡ 0)) (BookRefused book)
      (read_rows (row_at book lot) (book_version book) lot left (book_calls book))
  unfolding read_rows row_at
  rows_say zero lot e before =
      let last : lot ≡ book_lots book = omega arith in
      says_if (ltb 0 (length (row_at book lot))) 8 _
      (λ t. book_bytes_after headed (subst (RowsRead book) last before) (rw (← last) (ltb→lt _ _ t)))
      (λ ends. (subst (RowsRead book) last before, rw (← last) (omega (arith, nltb→le))))
  rows_say (suc left) lot e before =
      says_then _ (row_says (row_at book lot) (book_version book) lot (book_calls book))
      (λ k vs. book_row headed (omega arith) before) (λ _ row.
      rows_say left (suc lot) (omega arith)
      (λ g h. ⊎_elim (λ (same : g ≡ lot). rw same row) (before g) (below_suc h)))

-- rows that are read are passed one by one
pub rows_past : (book : List ℕ) (version calls k left : ℕ) → k + left ≡ book_lots book
    → ((g : ℕ) → g < k → read_row (row_at book g) version g calls ≡ gives tt)
    → read_rows (drop 7 book) version 0 (book_lots book) calls ≡ read_rows (row_at book k) version k left calls
unfolding read_rows row_at
rows_past book version calls zero left e read = let all : book_lots book ≡ left = omega arith in rw all refl
rows_past book version calls (suc k) left e read =
    rows_past book version calls k (suc left) (omega arith) (λ g h. read g (omega arith)) ∙ rw (read k (omega arith)) refl

-- the first seven bytes: 1 to 4
pub head_says : (book : List ℕ) → Says (λ n. (n ≡ record { lots = book_lots book; calls = book_calls book }) × Headed book) (BookRefused book) (read_head book)
head_says book =
    let many_lots : Bool = count_outside (book_lots book) in
    let many_calls : Bool = count_outside (book_calls book) in
    says_then _ (opening_says book_mark 2 book) (λ k vs. book_opening) (λ _ opened.
    says_unless (many_lots || many_calls) 4 _ _
    (λ t. count_is_outside opened (⊎_elim (λ n. inl (ltb→lt _ _ n)) (λ m. inr (ltb→lt _ _ m)) (or_says many_lots many_calls t))) (λ within.
    let (lots, calls) = neither_of_or many_lots many_calls within in
    giving (refl, record { opened = opened; lots_within = nltb→le _ _ lots; calls_within = nltb→le _ _ calls })))

pub headed_reads : (book : List ℕ) → Headed book → read_head book ≡ gives (record { lots = book_lots book; calls = book_calls book })
headed_reads book headed =
    rw (
      (gives_if_never_refused (opening_says book_mark 2 book) (λ k vs. opened_not_refused headed.opened)).2,
      le-ltb 32 (book_lots book) headed.lots_within,
      le-ltb 32 (book_calls book) headed.calls_within,
    )

pub book_says : (book : List ℕ) → Says (BookRead book) (BookRefused book) (read_book book)
unfolding read_book row_at
book_says book =
    says_then _ (head_says book) (λ k vs q. q) (λ n (sizes, headed).
    rw sizes
    (says_then _ (rows_say book headed (book_lots book) 0 (omega arith) (λ g none. absurd (omega arith))) (λ k vs q. q) (λ _ (rows, ends).
    giving (record {
      sizes = refl;
      opened = headed.opened;
      lots_within = headed.lots_within;
      calls_within = headed.calls_within;
      row = rows;
      ends = ends;
    }))))

pub book_read : (book : List ℕ) (n : Size) → read_book book ≡ gives n → BookRead book n
book_read book n e = said_of_given (book_says book) n e

-- none of these applies to a book that says what a readable one says: it is read
pub book_reads : (book : List ℕ) (n : Size) → BookRead book n → read_book book ≡ gives n
book_reads book n read =
    let (m, other, e) = gives_if_never_refused (book_says book) (λ k vs. never) in
    e ∙ ap gives (other.sizes ∙ sym read.sizes)
  where
    never : {k : ℕ} {vs : List ℕ} → BookRefused book k vs → ⊥
    never (book_opening q) = opened_not_refused read.opened q
    never (count_is_outside opened (inl n)) = omega (arith, read.lots_within)
    never (count_is_outside opened (inr m)) = omega (arith, read.calls_within)
    never (book_row headed h before q) = row_read_not_refused (read.row _ h) q
    never (book_bytes_after headed rows h) = omega (arith, read.ends)

-- a pair is admitted only within the book
pub admitted_inside : (book : List ℕ) (i j : ℕ) → T ((problem_of book).admits i j) → Eligible (problem_of book) i j
unfolding problem_of
admitted_inside book i j t =
    let (lot, rest) = and_says (ltb i (book_lots book)) (ltb j (book_calls book) && bit (row_word (row_at book i)) j) t in
    let (call, set) = and_says (ltb j (book_calls book)) (bit (row_word (row_at book i)) j) rest in
    (ltb→lt i (book_lots book) lot, ltb→lt j (book_calls book) call, t)

module _ {book : List ℕ} {n : Size} (read : BookRead book n) where
  -- a row has at most 4 + 4 * 32 bytes
  rows_length : (left i : ℕ) → i + left ≡ book_lots book → length (row_at book i) ≤ (4 + 4 * 32) * left
  unfolding row_at
  rows_length zero i e =
      let last : i ≡ book_lots book = omega arith in
      rw last (omega (arith, read.ends))
  rows_length (suc left) i e =
      let row = read.row i (omega arith) in
      omega (
        arith,
        length-drop (row_size (row_at book i)) (row_at book i),
        rows_length left (suc i) (omega arith),
        row.costs_whole,
        ones-le (book_calls book) (row_word (row_at book i)) row.word_below,
        read.calls_within,
      )

  pub book_length : length book ≤ largest_book
  unfolding row_at
  book_length = omega (arith, length-drop 7 book, read.opened.seven, rows_length (book_lots book) 0 (omega arith), read.lots_within)

  -- its problem has at most 32 lots and calls
  pub problem_within : ((problem_of book).lots ≤ 32) × ((problem_of book).calls ≤ 32)
  unfolding problem_of
  problem_within = (read.lots_within, read.calls_within)

  -- at most 1,024 pairs are eligible
  pub size_within : size (problem_of book) ≤ 1024
  size_within = omega (arith, count_le (problem_of book) (problem_of book).admits, mul-le-mul problem_within.0 problem_within.1)

  -- lots and calls are below 32
  pub pair_within : (i j : ℕ) → Eligible (problem_of book) i j → (i < 32) × (j < 32)
  pair_within i j (hi, hj, t) = omega (arith, problem_within)

  -- the cost of an eligible pair is within the range of the version
  pub cost_allowed : (i j : ℕ) → Eligible (problem_of book) i j → cost_outside (book_version book) (row_cost (row_at book i) j) ≡ false
  unfolding problem_of
  cost_allowed i j (hi, hj, t) =
      let (_, rest) = and_says (ltb i (book_lots book)) (ltb j (book_calls book) && bit (row_word (row_at book i)) j) t in
      (read.row i hi).costs_within j hj (and_says (ltb j (book_calls book)) (bit (row_word (row_at book i)) j) rest).1

  pub cost_within : (i j : ℕ) → Eligible (problem_of book) i j → Allows (book_version book) (costs_of book i j)
  unfolding costs_of
  cost_within i j e = cost_range (book_version book) (row_cost (row_at book i) j) (cost_allowed i j e)

  -- with the base added it is the cost that the problem has, at most 1,000,000 more than the base
  pub book_lifts : Lifts (cost_base (book_version book)) (problem_of book) (costs_of book)
  unfolding problem_of costs_of
  book_lifts = record { lifted = λ i j e. (cost_lifted (book_version book) (row_cost (row_at book i) j) (cost_allowed i j e)).lifted }

  pub lifted_within : (i j : ℕ) → Eligible (problem_of book) i j → (problem_of book).cost i j ≤ cost_limit + cost_base (book_version book)
  unfolding problem_of
  lifted_within i j e = (cost_lifted (book_version book) (row_cost (row_at book i) j) (cost_allowed i j e)).within

-- the Monge sequences and the good orders of a readable book by its signed costs are those of its problem
pub book_monge : (book : List ℕ) → Readable book → (S : List Pair)
    → SignedMonge (problem_of book) (costs_of book) S ↔ Monge (problem_of book) S
book_monge book (n, e) S = signed_monge (book_lifts (book_read book n e)) S

pub book_good : (book : List ℕ) → Readable book → (limit : ℕ) (S : List Pair)
    → SignedGood limit (problem_of book) (costs_of book) S ↔ Good limit (problem_of book) S
book_good book (n, e) limit S = signed_good (book_lifts (book_read book n e)) limit S

-- the limits of a readable book
pub book_limits : (book : List ℕ) (n : Size) → read_book book ≡ gives n → BookLimits book n
unfolding problem_of
book_limits book n e =
    let read = book_read book n e in
    record {
      its_lots = sym (ap (λ m. m.lots) read.sizes);
      its_calls = sym (ap (λ m. m.calls) read.sizes);
      lots = rw read.sizes read.lots_within;
      calls = rw read.sizes read.calls_within;
      costs = cost_within read;
      pairs = size_within read;
      bytes = book_length read;
    }
