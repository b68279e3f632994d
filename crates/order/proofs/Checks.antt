-- What a check knows of its book: the table states the book's own problem, and its lots and calls are of the table's.
use Rattle.std.proofs.Common.{◌≡◌, ℕ, ◌+◌, ◌-◌, ◌*◌, ◌<◌, ◌≤◌, true, List, get_or, length, ◌∙◌, ap, refl, arith}
use native.Mathlib.Nat.{sub-zero}
use lib.Dec.{T}
use lib.ListN.{drop}
use mathlib.Core.Path.{subst}
use Prim.Native.Nat.{zero, suc}
use Rattle.transport.specs.Problem.{Problem, Eligible}
use Rattle.transport.specs.Greedy.{Pair}
use Rattle.transport.proofs.Laws.Tests.{T_true, T_ext}
use Rattle.transport.proofs.Finder.Same.{Same, eligible_of_same, same_sym}
use Rattle.specification.specs.Reply.{Size, gives}
use Rattle.specification.specs.Book.{read_book, row_start, problem_of}
use Rattle.specification.specs.OrderFile.{pairs}
use Rattle.specification.proofs.Books.{admitted_inside}
use Rattle.book.specs.Pairs.{offset_table}
use Rattle.book.specs.Table.{entry, admits_by, problem_by, Tabled, Packed, Worded}
use Rattle.book.proofs.Readable.{Read, read_is, lots_few}
use Rattle.book.proofs.Tables.{lot_few, call_few, not_eligible_at, offsets_tabled, offsets_packed, offsets_worded, problem_same}
use Rattle.walk.specs.Places.{rest}
use Rattle.walk.proofs.Eligibles.{admitted_in}
use Rattle.order.specs.declared.pairs.Check.{Check}

-- a pair that the table admits is eligible
inside_table : (book table : List ℕ) (n m i j : ℕ) → T ((problem_by book table n m).admits i j) → Eligible (problem_by book table n m) i j
inside_table book table n m i j t = let (in_lots, in_calls, _) = admitted_in table n m i j (T_true (admits_by table n m i j) t) in
    (in_lots, in_calls, t)

-- the table of offsets of a book that was read
module _ (book table : List ℕ) (size : Size) (reads : read_book book ≡ gives size) (is : table ≡ offset_table book) where
  abbrev known : Read book size.lots size.calls
  known = read_is book size reads

  table_same : Same (problem_by book table size.lots size.calls) (problem_of book)
  table_same = rw is (problem_same book known)

  table_tabled : Tabled book table
  table_tabled = rw is (offsets_tabled book known)

  table_packed : size.calls ≤ 32 → Packed table size.calls
  table_packed few = rw is (offsets_packed book known few)

  table_worded : (starts : List ℕ) → ((i : ℕ) → i < size.lots → get_or starts i 0 ≡ row_start book i) → Worded book table starts
  table_worded starts rows = rw is (offsets_worded book known starts rows)

  table_has : (i j : ℕ) → Eligible (problem_of book) i j → entry table i j ≡ 0 → ⊥
  table_has i j e none =
      subst T (not_eligible_at book known _ _ (lot_few book known _ e.0) (call_few book known _ e.1) (rw is at none)) e.2

module _ (c : Check) where
  abbrev pub book : List ℕ
  book = c.book.now.bytes.now

  abbrev pub P : Problem
  P = problem_of book

  abbrev pub by_table : Problem
  by_table = problem_by book c.offsets.now c.book.now.counts.lots c.book.now.counts.calls

  -- the pairs that the order lists
  abbrev pub listed : List Pair
  listed = rest c.pairs.order.now c.pairs.count 0

  pub lots_in : c.book.now.counts.lots ≤ 32
  lots_in = lots_few book c.book.now.counts c.book.now.readable

  pub calls_in : c.book.now.counts.calls ≤ 32
  calls_in = let read = read_is book c.book.now.counts c.book.now.readable in omega (arith, read.known.calls_within, read.calls_is)

  pub same : Same by_table P
  same = table_same book c.offsets.now c.book.now.counts c.book.now.readable c.tabled

  pub few_lots : P.lots ≤ 32
  few_lots = omega (arith, lots_in, same.lots)

  pub few_calls : P.calls ≤ 32
  few_calls = omega (arith, calls_in, same.calls)

  pub tabled : Tabled book c.offsets.now
  tabled = table_tabled book c.offsets.now c.book.now.counts c.book.now.readable c.tabled

  pub packed : Packed c.offsets.now c.book.now.counts.calls
  packed = table_packed book c.offsets.now c.book.now.counts c.book.now.readable c.tabled calls_in

  pub worded : Worded book c.offsets.now c.starts.now
  worded = table_worded book c.offsets.now c.book.now.counts c.book.now.readable c.tabled c.starts.now c.rows

  pub has_entry : (i j : ℕ) → Eligible P i j → entry c.offsets.now i j ≡ 0 → ⊥
  has_entry = table_has book c.offsets.now c.book.now.counts c.book.now.readable c.tabled

  -- a pair is eligible where the table admits it
  pub admits_are : (i j : ℕ) → admits_by c.offsets.now c.book.now.counts.lots c.book.now.counts.calls i j ≡ P.admits i j
  admits_are i j = T_ext _ _
      (λ t. (eligible_of_same same i j (inside_table book c.offsets.now c.book.now.counts.lots c.book.now.counts.calls i j t)).2)
      (λ t. (eligible_of_same (same_sym same) i j (admitted_inside book i j t)).2)

  pub admitted_is : (i j : ℕ) → P.admits i j ≡ true → Eligible P i j × (i < 32) × (j < 32)
  admitted_is i j admitted = let e = admitted_inside book i j (rw admitted tt) in (e, omega (arith, e.0, few_lots), omega (arith, e.1, few_calls))

pairs_length : (n : ℕ) (s : List ℕ) → length (pairs n s) ≡ n
unfolding pairs
pairs_length zero s = refl
pairs_length (suc n) s = ap suc (pairs_length n (drop 2 s))

pub rest_length : (order : List ℕ) (count : ℕ) → length (rest order count 0) ≡ count
rest_length order count = pairs_length (count - 0) (drop (7 + 2 * 0) order) ∙ sub-zero count
