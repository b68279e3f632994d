-- The entry point's laws: document 01's reply and buffer in each of the four cases; and how many pairs are searched.
use mathlib.Core.Path.{◌≡◌, refl, ◌∙◌, ap}
use mathlib.Core.Bool.{Bool, true, false}
use mathlib.Core.List.{List, [], ◌++◌}
use Rattle.std.proofs.Common.{Option, Some, None}
use mathlib.Core.Option.{some, none}
use mathlib.Core.Option as math
use Prim.Native.Nat.{ℕ, suc, ◌+◌, ◌*◌, ◌≤◌, ◌<◌}
use native.Mathlib.Nat.{mul-le-mul}
use native.Mathlib.Omega.{arith}
use borrow.Author.Tests.{lt-ltb, le-ltb}
use lib.ListN.{length, drop}
use Rattle.transport.specs.Greedy.{Pair}
use Rattle.transport.specs.Finder.{size, find}
use Rattle.transport.proofs.Laws.Sets.{count_le}
use Rattle.transport.proofs.Orders.Length.{order_length_lem}
use Rattle.transport.proofs.Finder.Find.{find_is_order}
use Rattle.specification.specs.Reply.{Reply, Size, gives, refuses}
use Rattle.specification.specs.Book.{read_book, problem_of}
use Rattle.specification.specs.OrderFile.{order_file}
use Rattle.specification.specs.Find.{order_length, found_order, find_order, find_buffer}
use Rattle.specification.specs.Idle.{enlarged}
use Rattle.specification.proofs.Books.{problem_within, size_within}
use Rattle.book.proofs.Readable.{Read}
use Rattle.finder.specs.Searched.{searched}
use Rattle.finder.specs.Writing.{Orders}

-- what is found, case by case: the book is refused, the buffer is too short, there is no order, or there is one
module _ (book buffer : List ℕ) where
  pub found_refused : {k : ℕ} {vs : List ℕ} → read_book book ≡ refuses k vs → found_order book buffer ≡ refuses k vs
  unfolding found_order
  found_refused e = simp e

  module _ {n : Size} (e : read_book book ≡ gives n) where
    pub found_short : length buffer < order_length book → found_order book buffer ≡ refuses 17 []
    unfolding found_order
    found_short h = simp (e, lt-ltb _ _ h)

    found_by : (o : math.Option (List Pair)) → order_length book ≤ length buffer → find (problem_of book) ≡ o
        → found_order book buffer ≡ elim o [ none ↦ refuses 13 [] | some S ↦ gives S ]
    unfolding found_order
    found_by o h f =
        simp (e, le-ltb _ _ h) (ap (λ (a : math.Option (List Pair)). elim a [ none ↦ refuses 13 [] | some S ↦ gives S ]) f)

  -- and so the reply and the buffer
  pub refused_replies : (k : ℕ) (vs : List ℕ) → found_order book buffer ≡ refuses k vs
      → (refuses k vs ≡ find_order book buffer) × (buffer ≡ find_buffer book buffer)
  unfolding find_order find_buffer
  refused_replies k vs e = (simp e, simp e)

-- the reply that a search's answer makes
abbrev reply_of : List ℕ → Option ℕ → Reply ℕ
reply_of book None = refuses 13 []
reply_of book (Some count) = gives (order_length book)

-- it is the reply for the book
pub search_replies : (book buffer after : List ℕ) {size : Size} → read_book book ≡ gives size → order_length book ≤ length buffer → (r : Option ℕ)
    (o : math.Option (List Pair)) → find (problem_of book) ≡ o → Orders o r buffer after
    → (reply_of book r ≡ find_order book buffer) × (after ≡ find_buffer book buffer)
unfolding find_order find_buffer
search_replies book buffer after e h r none f (q, kept) =
    let found = found_by book buffer e none h f in
    rw q (simp found, kept ∙ simp found)
search_replies book buffer after e h r (some S) f (q, written) =
    let found = found_by book buffer e (some S) h f in
    let long = order_length_lem (find_is_order (problem_of book) S f) in
    rw q (simp found, written ∙ ap (λ (k : ℕ). order_file S ++ drop (7 + 2 * k) buffer) long ∙ simp found)

-- the pairs that are searched: no more than 1,024, where there is room for the idle call
pub searched_within : {book : List ℕ} {n m : ℕ} → Read book n m → (idle : Bool) → (idle ≡ true → m < 32)
    → size (searched idle book) ≤ 1024
unfolding problem_of
searched_within r false room = size_within r.known
searched_within {book} r true room =
    let few : suc (problem_of book).calls ≤ 32 = omega (arith, room refl, r.calls_is) in
    omega (arith, count_le (enlarged book) (enlarged book).admits, mul-le-mul (problem_within r.known).0 few)
