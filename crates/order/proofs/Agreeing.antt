-- The refusals of the files are those of the check of an order, and past them it is the check of its pairs.
use mathlib.Core.Path.{◌≡◌, refl}
use mathlib.Core.List.{List, []}
use Prim.Native.Nat.{ℕ, ◌+◌, ◌*◌, ◌<◌}
use native.Mathlib.Nat.{sub-zero}
use native.Mathlib.Omega.{arith}
use borrow.Author.Tests.{lt-ltb, le-ltb}
use lib.ListN.{length}
use Rattle.specification.specs.Reply.{gives, refuses, refused, Size}
use Rattle.specification.specs.declared.Refusal.{Refusal}
use Rattle.specification.specs.Bytes.{order_mark, read_opening}
use Rattle.specification.specs.Book.{read_book, problem_of}
use Rattle.specification.specs.OrderFile.{order_count}
use Rattle.specification.specs.Check.{check_order}
use Rattle.walk.specs.Places.{rest}
use Rattle.order.specs.Answers.{checked_pairs}

-- the book is refused
pub book_refused : (book s : List ℕ) (x : Refusal) → refused x ≡ read_book book → refused x ≡ check_order book s
unfolding check_order
book_refused book s x e = rw (← e) refl

-- or read, and the order is
module _ (book s : List ℕ) (size : Size) (reads : read_book book ≡ gives size) where
  pub opening_refused : (x : Refusal) → refused x ≡ read_opening order_mark 1 s → refused x ≡ check_order book s
  unfolding check_order
  opening_refused x e = rw (reads, ← e) refl

  module _ (opens : gives tt ≡ read_opening order_mark 1 s) where
    pub ends_early : length s < 7 + 2 * order_count s → refuses 6 [] ≡ check_order book s
    unfolding check_order
    ends_early h = rw (reads, ← opens, lt-ltb (length s) (7 + 2 * order_count s) h) refl

    pub bytes_after : 7 + 2 * order_count s < length s → refuses 8 [] ≡ check_order book s
    unfolding check_order
    bytes_after h = rw (
      reads,
      ← opens,
      le-ltb (length s) (7 + 2 * order_count s) (omega arith),
      lt-ltb (7 + 2 * order_count s) (length s) h,
    ) refl

    pub whole_check : length s ≡ 7 + 2 * order_count s
        → checked_pairs (problem_of book) (rest s (order_count s) 0) (order_count s) ≡ check_order book s
    unfolding check_order
    whole_check long = rw (
      sub-zero (order_count s),
      reads,
      ← opens,
      le-ltb (length s) (7 + 2 * order_count s) (omega arith),
      le-ltb (7 + 2 * order_count s) (length s) (omega arith),
    ) refl
