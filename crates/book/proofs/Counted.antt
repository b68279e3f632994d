-- The length of a readable book tells how many pairs are eligible: past the opening it has four bytes for each lot's word and four for
-- each cost.
use mathlib.Core.Path.{◌≡◌, refl, sym, ◌∙◌, ap}
use mathlib.Core.Bool.{cond}
use mathlib.Core.List.{List}
use Prim.Native.Nat.{ℕ, zero, suc, ◌+◌, ◌*◌, ◌<◌}
use native.Mathlib.Nat.{mod-eq_of_lt}
use native.Mathlib.Omega.{arith}
use borrow.Author.Tests.{lt-ltb}
use lib.Count.{ones}
use lib.ListN.{length}
use Rattle.transport.specs.Problem.{sum}
use Rattle.transport.specs.Finder.{size}
use Rattle.transport.proofs.Laws.Sums.{sum_cong}
use Rattle.specification.specs.Book.{row_word, book_lots, book_calls, row_at, row_start, problem_of}
use Rattle.specification.proofs.Bits.{bits_counted}
use Rattle.specification.proofs.Starts.{book_ends}
use Rattle.book.proofs.Readable.{Read}

module _ (book : List ℕ) where
  starts : (i : ℕ) → row_start book i ≡ 7 + 4 * i + 4 * sum i (λ k. ones (row_word (row_at book k)))
  unfolding row_start sum
  starts zero = refl
  starts (suc i) = omega (arith, starts i)

  module _ {n m : ℕ} (read : Read book n m) where
    row_sum : (i : ℕ) → i < book_lots book
        → ones (row_word (row_at book i)) ≡ sum (book_calls book) (λ j. cond ((problem_of book).admits i j) 1 0)
    unfolding problem_of
    row_sum i hi =
        let word = row_word (row_at book i) in
        sym (sum_cong (book_calls book) _ _ (λ j hj. rw (lt-ltb i (book_lots book) hi, lt-ltb j (book_calls book) hj))
        ∙ bits_counted word (book_calls book) ∙ ap ones (mod-eq_of_lt (read.known.row i hi).word_below))

    pub book_counted : length book ≡ 7 + 4 * n + 4 * size (problem_of book)
    unfolding problem_of
    book_counted = omega (arith, book_ends read.known, starts (book_lots book), sum_cong (book_lots book) _ _ row_sum, read.lots_is)
