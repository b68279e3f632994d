-- The stretch of a lot's costs: it has four bytes for each call that the lot is eligible for, and the cost of an eligible pair (i, j) stands in
-- it behind those of the calls below j. These are the set bits of the lot's word.
use mathlib.Core.Path.{◌≡◌, refl, sym, ◌∙◌, ap}
use mathlib.Core.List.{List}
use mathlib.Core.Bool.{◌&&◌}
use Prim.Native.Nat.{ℕ, ◌*◌, ◌%◌, ◌^◌, ◌≤◌, ◌<◌}
use native.Mathlib.Nat.{mod-eq_of_lt}
use native.Mathlib.Omega.{arith}
use borrow.Author.Tests.{lt-ltb}
use lib.Count.{ones}
use lib.Dec.{T, ltb, lt→ltb}
use lib.ListN.{length, take, drop, length-drop}
use lib.Seq.{length-take-le}
use Rattle.transport.proofs.Laws.Sums.{sum_cong}
use Rattle.transport.proofs.Laws.Tests.{T_true, and_says}
use Rattle.specification.specs.Reply.{gives, Size}
use Rattle.specification.specs.Bytes.{u32_at}
use Rattle.specification.specs.Costs.{held_cost}
use Rattle.specification.specs.Book.{bit, row_word, row_cost, book_version, book_lots, book_calls, read_book, row_at, problem_of, costs_of, lot_costs}
use Rattle.specification.specs.Demands.{calls_below}
use Rattle.specification.proofs.Numbers.{u32_take, u32_drop}
use Rattle.specification.proofs.Bits.{bits_counted, ones_below_lt}
use Rattle.specification.proofs.Books.{book_read}

module _ (book : List ℕ) (n : Size) (e : read_book book ≡ gives n) (i : ℕ) (inside : i < (problem_of book).lots) where
  set_bits : ℕ
  set_bits = ones (row_word (row_at book i))

  stretch_is : lot_costs book i ≡ take (4 * set_bits) (drop 4 (row_at book i))
  unfolding lot_costs problem_of set_bits
  stretch_is =
      let within : T (ltb i n.lots) = lt→ltb i n.lots (rw (book_read book n e).sizes inside) in
      rw (e, T_true (ltb i n.lots) within) refl

  calls_below_lem : (j : ℕ) → j ≤ book_calls book → calls_below (problem_of book) i j ≡ ones (row_word (row_at book i) % 2 ^ j)
  unfolding problem_of
  calls_below_lem j few =
      sum_cong j _ _ (λ l h. rw (lt-ltb i (book_lots book) inside, lt-ltb l (book_calls book) (omega arith)))
      ∙ bits_counted (row_word (row_at book i)) j

  pub lot_costs_length : length (lot_costs book i) ≡ 4 * calls_below (problem_of book) i n.calls
  unfolding problem_of set_bits
  lot_costs_length =
      let read = book_read book n e in
      let row = read.row i inside in
      let costs : List ℕ = drop 4 (row_at book i) in
      let all : set_bits ≡ ones (row_word (row_at book i) % 2 ^ book_calls book) = ap ones (sym (mod-eq_of_lt row.word_below)) in
      ap length stretch_is ∙ length-take-le (4 * set_bits) costs (omega (arith, length-drop 4 (row_at book i), row.costs_whole))
      ∙ ap (λ k. 4 * k) (all ∙ sym (rw read.sizes (calls_below_lem (book_calls book) (omega arith))))

  lot_cost_at : (j : ℕ) → T ((problem_of book).admits i j)
      → u32_at (lot_costs book i) (4 * ones (row_word (row_at book i) % 2 ^ j)) ≡ row_cost (row_at book i) j
  unfolding problem_of set_bits
  lot_cost_at j admitted =
      let (_, rest) = and_says (ltb i (book_lots book)) (ltb j (book_calls book) && bit (row_word (row_at book i)) j) admitted in
      let (_, set) = and_says (ltb j (book_calls book)) (bit (row_word (row_at book i)) j) rest in
      let at : ℕ = 4 * ones (row_word (row_at book i) % 2 ^ j) in
      ap (λ (s : List ℕ). u32_at s at) stretch_is
      ∙ u32_take (4 * set_bits) (drop 4 (row_at book i)) at (omega (arith, ones_below_lt (row_word (row_at book i)) j set))
      ∙ u32_drop 4 (row_at book i) at

  pub lot_cost_held : (j : ℕ) → j < (problem_of book).calls → T ((problem_of book).admits i j)
      → held_cost (book_version book) (u32_at (lot_costs book i) (4 * calls_below (problem_of book) i j)) ≡ costs_of book i j
  unfolding problem_of costs_of
  lot_cost_held j few admitted =
      rw (calls_below_lem j (omega arith)) (ap (held_cost (book_version book)) (lot_cost_at j admitted))
