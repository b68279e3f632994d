-- What the table of offsets says of the book's problem. An entry is above 0 exactly where the book is readable and the pair eligible, and
-- the pair's cost is then held at that byte.
use mathlib.Core.Path.{◌≡◌, refl, ap₂, ◌∙◌}
use mathlib.Core.Bool.{Bool, true, false}
use mathlib.Core.List.{List}
use Prim.Native.Nat.{ℕ, ◌+◌, ◌*◌, ◌/◌, ◌%◌, ◌<◌}
use native.Mathlib.Omega.{arith}
use borrow.Author.Tests.{lt-ltb, le-ltb}
use lib.Dec.{ltb}
use Rattle.specification.specs.Bytes.{u32_at}
use Rattle.specification.specs.Book.{row_cost, row_at, cost_start, problem_of}
use Rattle.specification.proofs.Flows.{tabulate_at}
use Rattle.specification.proofs.Starts.{cost_held}
use Rattle.book.specs.Pairs.{readable, has_cost, cost_offset, offset_table}
use Rattle.book.specs.Table.{entry}

module _ (book : List ℕ) (i j : ℕ) (hi : i < 32) (hj : j < 32) where
  pub entry_is : entry (offset_table book) i j ≡ cost_offset book i j
  entry_is =
      let qi : (32 * i + j) / 32 ≡ i = omega arith in
      let qj : (32 * i + j) % 32 ≡ j = omega arith in
      tabulate_at 1024 (λ k. cost_offset book (k / 32) (k % 32)) (32 * i + j) (omega arith) ∙ ap₂ (cost_offset book) qi qj

  -- above 0 exactly where the pair has a cost
  entry_stands : ltb 0 (entry (offset_table book) i j) ≡ has_cost book i j
  entry_stands = rw entry_is (go (has_cost book i j) refl)
    where
      go : (b : Bool) → has_cost book i j ≡ b → ltb 0 (cost_offset book i j) ≡ has_cost book i j
      go true e = rw e (lt-ltb 0 (cost_start book i j) (omega arith))
      go false e = rw e (le-ltb 0 0 (omega arith))

  pub entry_admits : readable book ≡ true → ltb 0 (entry (offset_table book) i j) ≡ (problem_of book).admits i j
  entry_admits e = entry_stands ∙ rw e

  -- and then the cost stands there
  pub entry_cost : has_cost book i j ≡ true → u32_at book (entry (offset_table book) i j) ≡ row_cost (row_at book i) j
  entry_cost e = rw (entry_is, e) (cost_held book i j)
