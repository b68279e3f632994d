-- How a table of slacks, and the lots' words, are filled from the front.
use Rattle.std.specs.Prelude.{◌≡◌, ℕ, ◌+◌, ◌*◌, ◌/◌, ◌%◌, ◌<◌, ◌≤◌, true, List, length, replicate, slice_index}
use Rattle.specification.specs.Book.{cost_start}
use Rattle.book.specs.Pairs.{readable}
use Rattle.slacks.specs.Slacks.{slack_in}

-- the entries before number x are as they are to be, and the others as they were
pub record Filled (Holds : ℕ → ℕ → Type 0) (x : ℕ) (before after : List ℕ) : Type 0 where
  pub passed : (y : ℕ) → y < x → Holds y (slice_index after y)
  pub ahead : (y : ℕ) → x ≤ y → slice_index after y ≡ slice_index before y
  pub long : length after ≡ length before

-- of a readable book, lot by lot, the slacks of the pairs before (i, j) stand in a table of zeros, and `next` is the byte of the next cost
pub record Reached (book : List ℕ) (i j next : ℕ) (slacks : List ℕ) : Type 0 where
  pub is_readable : readable book ≡ true
  pub bounded : j ≤ 32
  pub next_is : next ≡ cost_start book i j
  pub entered : Filled (λ x slack. slack ≡ slack_in book (x / 32) (x % 32)) (32 * i + j) (replicate 1024 0) slacks
