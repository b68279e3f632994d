-- The marks of hindered pairs, for either half: each lot has a word of calls, and each call a word of the lots that wait at it, all those whose
-- pairs with it are marked, and maybe others. A pair that is marked is not tried again until what hinders it may be gone.
use Rattle.std.specs.Prelude.{◌≡◌, Bool, true, false, ◌&&◌, ◌||◌, List, ℕ, ◌<◌, eqb, length}
use Rattle.specification.specs.Book.{bit}
use Rattle.book.specs.Table.{entry}
use Rattle.words.specs.Lefts.{is_left}
use Rattle.lines.specs.declared.Left.{Left}
use Rattle.trial.specs.declared.table.Given.{Given}
use Rattle.trial.specs.Left.{Kept, Passed, HinderedIn}
use Rattle.search.specs.declared.marks.Half.{Half}
use Rattle.search.specs.declared.Search.{Search}

-- the lots of the marked pairs wait at their calls
pub record Waiting (half : Half) : Type 0 where
  pub waiting : (i j : ℕ) → is_left half.marks i j ≡ true → is_left half.waits j i ≡ true
  pub long : length half.marks ≡ 32
  pub waits_long : length half.waits ≡ 32

-- and the pairs left that are marked in a half are hindered in it
pub record HalfOf (ranked : Bool) (slacks lefts nears fars : List ℕ) (half : Half) : Type 0 where
  pub hindered : (i j : ℕ) → is_left lefts i j ≡ true → is_left half.marks i j ≡ true → HinderedIn ranked slacks lefts nears fars i j
  pub waits_are : Waiting half

-- both halves; for the high one near and far are exchanged
pub record Marks (ranked : Bool) (slacks : List ℕ) (left : Left) (low high : Half) : Type 0 where
  pub low_half : HalfOf ranked slacks left.lefts left.nears left.fars low
  pub high_half : HalfOf ranked slacks left.lefts left.fars left.nears high

-- (i, j) is marked in either half
abbrev pub marked : Half → Half → ℕ → ℕ → Bool
marked low high i j = is_left low.marks i j || is_left high.marks i j

-- each pair that is left is marked, unless its lot is among those to be asked
pub record Asked (lefts : List ℕ) (low high : Half) (some : ℕ) : Type 0 where
  pub each : (i j : ℕ) → is_left lefts i j ≡ true → bit some i ≡ false → marked low high i j ≡ true

-- the marks of the pairs that are taken: what is left is what is eligible and has none
pub record TakenMarks (eligible lefts taken : List ℕ) : Type 0 where
  pub each : (i j : ℕ) → i < 32 → j < 32 → is_left lefts i j ≡ (is_left eligible i j && eqb (entry taken i j) 0)
  pub long : length taken ≡ 1024

-- all that is kept beside them
pub record Standing (given : Given) (search : Search) (compared : List ℕ) : Type 0 where
  pub kept : Kept given search.left compared
  pub passed_is : Passed given search.left.lefts search.passed
  pub marks : Marks given.ranking.now.ranked given.slacks.now search.left search.low search.high

-- the same is left, and the same pairs are taken
pub record Unchanged (search search' : Search) : Type 0 where
  pub left : search'.left ≡ search.left
  pub taken : search'.taken ≡ search.taken
