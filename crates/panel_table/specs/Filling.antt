-- Tables of eight by eight, and what a book of at most that size makes of one.
use Rattle.std.specs.Prelude.{◌≡◌, true, List, ℕ, ◌+◌, ◌*◌, ◌≤◌, ◌<◌, length, get_or}
use Rattle.specification.specs.Book.{row_word, book_lots, book_calls, row_at}
use Rattle.book.specs.Pairs.{readable}
use Rattle.slacks.specs.Slacks.{slack_in, Capped}

-- what an array of 8 by 8 entries holds for two numbers below 8
abbrev pub cell : List ℕ → ℕ → ℕ → ℕ
cell xs x y = get_or xs (8 * x + y) 0

-- the slack of lot i at call j: a table has a row of 8 lots for each call
abbrev pub slack_at : List ℕ → ℕ → ℕ → ℕ
slack_at slacks i j = cell slacks j i

-- a readable book within eight by eight
pub record Within (book : List ℕ) : Type 0 where
  pub is_readable : readable book ≡ true
  pub lots_few : book_lots book ≤ 8
  pub calls_few : book_calls book ≤ 8

-- the slacks of the first lots stand in the table, and no others
pub record Entered (book : List ℕ) (lots : ℕ) (slacks : List ℕ) : Type 0 where
  pub passed : (i j : ℕ) → i < lots → j < 8 → slack_at slacks i j ≡ slack_in book i j
  pub ahead : (i j : ℕ) → lots ≤ i → i < 8 → j < 8 → slack_at slacks i j ≡ 0
  pub capped : Capped slacks
  pub long : length slacks ≡ 64

-- and the words of these lots stand beside it
pub record Filled (book : List ℕ) (lots : ℕ) (slacks eligible : List ℕ) : Type 0 where
  pub entered : Entered book lots slacks
  pub word : (i : ℕ) → i < lots → get_or eligible i 0 ≡ row_word (row_at book i)
  pub none : (i : ℕ) → lots ≤ i → get_or eligible i 0 ≡ 0
  pub long : length eligible ≡ 8
