-- The slack of a pair is how far its cost lies below one more than the limit, and 0 where the pair is not eligible. Slacks state a problem,
-- which has the costs with the limit added. A table of slacks has a row of 32 entries for each lot, one for each call.
use Rattle.std.specs.Prelude.{◌≡◌, ℕ, suc, ◌-◌, ◌<◌, ◌≤◌, Bool, true, cond, not, ◌&&◌, List, length, ◌==◌, nat_lt, slice_index}
use Rattle.transport.specs.Problem.{Problem}
use Rattle.specification.specs.Costs.{cost_limit, cost_top, lifted_cost}
use Rattle.specification.specs.Book.{bit, row_word, row_cost, row_at}
use Rattle.book.specs.Table.{entry}
use Rattle.words.specs.Lefts.{is_left}

-- the slack of (i, j) by a book
abbrev pub slack_in : List ℕ → ℕ → ℕ → ℕ
slack_in book i j = cond (bit (row_word (row_at book i)) j) (suc cost_top - lifted_cost cost_limit (row_cost (row_at book i) j)) 0

-- the problem that the slacks of n lots and m calls state, slack i j being that of (i, j)
abbrev pub by_slack : (ℕ → ℕ → ℕ) → ℕ → ℕ → Problem
by_slack slack n m = record {
  lots = n;
  calls = m;
  admits = λ i j. nat_lt i n && (nat_lt j m && not (slack i j == 0));
  cost = λ i j. suc cost_top - slack i j;
}

-- the same, as a table holds them
abbrev pub by_slacks : List ℕ → ℕ → ℕ → Problem
by_slacks slacks n m = by_slack (λ i j. entry slacks i j) n m

-- (i, j) has slack
abbrev pub remains : List ℕ → ℕ → ℕ → Bool
remains slacks i j = not (entry slacks i j == 0)

-- no slack is above that of the lowest cost
abbrev pub Capped : List ℕ → Type 0
Capped slacks = (x : ℕ) → slice_index slacks x ≤ suc cost_top

-- what such a table is to be: there is no slack at further calls
pub record Slacks (slacks : List ℕ) (n m : ℕ) : Type 0 where
  pub lots_few : n ≤ 32
  pub calls_few : m ≤ 32
  pub capped : Capped slacks
  pub beyond : (i j : ℕ) → i < n → m ≤ j → j < 32 → entry slacks i j ≡ 0
  pub long : length slacks ≡ 1024

-- the words of n lots and m calls: each lot's has the calls at which it has slack, and no other
pub record Eligible (slacks : List ℕ) (n m : ℕ) (words : List ℕ) : Type 0 where
  pub each : (i j : ℕ) → i < n → j < m → is_left words i j ≡ remains slacks i j
  pub inside : (i j : ℕ) → is_left words i j ≡ true → (i < n) × (j < m)
  pub long : length words ≡ 32
