-- The transportation problem that a book and a table of offsets state. Entry 32 * lot + call of the table is the byte at which the book
-- holds the pair's cost, and 0 where the pair is not eligible.
use Rattle.std.specs.Prelude.{◌≡◌, Bool, cond, not, ◌&&◌, List, ℕ, ◌+◌, ◌*◌, ◌-◌, ◌/◌, ◌%◌, ◌≤◌, ◌<◌, ltb, eqb, length, get_or}
use Rattle.transport.specs.Problem.{Problem}
use Rattle.specification.specs.Bytes.{u32_at}
use Rattle.specification.specs.Costs.{cost_limit, cost_top, lifted_cost}
use Rattle.specification.specs.Book.{bit}
use Rattle.rows.specs.Words.{ones_below}

-- what an array of 32 by 32 entries holds for two numbers below 32
abbrev pub entry : List ℕ → ℕ → ℕ → ℕ
entry xs i j = get_or xs (32 * i + j) 0

-- lot i and call j are among n and m, and the table has an offset for their pair
abbrev pub admits_by : List ℕ → ℕ → ℕ → ℕ → ℕ → Bool
admits_by table n m i j = ltb i n && (ltb j m && not (eqb (entry table i j) 0))

-- the cost that the book holds at a byte, with the limit added: in either version a natural number, and the check's condition has two costs on
-- either side
abbrev pub raised_at : List ℕ → ℕ → ℕ
raised_at book at = lifted_cost cost_limit (u32_at book at)

-- n lots and m calls, the eligible pairs by the table, and the costs where it says
abbrev pub problem_by : List ℕ → List ℕ → ℕ → ℕ → Problem
problem_by book table n m = record {
  lots = n;
  calls = m;
  admits = admits_by table n m;
  cost = λ i j. raised_at book (entry table i j);
}

-- what the table is to be: from each entry on the book has four bytes, and the costs are within the range
pub record Tabled (book table : List ℕ) : Type 0 where
  pub within : (k : ℕ) → k < 1024 → get_or table k 0 + 4 ≤ length book
  pub cheap : (k : ℕ) → k < 1024 → (get_or table k 0 ≡ 0 → ⊥) → raised_at book (get_or table k 0) ≤ cost_top

-- a lot whose first and last costs of m lie as far apart as m costs side by side has them side by side
pub record Packed (table : List ℕ) (m : ℕ) : Type 0 where
  pub side_by_side : (i l : ℕ) → i < 32 → l < m → 0 < entry table i 0 → entry table i (m - 1) ≡ entry table i 0 + 4 * (m - 1)
      → entry table i l ≡ entry table i 0 + 4 * l

-- the rows of the lots with a cost start at these bytes: a word there has the calls with an entry
pub record Worded (book table starts : List ℕ) : Type 0 where
  pub within : (i j : ℕ) → i < 32 → j < 32 → (entry table i j ≡ 0 → ⊥) → get_or starts i 0 + 4 ≤ length book
  pub has : (i j l : ℕ) → i < 32 → j < 32 → l < 32 → (entry table i j ≡ 0 → ⊥)
      → bit (u32_at book (get_or starts i 0)) l ≡ not (eqb (entry table i l) 0)

-- a pair that the table has an entry for
pub record CanRead (book table : List ℕ) (i j : ℕ) : Type 0 where
  pub tabled : Tabled book table
  pub lot_in : i < 32
  pub call_in : j < 32

-- the table once the costs of lot i, of which the first stands at `at`, are entered: an offset at each of its set bits, and else as before
abbrev pub with_row : List ℕ → ℕ → ℕ → ℕ → ℕ → ℕ
with_row table word i at k = cond (eqb (k / 32) i && bit word (k % 32)) (at + 4 * ones_below word (k % 32)) (get_or table k 0)

-- the whole table, entered so
pub record WithRow (table : List ℕ) (word i at : ℕ) (entered : List ℕ) : Type 0 where
  pub long : length entered ≡ 1024
  pub entries : (k : ℕ) → k < 1024 → get_or entered k 0 ≡ with_row table word i at k
