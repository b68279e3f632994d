-- The gaps between calls that the walk keeps: what its functions ask of their arguments, and what their answers say.
use Rattle.std.specs.Prelude.{◌≡◌, ℕ, suc, ◌+◌, ◌-◌, ◌*◌, ◌^◌, ◌<◌, ◌≤◌, min, Bool, true, cond, ◌&&◌, List, length, ◌≢◌, nat_le, nat_lt, slice_index, slice_set}
use Rattle.specification.specs.Costs.{cost_top}
use Rattle.specification.specs.Book.{bit}
use Rattle.book.specs.Table.{entry, raised_at}

-- the highest gap: of a cost at the limit over one as far below zero
abbrev pub gap_top : ℕ
gap_top = suc (cost_top + cost_top)

-- the gap of a call with the cost `own` over one whose cost the book holds at a byte, both with the limit added
abbrev pub gap_over : List ℕ → ℕ → ℕ → ℕ
gap_over book own at = suc (cost_top + own) - raised_at book at

-- the gap of call j over call l at lot i, by the table
abbrev pub table_gap : List ℕ → List ℕ → ℕ → ℕ → ℕ → ℕ
table_gap book table i j l = gap_over book (raised_at book (entry table i j)) (entry table i l)

-- 1,024 entries, none above the highest gap
pub record Capped (xs : List ℕ) : Type 0 where
  pub long : length xs ≡ 1024
  pub low : (k : ℕ) → k < 1024 → slice_index xs k ≤ gap_top

-- for each call, the word that has it alone
pub record Singles (words : List ℕ) : Type 0 where
  pub is : (l : ℕ) → l < 32 → slice_index words l ≡ 2 ^ l

-- a cost that is within the range stands at a byte of the book
pub record CostStands (book : List ℕ) (at : ℕ) : Type 0 where
  pub within : at + 4 ≤ length book
  pub cheap : raised_at book at ≤ cost_top

-- the costs of lot i, one for each of m calls, stand side by side from `start` on
pub record SideBySide (table : List ℕ) (m i start : ℕ) : Type 0 where
  pub some : 0 < start
  pub from : (l : ℕ) → l < m → entry table i l ≡ start + 4 * l

-- the gaps over m calls whose costs stand side by side
pub record CanLowerRow (book : List ℕ) (own start m j : ℕ) : Type 0 where
  pub stands : (l : ℕ) → l < m → CostStands book (start + 4 * l)
  pub own_cheap : own ≤ cost_top
  pub call_in : j < 32

-- the gaps over the calls of a word, which lot i is eligible for
pub record CanLowerSet (table : List ℕ) (own word i j : ℕ) : Type 0 where
  pub has : (l : ℕ) → l < 32 → bit word l ≡ true → entry table i l ≢ 0
  pub own_cheap : own ≤ cost_top
  pub lot_in : i < 32
  pub call_in : j < 32

-- the least gap of call j over call l is lowered to a new one; the answer is 0 where it was lower already, and else call l's word
pub record GapLowered (single j l new : ℕ) (least : List ℕ) (r : ℕ) (after : List ℕ) : Type 0 where
  pub lowers : after ≡ slice_set least (32 * j + l) (min (entry least j l) new)
  pub says : r ≡ cond (nat_lt (entry least j l) new) 0 single

-- the least gaps of call j over some calls are lowered to these; the answer has those calls over which no least gap was lower already
pub record Lowered (gap : ℕ → ℕ) (some : ℕ → Bool) (j : ℕ) (least : List ℕ) (r : ℕ) (after : List ℕ) : Type 0 where
  pub lowers : (l : ℕ) → l < 32 → entry after j l ≡ cond (some l) (min (entry least j l) (gap l)) (entry least j l)
  pub others : (a l : ℕ) → a < 32 → l < 32 → (a ≢ j) → entry after a l ≡ entry least a l
  pub says : (l : ℕ) → l < 32 → bit r l ≡ (some l && nat_le (gap l) (entry least j l))
