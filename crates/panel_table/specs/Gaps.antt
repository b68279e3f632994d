-- Gaps among 8 lots, and words of the calls at which they are least. The gap of lot i over lot k at call l is the difference of their costs,
-- raised so that it is above 0, and 0 where lot k is not eligible for the call.
use Rattle.std.specs.Prelude.{◌≡◌, true, cond, not, List, ℕ, suc, ◌+◌, ◌*◌, ◌-◌, ◌≤◌, ◌<◌, min, eqb, ltb, length, get_or}
use Rattle.specification.specs.Costs.{cost_top}
use Rattle.specification.specs.Book.{bit}
use Rattle.words.specs.Words.{IncludingIf}
use Rattle.panel_table.specs.Filling.{cell, slack_at}

-- above all gaps
abbrev pub gap_out : ℕ
gap_out = 2 * suc cost_top + 1

-- the gap by the slacks of the two
abbrev pub gap_by : ℕ → ℕ → ℕ
gap_by own other = cond (eqb other 0) 0 (suc cost_top - own + other)

-- the gap of lot i over lot k at call l
abbrev pub gap_of : List ℕ → ℕ → ℕ → ℕ → ℕ
gap_of slacks i k l = gap_by (slack_at slacks i l) (slack_at slacks k l)

-- a row of 8 numbers that gaps can be
pub record LowRow (low : List ℕ) : Type 0 where
  pub within : (k : ℕ) → k < 8 → get_or low k 0 ≤ gap_out
  pub long : length low ≡ 8

-- of the calls in a word, at which the gap is `low`, and of call l, at which it is `gap`, those at which it is the lesser of the two
abbrev pub WithCall : ℕ → ℕ → ℕ → ℕ → ℕ → Type 0
WithCall word low gap l after = IncludingIf (not (ltb low gap)) (cond (ltb gap low) 0 word) l after

-- call l, with the gaps of lot i there, has joined the first words and least gaps; the others are as they were
pub record Joined (slacks : List ℕ) (i l count : ℕ) (low words low' words' : List ℕ) : Type 0 where
  pub low_passed : (k : ℕ) → k < count → get_or low' k 0 ≡ min (get_or low k 0) (gap_of slacks i k l)
  pub passed : (k : ℕ) → k < count → WithCall (get_or words k 0) (get_or low k 0) (gap_of slacks i k l) l (get_or words' k 0)
  pub low_later : (k : ℕ) → count ≤ k → get_or low' k 0 ≡ get_or low k 0
  pub later : (k : ℕ) → count ≤ k → get_or words' k 0 ≡ get_or words k 0
  pub low_long : length low' ≡ length low
  pub long : length words' ≡ length words

-- of the calls left to lot i, the word has those at which its gap over lot k is least
pub record LeastCalls (slacks : List ℕ) (left i k word : ℕ) : Type 0 where
  pub least : (l h : ℕ) → l < 8 → h < 8 → bit left l ≡ true → bit left h ≡ true → bit word l ≡ true → gap_of slacks i k l ≤ gap_of slacks i k h
  pub all : (l : ℕ) → l < 8 → bit left l ≡ true
      → ((h : ℕ) → h < 8 → bit left h ≡ true → gap_of slacks i k l ≤ gap_of slacks i k h) → bit word l ≡ true

-- such words of lot i, one for each lot k
pub record LeastRow (slacks : List ℕ) (left i : ℕ) (words : List ℕ) : Type 0 where
  pub each : (k : ℕ) → k < 8 → LeastCalls slacks left i k (get_or words k 0)

-- the first words of lot i's row are such, and the other rows are as they were
pub record Renewed (slacks : List ℕ) (i left count : ℕ) (before after : List ℕ) : Type 0 where
  pub own : (k : ℕ) → k < count → LeastCalls slacks left i k (cell after i k)
  pub others : (g k : ℕ) → (g ≡ i → ⊥) → k < 8 → cell after g k ≡ cell before g k
  pub long : length after ≡ length before
