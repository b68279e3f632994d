-- A word of 32 bits as the reading of a row needs it: how many of its bits below a bit are set, and its lowest set bit from a bit on.
use Rattle.std.specs.Prelude.{◌≡◌, true, false, ℕ, ◌%◌, ◌^◌, ◌≤◌, ◌<◌}
use Rattle.std.specs.Int.Count.{ones}
use Rattle.specification.specs.Book.{bit}

-- how many bits below bit j are set
abbrev pub ones_below : ℕ → ℕ → ℕ
ones_below word j = ones (word % 2 ^ j)

-- r is the lowest set bit from bit j on, or 32 where there is none
pub record SetFrom (word j r : ℕ) : Type 0 where
  pub clear : (k : ℕ) → j ≤ k → k < r → bit word k ≡ false
  pub is_set : r < 32 → bit word r ≡ true
  pub within : r ≤ 32
  pub not_below : j ≤ 32 → j ≤ r
