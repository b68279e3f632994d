-- The numbers of a word one by one, from the lowest up.
use Rattle.std.specs.Prelude.{◌≡◌, ℕ, ◌<◌, ◌≤◌, false, Option, MatchOption}
use Rattle.specification.specs.Book.{bit}
use Rattle.words.specs.Words.{LowestIn, Without}

-- the lowest number of a word is taken out of it; or the word has none
abbrev pub TakesLowest : ℕ → Option ℕ → ℕ → Type 0
TakesLowest word taken after =
    MatchOption taken ((word ≡ 0) × (after ≡ 0)) (λ j. LowestIn word j × (j < 32) × Without word j after)

-- of the numbers of a word those from j on are left
pub record LeftFrom (word j left : ℕ) : Type 0 where
  pub before : (k : ℕ) → k < j → bit left k ≡ false
  pub on : (k : ℕ) → j ≤ k → bit left k ≡ bit word k
