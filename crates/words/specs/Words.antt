-- Words of lots or calls as sets: a number is in a word where that bit of it is set.
use Rattle.std.specs.Prelude.{◌≡◌, Bool, true, false, not, ◌&&◌, ◌||◌, ℕ, ◌≤◌, ◌<◌}
use Rattle.specification.specs.Book.{bit}

-- r is the lowest number in the word
pub record LowestIn (word r : ℕ) : Type 0 where
  pub is_in : bit word r ≡ true
  pub none_below : (l : ℕ) → l < r → bit word l ≡ false

-- r is the highest number in the word
pub record HighestIn (word r : ℕ) : Type 0 where
  pub is_in : bit word r ≡ true
  pub none_above : (l : ℕ) → r < l → bit word l ≡ false

-- the numbers of the word below j
pub record Below (word j after : ℕ) : Type 0 where
  pub lower : (l : ℕ) → l < j → bit after l ≡ bit word l
  pub none : (l : ℕ) → j ≤ l → bit after l ≡ false

-- the numbers of the word that are not in the other
pub record Minus (word other after : ℕ) : Type 0 where
  pub each : (l : ℕ) → bit after l ≡ (bit word l && not (bit other l))
  pub some : 0 < after → (l : ℕ) × LowestIn after l × (l < 32)

-- the numbers in either word
pub record Either (a b after : ℕ) : Type 0 where
  pub each : (l : ℕ) → bit after l ≡ (bit a l || bit b l)

-- j is taken out of the word, which then is a lower number
pub record Without (word j after : ℕ) : Type 0 where
  pub out : bit after j ≡ false
  pub others : (l : ℕ) → (l ≡ j → ⊥) → bit after l ≡ bit word l
  pub lower : bit word j ≡ true → after < word

-- the word has the numbers below count at which the test holds, and no other
pub record Begins (test : ℕ → Bool) (count word : ℕ) : Type 0 where
  pub first : (j : ℕ) → j < count → bit word j ≡ test j
  pub none : (j : ℕ) → count ≤ j → bit word j ≡ false

-- j is put into the word where the test holds
pub record IncludingIf (test : Bool) (word j after : ℕ) : Type 0 where
  pub own : bit after j ≡ (test || bit word j)
  pub others : (l : ℕ) → (l ≡ j → ⊥) → bit after l ≡ bit word l
