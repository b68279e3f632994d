-- Pairs that are left, as a list of words: each lot's word has the calls left to it.
use Rattle.std.specs.Prelude.{◌≡◌, Bool, false, List, ℕ, length, get_or}
use Rattle.specification.specs.Book.{bit}

-- (i, j) is left
abbrev pub is_left : List ℕ → ℕ → ℕ → Bool
is_left lefts i j = bit (get_or lefts i 0) j

-- j is taken out of word i, and the others are as they were
pub record TakenFrom (i j : ℕ) (before after : List ℕ) : Type 0 where
  pub out : is_left after i j ≡ false
  pub kept : (l : ℕ) → (l ≡ j → ⊥) → is_left after i l ≡ is_left before i l
  pub others : (k : ℕ) → (k ≡ i → ⊥) → get_or after k 0 ≡ get_or before k 0
  pub long : length after ≡ length before
