-- What is left, by ranks: line i is lot i, with the ranks of the calls left to it, and line 32 + j is call j, with the ranks of the lots that
-- still have it. The ends of a line are the names of its lowest and its highest rank.
use Rattle.std.specs.Prelude.{◌≡◌, Bool, true, false, List, ℕ, ◌+◌, ◌≤◌, ◌<◌, length, get_or}
use Rattle.specification.specs.Book.{bit}
use Rattle.words.specs.Words.{LowestIn, HighestIn}
use Rattle.words.specs.Lefts.{is_left}
use Rattle.ranks.specs.declared.Ranking.{Ranking}
use Rattle.lines.specs.declared.Left.{Left}

-- x is on the line, by its rank, which has its name; both are counted from `across` on
pub record OnLine (ranking : Ranking) (across word x : ℕ) : Type 0 where
  pub is_on : bit word (get_or ranking.ranks (across + x) 0) ≡ true
  pub named : get_or ranking.names (across + get_or ranking.ranks (across + x) 0) 0 ≡ x

-- the lines have what is left, by its ranks, and nothing else
pub record Lined (ranking : Ranking) (left : Left) : Type 0 where
  pub row : (i j : ℕ) → is_left left.lefts i j ≡ true → OnLine ranking 32 (get_or left.lines i 0) j
  pub column : (i j : ℕ) → is_left left.lefts i j ≡ true → OnLine ranking 0 (get_or left.lines (32 + j) 0) i
  pub row_of : (i q : ℕ) → i < 32 → is_left left.lines i q ≡ true → is_left left.lefts i (get_or ranking.names (32 + q) 0) ≡ true
  pub column_of : (j p : ℕ) → j < 32 → is_left left.lines (32 + j) p ≡ true → is_left left.lefts (get_or ranking.names p 0) j ≡ true
  pub row_rank : (i q : ℕ) → i < 32 → is_left left.lines i q ≡ true → get_or ranking.ranks (32 + get_or ranking.names (32 + q) 0) 0 ≡ q
  pub column_rank : (j p : ℕ) → j < 32 → is_left left.lines (32 + j) p ≡ true → get_or ranking.ranks (get_or ranking.names p 0) 0 ≡ p
  pub within : (x q : ℕ) → is_left left.lines x q ≡ true → q < 32
  pub long : length left.lines ≡ 64

-- the ends of a line
pub record EndsOf (ranking : Ranking) (across word near far : ℕ) : Type 0 where
  pub low : (q : ℕ) → LowestIn word q → near ≡ get_or ranking.names (across + q) 0
  pub high : (q : ℕ) → HighestIn word q → far ≡ get_or ranking.names (across + q) 0

-- of all lines
pub record Ended (ranking : Ranking) (left : Left) : Type 0 where
  pub rows : (i : ℕ) → i < 32 → EndsOf ranking 32 (get_or left.lines i 0) (get_or left.nears i 0) (get_or left.fars i 0)
  pub columns : (j : ℕ) → j < 32 → EndsOf ranking 0 (get_or left.lines (32 + j) 0) (get_or left.nears (32 + j) 0) (get_or left.fars (32 + j) 0)
  pub nears_long : length left.nears ≡ 64
  pub fars_long : length left.fars ≡ 64

-- of a list of ends before and after (i, j) is lost: a lot to which something is left has the end that it had, unless that was the pair lost; so has a call
pub record EndsKept (i j : ℕ) (lefts ends ends' : List ℕ) : Type 0 where
  pub row : (a l : ℕ) → is_left lefts a l ≡ true → ((a ≡ i) × (get_or ends a 0 ≡ j) → ⊥) → get_or ends' a 0 ≡ get_or ends a 0
  pub column : (a l : ℕ) → is_left lefts a l ≡ true → ((l ≡ j) × (get_or ends (32 + l) 0 ≡ i) → ⊥) → get_or ends' (32 + l) 0 ≡ get_or ends (32 + l) 0

-- so many lots or calls have as many ranks, which are counted from a line on; without ranks these are their own numbers
pub record RanksFrom (ranking : Ranking) (from count : ℕ) : Type 0 where
  pub few : count ≤ 32
  pub below : (x : ℕ) → x < count → get_or ranking.ranks (from + x) 0 < count
  pub all : (q : ℕ) → q < count → (x : ℕ) × (x < count) × (q ≡ get_or ranking.ranks (from + x) 0)
  pub plain : ranking.ranked ≡ false → (x : ℕ) → x < count → get_or ranking.ranks (from + x) 0 ≡ x

-- the word has the ranks of those that are in a set, and no other
pub record ByRank (ranking : Ranking) (from count : ℕ) (In : ℕ → Bool) (word : ℕ) : Type 0 where
  pub has : (x : ℕ) → In x ≡ true → bit word (get_or ranking.ranks (from + x) 0) ≡ true
  pub only : (q : ℕ) → bit word q ≡ true → (x : ℕ) × (x < count) × (In x ≡ true) × (q ≡ get_or ranking.ranks (from + x) 0)

-- the line has the word and its ends; the other lines and the words of what is left are as they were
pub record LineSet (ranking : Ranking) (word line across : ℕ) (left left' : Left) : Type 0 where
  pub own_word : get_or left'.lines line 0 ≡ word
  pub own_ends : EndsOf ranking across word (get_or left'.nears line 0) (get_or left'.fars line 0)
  pub others : (x : ℕ) → (x ≡ line → ⊥)
      → (get_or left'.lines x 0 ≡ get_or left.lines x 0) × (get_or left'.nears x 0 ≡ get_or left.nears x 0) × (get_or left'.fars x 0 ≡ get_or left.fars x 0)
  pub lefts_kept : left'.lefts ≡ left.lefts
  pub long : (length left'.lines ≡ length left.lines) × (length left'.nears ≡ length left.nears) × (length left'.fars ≡ length left.fars)
