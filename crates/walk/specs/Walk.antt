-- What the functions of the walk ask of their arguments, and what their answers say.
use Rattle.std.specs.Prelude.{◌≡◌, ℕ, ◌<◌, ◌≤◌, min, Bool, true, false, ◌&&◌, List, ◌≢◌, nat_le, Option, MatchOption}
use Rattle.transport.specs.Problem.{Problem}
use Rattle.transport.specs.Order.{OrderOf}
use Rattle.transport.specs.Finder.{free}
use Rattle.transport.proofs.Finder.Standing.{standing}
use Rattle.specification.specs.Book.{bit}
use Rattle.book.specs.Table.{entry, problem_by, Tabled, Packed, Worded}
use Rattle.walk.specs.Places.{order_pair, rest}
use Rattle.walk.specs.Gaps.{table_gap}

-- the turn of the eligible pair (i, j) among m calls, with a word of calls that lot i is eligible for
pub record CanEnter (table : List ℕ) (m i j word : ℕ) : Type 0 where
  pub lot_in : i < 32
  pub call_in : j < m
  pub in_table : entry table i j ≢ 0
  pub has : (l : ℕ) → l < 32 → bit word l ≡ true → entry table i l ≢ 0

-- the turn of the pair (i, j), with a word of calls that lot i is eligible for: the least gaps of call j over these calls are lowered to
-- the pair's, those of other calls stay, and the answer has the calls of the word over which the pair's gap is the least
pub record PairEntered (book table : List ℕ) (m i j word : ℕ) (least : List ℕ) (r : ℕ) (after : List ℕ) : Type 0 where
  pub lowers : (l : ℕ) → l < m → bit word l ≡ true → entry after j l ≡ min (entry least j l) (table_gap book table i j l)
  pub others : (a l : ℕ) → a < m → l < m → (a ≢ j) → entry after a l ≡ entry least a l
  pub says : (l : ℕ) → l < m → bit r l ≡ (bit word l && nat_le (table_gap book table i j l) (entry least j l))

-- an order of eligible pairs among m calls
pub record Walkable (book table starts order : List ℕ) (count m : ℕ) : Type 0 where
  pub tabled : Tabled book table
  pub packed : Packed table m
  pub worded : Worded book table starts
  pub few_calls : m ≤ 32
  pub lot_in : (p : ℕ) → p < count → (order_pair order p).lot < 32
  pub call_in : (p : ℕ) → p < count → (order_pair order p).call < m
  pub in_table : (p : ℕ) → p < count → entry table (order_pair order p).lot (order_pair order p).call ≢ 0

-- whether the pair at a place of an order is free against the pairs that stand there or later
abbrev pub free_at : Problem → List ℕ → ℕ → ℕ → Bool
free_at P order count p = free P (standing (rest order count p)) (order_pair order p).lot (order_pair order p).call

-- of the places from `from` on, r is the lowest whose pair is not free, and the count where there is none
pub record LowestNotFree (P : Problem) (order : List ℕ) (count from r : ℕ) : Type 0 where
  pub within : r ≤ count
  pub free_before : (p : ℕ) → from ≤ p → p < r → free_at P order count p ≡ true
  pub not_free : r < count → free_at P order count r ≡ false

-- the lowest place from `from` on whose pair is not free, or none
abbrev pub LowestFrom : Problem → List ℕ → ℕ → ℕ → Option ℕ → Type 0
LowestFrom P order count from r =
    MatchOption r (LowestNotFree P order count from count) (λ p. (p < count) × LowestNotFree P order count from p)

-- for every count of lots with which the pairs are an order of the eligible pairs: the answer of the walk by least gaps
abbrev pub Walked : List ℕ → List ℕ → List ℕ → ℕ → ℕ → Option ℕ → Type 0
Walked book table order count m r =
    (n : ℕ) → n ≤ 32 → OrderOf (problem_by book table n m) (rest order count 0) → LowestFrom (problem_by book table n m) order count 0 r
