-- The pairs before a place of an order file and the places at which they stand, and what an array of 32 by 32 entries shows.
use Rattle.std.specs.Prelude.{◌≡◌, List, [], ◌∷◌, ℕ, zero, suc, ◌<◌, length}
use Rattle.transport.specs.Greedy.{Pair, put_pair}
use Rattle.book.specs.Table.{entry}
use Rattle.walk.specs.Places.{order_pair}

-- the pairs before a place, the last in front
unfoldable pub passed : List ℕ → ℕ → List Pair
passed order zero = []
passed order (suc p) = order_pair order p ∷ passed order p

-- one more than the last place before p at which a pair stands, or 0
unfoldable pub met_at : List ℕ → ℕ → ℕ → ℕ → ℕ
met_at order zero i j = 0
met_at order (suc p) i j = put_pair (met_at order p) (order_pair order p) (suc p) i j

-- below n and m an array of 32 by 32 entries holds f
pub record Shows (n m : ℕ) (xs : List ℕ) (f : ℕ → ℕ → ℕ) : Type 0 where
  pub long : length xs ≡ 1024
  pub at : (i j : ℕ) → i < n → j < m → entry xs i j ≡ f i j
