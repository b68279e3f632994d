-- The pairs of an order file by place.
use Rattle.std.specs.Prelude.{ℕ, ◌+◌, ◌-◌, ◌*◌, List, drop, slice_index}
use Rattle.transport.specs.Greedy.{Pair, pair}
use Rattle.specification.specs.OrderFile.{pairs}

-- the pair at a place of an order file: two bytes, lot and call, after seven bytes
abbrev pub order_pair : List ℕ → ℕ → Pair
order_pair order p = pair (slice_index order (7 + 2 * p)) (slice_index order (7 + 2 * p + 1))

-- the pairs from a place on
abbrev pub rest : List ℕ → ℕ → ℕ → List Pair
rest order count p = pairs (count - p) (drop (7 + 2 * p) order)
