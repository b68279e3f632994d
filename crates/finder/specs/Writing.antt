-- The order file that the finder writes.
use Rattle.std.specs.Prelude.{◌≡◌, List, ◌++◌, ℕ, ◌+◌, ◌*◌, length, drop, Option, Some, None}
use Rattle.std.proofs.Math.Option.{some, none}
use Rattle.std.proofs.Math.Option as math
use Rattle.transport.specs.Greedy.{Pair}
use Rattle.specification.specs.OrderFile.{order_file}

-- the answer and the buffer afterwards: the order file and what stood after it, or all as it was
abbrev pub Orders : math.Option (List Pair) → Option ℕ → List ℕ → List ℕ → Type 0
Orders none r before after = (r ≡ None) × (after ≡ before)
Orders (some S) r before after = (r ≡ Some (length S)) × (after ≡ order_file S ++ drop (7 + 2 * length S) before)
