-- What a search answers.
use Rattle.std.specs.Prelude.{◌≡◌, ℕ, ◌*◌, List, length, take, Option, Some, None}
use Rattle.std.proofs.Math.Option.{some, none}
use Rattle.std.proofs.Math.Option as math
use Rattle.transport.specs.Greedy.{Pair}
use Rattle.specification.specs.OrderFile.{pair_bytes}

-- the answer: how many pairs were found, with their bytes at the start of the array, or nothing where there is no order
abbrev pub Finds : math.Option (List Pair) → Option ℕ → List ℕ → Type 0
Finds none r bytes = r ≡ None
Finds (some S) r bytes = (r ≡ Some (length S)) × (take (2 * length S) bytes ≡ pair_bytes S)
