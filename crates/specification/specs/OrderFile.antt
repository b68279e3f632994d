-- The order file (document 01, "The three files"): the list of pairs that it holds, and the file that holds a list.
use Rattle.std.specs.Prelude.{List, [], ◌∷◌, ◌++◌, ℕ, zero, suc, ◌/◌, ◌%◌, length, drop}
use Rattle.transport.specs.Greedy.{Pair, pair}
use Rattle.specification.specs.Bytes.{byte_at, u16_at, order_mark}

-- "Bytes 5 and 6: the count of pairs, 16 bits"
abbrev pub order_count : List ℕ → ℕ
order_count s = u16_at s 5

-- the first n pairs of a list of bytes: "two bytes a pair: lot, call"
unfoldable pub pairs : ℕ → List ℕ → List Pair
pairs zero s = []
pairs (suc n) s = pair (byte_at s 0) (byte_at s 1) ∷ pairs n (drop 2 s)

-- the pairs of an order file
abbrev pub order_pairs : List ℕ → List Pair
order_pairs s = pairs (order_count s) (drop 7 s)

-- the bytes of a list of pairs
unfoldable pub pair_bytes : List Pair → List ℕ
pair_bytes [] = []
pair_bytes (p ∷ S) = p.lot ∷ p.call ∷ pair_bytes S

-- the order file of a list: the mark, version 1, the count and the pairs
abbrev pub order_file : List Pair → List ℕ
order_file S = order_mark ++ (1 ∷ 0 ∷ length S % 256 ∷ length S / 256 ∷ pair_bytes S)
