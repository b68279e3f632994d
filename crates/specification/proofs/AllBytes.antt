-- Cases of the files' bytes, computed from the definitions as in `AllCases`: numbers and bits, a row with high bits, the costs of a lot, an
-- order's pairs and count, and the ends of the ranges and of the largest files.
use mathlib.Core.Path.{◌≡◌, refl}
use mathlib.Core.Bool.{cond}
use mathlib.Core.List.{List, [], ◌∷◌, ◌++◌}
use Prim.Native.Nat.{ℕ, ◌^◌}
use lib.Count.{ones, ones_in}
use lib.IntN.{pos}
use lib.ListN.{replicate, take}
use Rattle.transport.specs.Problem.{sum}
use Rattle.transport.specs.Greedy.{pair}
use Rattle.specification.specs.Reply.{gives}
use Rattle.specification.specs.Bytes.{u16_at, u32_at, book_mark, order_mark, read_opening}
use Rattle.specification.specs.Costs.{cost_top}
use Rattle.specification.specs.Book.{largest_book, bit, row_word, read_costs, read_row, read_rows, read_book, row_at, problem_of, costs_of, lot_costs}
use Rattle.specification.specs.Book.{costs, not_eligible, outside, pair_cost}
use Rattle.specification.specs.OrderFile.{pair_bytes, order_file}
use Rattle.specification.specs.Amounts.{largest_amounts}
use Rattle.specification.specs.Examples.{words}
use Rattle.specification.proofs.AllCases.{highest_cost, book_corners, book_steps}
use Rattle.specification.proofs.AllRebates.{lowest_cost, single_signed}

-- one lot and 10 calls: the word has bits 0, 3 and 9, and the costs are 5, 6 and 7
abbrev book_spread : List ℕ
book_spread = book_mark ++ (1 ∷ 0 ∷ 1 ∷ 10 ∷ 9 ∷ 2 ∷ 0 ∷ 0 ∷ words (5 ∷ 6 ∷ 7 ∷ []))

pub record ByteCases : Type 0 where
  -- "Integers are little-endian"
  pub sixteen_bits : u16_at (9 ∷ 1 ∷ 2 ∷ []) 1 ≡ 513
  pub thirty_two_bits : u32_at (9 ∷ 1 ∷ 2 ∷ 3 ∷ 4 ∷ []) 1 ≡ 67305985
  -- "a 32-bit eligibility word", "bit 0 is the lowest": a word is the sum of its bits
  pub word_of_a_row : row_word (1 ∷ 2 ∷ 3 ∷ 4 ∷ []) ≡ 67305985
  pub bits_of_a_word : sum 32 (λ j. cond (bit 0xabcdef98 j) (2 ^ j) 0) ≡ 0xabcdef98
  -- "bit j set if call j is eligible .., then one 32-bit cost for each set bit, lowest bit first"
  pub call_3 : pair_cost book_spread 0 3 ≡ gives (costs (pos 6))
  pub call_9 : pair_cost book_spread 0 9 ≡ gives (costs (pos 7))
  pub call_8 : pair_cost book_spread 0 8 ≡ gives not_eligible
  pub call_10 : pair_cost book_spread 0 10 ≡ gives outside
  -- "The costs of a lot are handed back as that stretch": where a call is missing, and of a lot whose number is no call's
  pub two_of_four : lot_costs book_steps 0 ≡ words (7 ∷ 9 ∷ [])
  pub third_lot : lot_costs book_corners 2 ≡ words (1 ∷ [])
  -- "two bytes a pair: lot, call", and "the count of pairs, 16 bits": 260 of them
  pub lot_then_call : order_file (pair 1 2 ∷ []) ≡ order_mark ++ (1 ∷ 0 ∷ 1 ∷ 0 ∷ 1 ∷ 2 ∷ [])
  pub count_above_255 : take 7 (order_file (replicate 260 (pair 0 0))) ≡ order_mark ++ (1 ∷ 0 ∷ 4 ∷ 1 ∷ [])
  -- "from -1,000,000 to 1,000,000", with 1,000,000 added
  pub lowest : (problem_of (single_signed lowest_cost)).cost 0 0 ≡ 0
  pub highest : (problem_of (single_signed highest_cost)).cost 0 0 ≡ cost_top
  -- "Largest book: 4,231 bytes"; of amounts one less than the 392 that are read (document 02, request 7)
  pub longest_book : largest_book ≡ 4231
  pub longest_amounts : largest_amounts ≡ 391

pub byte_cases : ByteCases
unfolding u16_at u32_at read_opening read_costs read_row read_rows read_book row_at problem_of costs_of lot_costs pair_bytes sum ones ones_in
byte_cases = record {
  sixteen_bits = refl;
  thirty_two_bits = refl;
  word_of_a_row = refl;
  bits_of_a_word = refl;
  call_3 = refl;
  call_9 = refl;
  call_8 = refl;
  call_10 = refl;
  two_of_four = refl;
  third_lot = refl;
  lot_then_call = refl;
  count_above_255 = refl;
  lowest = refl;
  highest = refl;
  longest_book = refl;
  longest_amounts = refl;
}
