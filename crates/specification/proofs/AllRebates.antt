-- Cases of request 4, computed from the definitions as in `AllCases`: both ends of the range in both versions, the versions of the three
-- files, and books with rebates whose least cost is below zero.
use mathlib.Core.Path.{◌≡◌, refl}
use mathlib.Core.List.{List, [], ◌∷◌, ◌++◌}
use Prim.Native.Nat.{ℕ, ◌-◌}
use lib.ListN.{replicate, take}
use lib.Count.{ones, ones_in}
use lib.IntN.{pos, negsuc}
use Rattle.transport.specs.Problem.{sum}
use Rattle.transport.specs.Greedy.{pair, give_all}
use Rattle.transport.specs.Order.{times}
use Rattle.transport.specs.Signed.{sumℤ}
use Rattle.transport.specs.Finder.{every, first, take_from}
use Rattle.specification.specs.Reply.{gives, refuses, full, covered}
use Rattle.specification.specs.Bytes.{u16_at, u32_at, book_mark, order_mark, read_opening}
use Rattle.specification.specs.Costs.{twos_complement}
use Rattle.specification.specs.Book.{read_costs, read_row, read_rows, read_book, row_at, problem_of, costs_of, costs, pair_cost}
use Rattle.specification.specs.OrderFile.{pairs, pair_bytes, order_file}
use Rattle.specification.specs.Check.{check_pairs, check_quadruple, in_turn, check_monge, check_order}
use Rattle.specification.specs.Amounts.{read_amounts_of, read_amounts}
use Rattle.specification.specs.Run.{tabulate, flow_of}
use Rattle.specification.specs.Find.{found_order, find_buffer, found_to_run, find_and_run, find_and_run_flow}
use Rattle.specification.specs.Idle.{found_to_run_idle, find_and_run_idle}
use Rattle.specification.specs.Text.{digits, line, pair_lines, text_of, printed}
use Rattle.specification.specs.Examples.{words, amounts, amounts5436}
use Rattle.specification.proofs.AllCases.{highest_cost, high_cost, single, highest_amount, singles}

-- a book of version 2, and a cost of -n, n from 1 to 256
abbrev signed_book : ℕ → ℕ → List ℕ → List ℕ
signed_book n m rows = book_mark ++ (2 ∷ 0 ∷ n ∷ m ∷ rows)

abbrev minus : ℕ → List ℕ
minus n = (256 - n) ∷ 255 ∷ 255 ∷ 255 ∷ []

-- 1 by 1, of version 2; -1,000,000 and -1,000,001, and the lowest number of 32 bits
abbrev pub single_signed : List ℕ → List ℕ
single_signed cost = signed_book 1 1 (words (1 ∷ []) ++ cost)

abbrev pub lowest_cost : List ℕ
lowest_cost = 192 ∷ 189 ∷ 240 ∷ 255 ∷ []

abbrev pub low_cost : List ℕ
low_cost = 191 ∷ 189 ∷ 240 ∷ 255 ∷ []

abbrev lowest32 : List ℕ
lowest32 = 0 ∷ 0 ∷ 0 ∷ 128 ∷ []

-- F1's book with the costs 1 -2 / -3 5
abbrev pub book_rebates : List ℕ
book_rebates = signed_book 2 2 (words (3 ∷ 1 ∷ []) ++ (minus 2 ++ (words (3 ∷ []) ++ (minus 3 ++ words (5 ∷ [])))))

-- 2 by 1, costs 5 / -3; lots 2 2, call 2
abbrev pub book_rebate : List ℕ
book_rebate = signed_book 2 1 (words (1 ∷ 5 ∷ 1 ∷ []) ++ minus 3)

abbrev pub amounts_rebate : List ℕ
amounts_rebate = amounts 2 1 (2 ∷ 2 ∷ 2 ∷ [])

pub record RebateCases : Type 0 where
  -- the highest bit is the sign
  pub sign_bit : (twos_complement 0x7fffffff ≡ pos 2147483647) × (twos_complement 0x80000000 ≡ negsuc 2147483647)
  -- in version 2 the range ends at -1,000,000 and 1,000,000
  pub lowest : read_book (single_signed lowest_cost) ≡ gives (record { lots = 1; calls = 1 })
  pub too_low : read_book (single_signed low_cost) ≡ refuses 7 (0 ∷ 0 ∷ [])
  pub highest : read_book (single_signed highest_cost) ≡ gives (record { lots = 1; calls = 1 })
  pub too_high : read_book (single_signed high_cost) ≡ refuses 7 (0 ∷ 0 ∷ [])
  pub far_too_low : read_book (single_signed lowest32) ≡ refuses 7 (0 ∷ 0 ∷ [])
  -- the lowest call is told, and the lot
  pub lowest_call : read_book (signed_book 1 2 (words (3 ∷ []) ++ (low_cost ++ high_cost))) ≡ refuses 7 (0 ∷ 0 ∷ [])
  pub second_lot : read_book (signed_book 2 2 (words (1 ∷ 0 ∷ 2 ∷ []) ++ low_cost)) ≡ refuses 7 (1 ∷ 1 ∷ [])
  pub minus_one : pair_cost (single_signed (minus 1)) 0 0 ≡ gives (costs (negsuc 0))
  -- in version 1 no cost is below zero
  pub unsigned_lowest : read_book (single lowest_cost) ≡ refuses 7 (0 ∷ 0 ∷ [])
  pub unsigned_far : read_book (single lowest32) ≡ refuses 7 (0 ∷ 0 ∷ [])
  pub unsigned_minus_one : read_book (single (minus 1)) ≡ refuses 7 (0 ∷ 0 ∷ [])
  pub unsigned_highest : pair_cost (single highest_cost) 0 0 ≡ gives (costs (pos 1000000))
  -- 3 means another version than 1 or 2, and of an order another than 1; the order that is found is of version 1
  pub version_0 : read_book (book_mark ++ (0 ∷ 0 ∷ 1 ∷ 1 ∷ words (0 ∷ []))) ≡ refuses 3 []
  pub version_3 : read_book (book_mark ++ (3 ∷ 0 ∷ 1 ∷ 1 ∷ words (0 ∷ []))) ≡ refuses 3 []
  pub version_258 : read_book (book_mark ++ (2 ∷ 1 ∷ 1 ∷ 1 ∷ words (0 ∷ []))) ≡ refuses 3 []
  pub order_of_version_2 : check_order (single_signed highest_cost) (order_mark ++ (2 ∷ 0 ∷ 1 ∷ 0 ∷ 0 ∷ 0 ∷ [])) ≡ refuses 3 []
  pub found : take 7 (find_buffer book_rebates (replicate 15 7)) ≡ order_mark ++ (1 ∷ 0 ∷ 4 ∷ 0 ∷ [])
  -- the check compares with the signs: 1 + 5 is above -2 - 3; as numbers of 32 bits without a sign it would not be
  pub passes : check_order book_rebates (order_file (pair 0 1 ∷ pair 0 0 ∷ pair 1 0 ∷ pair 1 1 ∷ [])) ≡ gives 4
  pub fails : check_order book_rebates (order_file (pair 0 0 ∷ pair 0 1 ∷ pair 1 0 ∷ pair 1 1 ∷ [])) ≡ refuses 12 (0 ∷ 0 ∷ 1 ∷ 1 ∷ [])
  -- five units at -2, three at -3 and one at 5: FULL 9 -14
  pub rebates : find_and_run book_rebates amounts5436 (replicate 4 9) ≡ gives (record { verdict = full; units = 9; cost = negsuc 13 })
  pub printed_rebates : printed book_rebates amounts5436
      ≡ 70 ∷ 85 ∷ 76 ∷ 76 ∷ 32 ∷ 57 ∷ 32 ∷ 45 ∷ 49 ∷ 52 ∷ 10
      ∷ 48 ∷ 32 ∷ 49 ∷ 32 ∷ 53 ∷ 10
      ∷ 49 ∷ 32 ∷ 48 ∷ 32 ∷ 51 ∷ 10
      ∷ 49 ∷ 32 ∷ 49 ∷ 32 ∷ 49 ∷ 10
      ∷ []
  -- no minus before 0: FULL 0 0
  pub printed_zero : printed (single_signed lowest_cost) (amounts 1 1 (0 ∷ 0 ∷ [])) ≡ 70 ∷ 85 ∷ 76 ∷ 76 ∷ 32 ∷ 48 ∷ 32 ∷ 48 ∷ 10 ∷ []
  -- the lowest cost of one pair with the highest amount
  pub lowest_run : find_and_run (single_signed lowest_cost) (singles highest_amount) (0 ∷ [])
      ≡ gives (record { verdict = full; units = 1000000000; cost = negsuc 999999999999999 })
  pub printed_lowest : printed (single_signed lowest_cost) (singles highest_amount)
      ≡ 70 ∷ 85 ∷ 76 ∷ 76 ∷ 32 ∷ (49 ∷ replicate 9 48) ++ (32 ∷ 45 ∷ (49 ∷ replicate 15 48)
      ++ (10 ∷ 48 ∷ 32 ∷ 48 ∷ 32 ∷ (49 ∷ replicate 9 48) ++ (10 ∷ [])))
  -- with an idle call the lot with the rebate is placed, two units at -3; without one the other, at 5
  pub idle_rebate : find_and_run_idle book_rebate amounts_rebate (8 ∷ 8 ∷ []) ≡ gives (record { verdict = covered; units = 2; cost = negsuc 5 })
  pub plain_rebate : find_and_run book_rebate amounts_rebate (8 ∷ 8 ∷ []) ≡ gives (record { verdict = covered; units = 2; cost = pos 10 })

pub rebate_cases : RebateCases
unfolding u16_at u32_at read_opening read_costs read_row read_rows read_book row_at problem_of costs_of read_amounts_of read_amounts pairs pair_bytes
rebate_cases =
    unfold check_pairs check_quadruple in_turn check_monge check_order tabulate flow_of sum sumℤ times give_all every first take_from ones ones_in in
    unfold found_order find_buffer found_to_run find_and_run find_and_run_flow found_to_run_idle find_and_run_idle digits line pair_lines text_of printed in
    record {
      sign_bit = (refl, refl);
      lowest = refl;
      too_low = refl;
      highest = refl;
      too_high = refl;
      far_too_low = refl;
      lowest_call = refl;
      second_lot = refl;
      minus_one = refl;
      unsigned_lowest = refl;
      unsigned_far = refl;
      unsigned_minus_one = refl;
      unsigned_highest = refl;
      version_0 = refl;
      version_3 = refl;
      version_258 = refl;
      order_of_version_2 = refl;
      found = refl;
      passes = refl;
      fails = refl;
      rebates = refl;
      printed_rebates = refl;
      printed_zero = refl;
      lowest_run = refl;
      printed_lowest = refl;
      idle_rebate = refl;
      plain_rebate = refl;
    }
