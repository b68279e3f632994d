-- Cases computed from the definitions: each number of the table up to 19 on an input that shows it, and on an input that shows two, the one that
-- document 01 puts first; what is kept, the marks, and printed texts. F12 to F14 are among them. Files are checked by their names, so a
-- changed definition is refused here, by a number, before any proof about it is looked at.
use mathlib.Core.Path.{◌≡◌, refl}
use mathlib.Core.List.{List, [], ◌∷◌, ◌++◌}
use Prim.Native.Nat.{ℕ}
use lib.ListN.{replicate, take}
use lib.Count.{ones, ones_in}
use lib.IntN.{pos}
use Rattle.transport.specs.Problem.{sum}
use Rattle.transport.specs.Greedy.{Pair, pair, give_all}
use Rattle.transport.specs.Signed.{sumℤ}
use Rattle.transport.specs.Order.{times}
use Rattle.transport.specs.Finder.{every, first, take_from}
use Rattle.specification.specs.declared.Quadruple.TheVariants.{Holds, NotEligible, TooHigh}
use Rattle.specification.specs.Reply.{gives, refuses, full, covered, short, stated_quadruple}
use Rattle.specification.specs.Bytes.{u16_at, u32_at, book_mark, amounts_mark, read_opening}
use Rattle.specification.specs.Book.{read_costs, read_row, read_rows, read_book, row_at, row_start, cost_start, problem_of, costs_of, lot_costs}
use Rattle.specification.specs.OrderFile.{pairs, pair_bytes, order_file}
use Rattle.specification.specs.Check.{check_pairs, check_quadruple, in_turn, check_monge, check_order}
use Rattle.specification.specs.Amounts.{read_amounts_of, read_amounts}
use Rattle.specification.specs.Run.{tabulate, flow_of, run_order, run_flow}
use Rattle.specification.specs.Find.{found_order, find_order, find_buffer, found_to_run, find_and_run, find_and_run_flow}
use Rattle.specification.specs.Idle.{found_to_run_idle, find_and_run_idle, find_and_run_idle_flow}
use Rattle.specification.specs.Text.{digits, line, pair_lines, text_of, printed}
use Rattle.specification.specs.Requests.{cost_in_book}
use Rattle.specification.specs.Examples.{words, book, amounts, book1235, amounts5436, book_gap, book_diagonal}

-- 1,000,000 and 1,000,001 as costs, 1,000,000,000 and 1,000,000,001 as amounts
abbrev pub highest_cost : List ℕ
highest_cost = 64 ∷ 66 ∷ 15 ∷ 0 ∷ []

abbrev pub high_cost : List ℕ
high_cost = 65 ∷ 66 ∷ 15 ∷ 0 ∷ []

abbrev pub highest_amount : List ℕ
highest_amount = 0 ∷ 202 ∷ 154 ∷ 59 ∷ []

abbrev pub high_amount : List ℕ
high_amount = 1 ∷ 202 ∷ 154 ∷ 59 ∷ []

-- a book of one lot and call, and its amounts
abbrev pub single : List ℕ → List ℕ
single cost = book 1 1 (1 ∷ []) ++ cost

abbrev pub singles : List ℕ → List ℕ
singles amount = amounts 1 1 [] ++ (amount ++ amount)

-- F2's order
abbrev row_by_row : List Pair
row_by_row = pair 0 0 ∷ pair 0 1 ∷ pair 1 0 ∷ pair 1 1 ∷ []

pub record BookCases : Type 0 where
  -- 1 before 2, 2 before 3, 3 before 4: the version is both bytes
  pub under_seven : read_book (88 ∷ []) ≡ refuses 1 []
  pub mark_differs : read_book (amounts_mark ++ (3 ∷ 0 ∷ 1 ∷ 1 ∷ [])) ≡ refuses 2 []
  pub other_first : read_book (88 ∷ 76 ∷ 66 ∷ 1 ∷ 0 ∷ 0 ∷ 0 ∷ []) ≡ refuses 2 []
  pub other_second : read_book (67 ∷ 88 ∷ 66 ∷ 1 ∷ 0 ∷ 0 ∷ 0 ∷ []) ≡ refuses 2 []
  pub version_not_one : read_book (book_mark ++ (1 ∷ 1 ∷ 33 ∷ 1 ∷ [])) ≡ refuses 3 []
  -- 4 before 6 (F14: m is 33)
  pub lots_above_32 : read_book (book 33 1 []) ≡ refuses 4 []
  pub calls_above_32 : read_book (book 1 33 []) ≡ refuses 4 []
  -- 6 for the word, then 5 (F14: bit 2 with m 2), then 6 for the costs, then 7; lot by lot
  pub word_cut : read_book (book 1 2 [] ++ (4 ∷ 0 ∷ 0 ∷ [])) ≡ refuses 6 []
  pub bit_outside : read_book (book 1 2 (4 ∷ [])) ≡ refuses 5 (0 ∷ [])
  pub bit_outside_later : read_book (book 2 2 (0 ∷ 11 ∷ [])) ≡ refuses 5 (1 ∷ [])
  pub costs_cut : read_book (book 1 2 (3 ∷ []) ++ (high_cost ++ (0 ∷ 0 ∷ 0 ∷ []))) ≡ refuses 6 []
  pub cost_too_high : read_book (single high_cost) ≡ refuses 7 (0 ∷ 0 ∷ [])
  pub cost_before_next_lot : read_book (book 2 1 (1 ∷ []) ++ high_cost) ≡ refuses 7 (0 ∷ 0 ∷ [])
  pub cost_of_call_3 : read_book (book 1 4 (10 ∷ 0 ∷ []) ++ high_cost) ≡ refuses 7 (0 ∷ 3 ∷ [])
  -- 8 last
  pub bytes_after : read_book (book1235 ++ (0 ∷ [])) ≡ refuses 8 []
  -- the costs of a lot: that stretch, or an empty one
  pub costs_of_lot_1 : lot_costs book1235 1 ≡ words (3 ∷ 5 ∷ [])
  pub costs_of_lot_2 : lot_costs book1235 2 ≡ []
  pub costs_of_refused : lot_costs (book1235 ++ (0 ∷ [])) 1 ≡ []

pub book_cases : BookCases
unfolding u16_at u32_at read_opening read_costs read_row read_rows read_book row_at lot_costs ones ones_in
book_cases = record {
  under_seven = refl;
  mark_differs = refl;
  other_first = refl;
  other_second = refl;
  version_not_one = refl;
  lots_above_32 = refl;
  calls_above_32 = refl;
  word_cut = refl;
  bit_outside = refl;
  bit_outside_later = refl;
  costs_cut = refl;
  cost_too_high = refl;
  cost_before_next_lot = refl;
  cost_of_call_3 = refl;
  bytes_after = refl;
  costs_of_lot_1 = refl;
  costs_of_lot_2 = refl;
  costs_of_refused = refl;
}

pub record OtherCases : Type 0 where
  -- the book before an order or amounts
  pub book_before_order : check_order (book 33 1 []) [] ≡ refuses 4 []
  pub book_before_amounts : read_amounts (book 33 1 []) [] ≡ refuses 4 []
  -- an order: 6 and 8 before 9; then 9 and 10 by place; then 14; then 11 or 12
  pub order_ends_early : check_order book1235 (take 8 (order_file (pair 9 9 ∷ []))) ≡ refuses 6 []
  pub order_bytes_after : check_order book1235 (order_file (pair 9 9 ∷ []) ++ (0 ∷ [])) ≡ refuses 8 []
  pub call_outside : check_order book1235 (order_file (pair 0 0 ∷ pair 0 2 ∷ [])) ≡ refuses 9 (1 ∷ [])
  pub where_not_eligible : check_order book_gap (order_file (pair 1 1 ∷ [])) ≡ refuses 9 (0 ∷ [])
  pub met_before : check_order book1235 (order_file (pair 0 0 ∷ pair 0 1 ∷ pair 0 0 ∷ pair 9 9 ∷ [])) ≡ refuses 10 (2 ∷ [])
  pub missing : check_order book1235 (order_file (pair 0 0 ∷ pair 0 1 ∷ pair 1 0 ∷ [])) ≡ refuses 14 []
  -- each letter of their marks: XLO, CXO, XLA, CXA
  pub order_first : check_order book1235 (88 ∷ 76 ∷ 79 ∷ 1 ∷ 0 ∷ 0 ∷ 0 ∷ []) ≡ refuses 2 []
  pub order_second : check_order book1235 (67 ∷ 88 ∷ 79 ∷ 1 ∷ 0 ∷ 0 ∷ 0 ∷ []) ≡ refuses 2 []
  pub amounts_first : read_amounts book1235 (88 ∷ 76 ∷ 65 ∷ 1 ∷ 0 ∷ 2 ∷ 2 ∷ []) ≡ refuses 2 []
  pub amounts_second : read_amounts book1235 (67 ∷ 88 ∷ 65 ∷ 1 ∷ 0 ∷ 2 ∷ 2 ∷ []) ≡ refuses 2 []
  -- amounts: 15 before 6; 8 before 16 (F13)
  pub counts_differ : read_amounts book1235 (amounts 7 7 []) ≡ refuses 15 []
  pub amounts_end_early : read_amounts book1235 (amounts 2 2 (5 ∷ 4 ∷ 3 ∷ [])) ≡ refuses 6 []
  pub amounts_bytes_after : read_amounts (single highest_cost) (singles high_amount ++ (0 ∷ [])) ≡ refuses 8 []
  pub amount_too_high : read_amounts (single highest_cost) (singles high_amount) ≡ refuses 16 []
  -- a run: the order before the amounts, the amounts before 17; the flow buffer is kept
  pub order_before_amounts : run_order book1235 (order_file row_by_row) [] [] ≡ refuses 12 (0 ∷ 0 ∷ 1 ∷ 1 ∷ [])
  pub amounts_before_17 : run_order (single highest_cost) (order_file (pair 0 0 ∷ [])) (singles high_amount) [] ≡ refuses 16 []
  pub too_short_flow : run_order (single highest_cost) (order_file (pair 0 0 ∷ [])) (singles highest_amount) [] ≡ refuses 17 []
  pub flow_kept : run_flow book1235 (order_file row_by_row) amounts5436 (8 ∷ []) ≡ 8 ∷ []
  -- the finder: 17 before 13, and a buffer that is kept
  pub buffer_too_short : find_order book_diagonal (replicate 18 7) ≡ refuses 17 []
  pub buffer_kept : find_buffer book_diagonal (replicate 19 7) ≡ replicate 19 7
  -- find and run: amounts, then 17, and 13 last
  pub amounts_before_13 : find_and_run book_diagonal [] [] ≡ refuses 1 []
  pub short_before_13 : find_and_run book_diagonal (amounts 3 3 (0 ∷ 0 ∷ 0 ∷ 0 ∷ 0 ∷ 0 ∷ [])) (replicate 8 7) ≡ refuses 17 []
  pub without_order : find_and_run book_diagonal (amounts 3 3 (0 ∷ 0 ∷ 0 ∷ 0 ∷ 0 ∷ 0 ∷ [])) (replicate 9 7) ≡ refuses 13 []
  -- entry i times m plus j, where n and m differ
  pub one_by_two : find_and_run_flow (book 1 2 (3 ∷ 0 ∷ 0 ∷ [])) (amounts 1 2 (5 ∷ 2 ∷ 3 ∷ [])) (9 ∷ 9 ∷ 9 ∷ []) ≡ 2 ∷ 3 ∷ 9 ∷ []
  -- Covered where no call asks for the stock, that of the last lot; Short where a call lacks a unit though a lot has one left
  pub nothing_asked : find_and_run book_gap (amounts 2 2 (0 ∷ 2 ∷ 0 ∷ 0 ∷ [])) (replicate 4 7)
      ≡ gives (record { verdict = covered; units = 0; cost = pos 0 })
  pub lacks_and_left : find_and_run book_gap (amounts 2 2 (1 ∷ 2 ∷ 1 ∷ 2 ∷ [])) (replicate 4 7)
      ≡ gives (record { verdict = short; units = 2; cost = pos 0 })
  -- F12
  pub largest : find_and_run (single highest_cost) (singles highest_amount) (0 ∷ [])
      ≡ gives (record { verdict = full; units = 1000000000; cost = pos 1000000000000000 })
  -- the marks: CLB, CLA, CLO
  pub mark_of_book : take 3 book1235 ≡ 67 ∷ 76 ∷ 66 ∷ []
  pub mark_of_amounts : take 3 amounts5436 ≡ 67 ∷ 76 ∷ 65 ∷ []
  pub mark_of_order : take 3 (order_file []) ≡ 67 ∷ 76 ∷ 79 ∷ []
  -- the printed refusal is its number alone: REFUSED 5
  pub printed_refusal : printed (book 1 2 (4 ∷ [])) [] ≡ 82 ∷ 69 ∷ 70 ∷ 85 ∷ 83 ∷ 69 ∷ 68 ∷ 32 ∷ 53 ∷ 10 ∷ []
  -- SHORT 111 0, lots 0 and 1 with call 0
  pub printed_short : printed (book 2 1 (1 ∷ 0 ∷ 1 ∷ 0 ∷ [])) (amounts 2 1 (100 ∷ 11 ∷ 120 ∷ []))
      ≡ 83 ∷ 72 ∷ 79 ∷ 82 ∷ 84 ∷ 32 ∷ 49 ∷ 49 ∷ 49 ∷ 32 ∷ 48 ∷ 10
      ∷ 48 ∷ 32 ∷ 48 ∷ 32 ∷ 49 ∷ 48 ∷ 48 ∷ 10
      ∷ 49 ∷ 32 ∷ 48 ∷ 32 ∷ 49 ∷ 49 ∷ 10
      ∷ []
  -- COVERED 1 0, lot 0 with call 0 (F8)
  pub printed_covered : printed book_gap (amounts 2 2 (2 ∷ 0 ∷ 1 ∷ 0 ∷ []))
      ≡ 67 ∷ 79 ∷ 86 ∷ 69 ∷ 82 ∷ 69 ∷ 68 ∷ 32 ∷ 49 ∷ 32 ∷ 48 ∷ 10
      ∷ 48 ∷ 32 ∷ 48 ∷ 32 ∷ 49 ∷ 10
      ∷ []
  -- FULL 5 0, lot 0 with calls 0 and 1
  pub printed_in_two_columns : printed (book 1 2 (3 ∷ 0 ∷ 0 ∷ [])) (amounts 1 2 (5 ∷ 2 ∷ 3 ∷ []))
      ≡ 70 ∷ 85 ∷ 76 ∷ 76 ∷ 32 ∷ 53 ∷ 32 ∷ 48 ∷ 10
      ∷ 48 ∷ 32 ∷ 48 ∷ 32 ∷ 50 ∷ 10
      ∷ 48 ∷ 32 ∷ 49 ∷ 32 ∷ 51 ∷ 10
      ∷ []
  -- F12: FULL 1000000000 1000000000000000
  pub printed_largest : printed (single highest_cost) (singles highest_amount)
      ≡ 70 ∷ 85 ∷ 76 ∷ 76 ∷ 32 ∷ 49 ∷ 48 ∷ 48 ∷ 48 ∷ 48 ∷ 48 ∷ 48 ∷ 48 ∷ 48 ∷ 48 ∷ 32 ∷ 49 ∷ 48 ∷ 48 ∷ 48 ∷ 48 ∷ 48 ∷ 48 ∷ 48 ∷ 48 ∷ 48 ∷ 48 ∷ 48 ∷ 48 ∷ 48 ∷ 48 ∷ 48 ∷ 10
      ∷ 48 ∷ 32 ∷ 48 ∷ 32 ∷ 49 ∷ 48 ∷ 48 ∷ 48 ∷ 48 ∷ 48 ∷ 48 ∷ 48 ∷ 48 ∷ 48 ∷ 10
      ∷ []

pub other_cases : OtherCases
unfolding u16_at u32_at read_opening read_costs read_row read_rows read_book row_at problem_of costs_of read_amounts_of read_amounts pairs pair_bytes
other_cases =
    unfold check_pairs check_quadruple in_turn check_monge check_order tabulate flow_of sum sumℤ times give_all every first take_from ones ones_in in
    unfold run_order run_flow found_order find_order find_buffer found_to_run find_and_run find_and_run_flow digits line pair_lines text_of printed in
    record {
      book_before_order = refl;
      book_before_amounts = refl;
      order_ends_early = refl;
      order_bytes_after = refl;
      call_outside = refl;
      where_not_eligible = refl;
      met_before = refl;
      missing = refl;
      order_first = refl;
      order_second = refl;
      amounts_first = refl;
      amounts_second = refl;
      counts_differ = refl;
      amounts_end_early = refl;
      amounts_bytes_after = refl;
      amount_too_high = refl;
      order_before_amounts = refl;
      amounts_before_17 = refl;
      too_short_flow = refl;
      flow_kept = refl;
      buffer_too_short = refl;
      buffer_kept = refl;
      amounts_before_13 = refl;
      short_before_13 = refl;
      without_order = refl;
      one_by_two = refl;
      nothing_asked = refl;
      lacks_and_left = refl;
      largest = refl;
      mark_of_book = refl;
      mark_of_amounts = refl;
      mark_of_order = refl;
      printed_refusal = refl;
      printed_short = refl;
      printed_covered = refl;
      printed_in_two_columns = refl;
      printed_largest = refl;
    }

-- Request 2. Rows - 1 / 0 0 / 1 - (- not eligible): the book has an order, and the enlarged book has none
abbrev pub book_corners : List ℕ
book_corners = book 3 2 (2 ∷ 1 ∷ 3 ∷ 0 ∷ 0 ∷ 1 ∷ 1 ∷ [])

-- 2 by 2, costs 3 5 / 1 2; lots 3 4, calls 3 2: two units stay idle, and lot 0 is the dear one
abbrev pub book_spare : List ℕ
book_spare = book 2 2 (3 ∷ 3 ∷ 5 ∷ 3 ∷ 1 ∷ 2 ∷ [])

abbrev pub amounts_spare : List ℕ
amounts_spare = amounts 2 2 (3 ∷ 4 ∷ 3 ∷ 2 ∷ [])

-- one lot with no eligible call, of this many
abbrev book_bare : ℕ → List ℕ
book_bare m = book 1 m (0 ∷ [])

-- 3 by 1, costs 5 / 1 / not eligible; lots 3 3 4, call 5: the lot with no eligible call stays idle, and one unit of the dear lot
abbrev book_dear : List ℕ
book_dear = book 3 1 (1 ∷ 5 ∷ 1 ∷ 1 ∷ 0 ∷ [])

-- 6 by 1, costs 1 1 1 1 1 0, and each amount the highest: 5,000,000,000 units stay idle
abbrev book_six : List ℕ
book_six = book 6 1 (1 ∷ 1 ∷ 1 ∷ 1 ∷ 1 ∷ 1 ∷ 1 ∷ 1 ∷ 1 ∷ 1 ∷ 1 ∷ 0 ∷ [])

abbrev amounts_six : List ℕ
amounts_six = amounts 6 1 []
    ++ (highest_amount ++ (highest_amount ++ (highest_amount ++ (highest_amount ++ (highest_amount ++ (highest_amount ++ highest_amount))))))

pub record IdleCases : Type 0 where
  pub spare : find_and_run_idle book_spare amounts_spare (replicate 5 8) ≡ gives (record { verdict = covered; units = 5; cost = pos 9 })
  pub spare_flow : find_and_run_idle_flow book_spare amounts_spare (replicate 5 8) ≡ 1 ∷ 0 ∷ 2 ∷ 2 ∷ 8 ∷ []
  -- without it lot 1 stays idle
  pub spare_plain : find_and_run book_spare amounts_spare (replicate 5 8) ≡ gives (record { verdict = covered; units = 5; cost = pos 13 })
  -- equal totals: Full; nothing to place: Full
  pub equal : find_and_run_idle book1235 amounts5436 (replicate 4 8) ≡ gives (record { verdict = full; units = 9; cost = pos 24 })
  pub nothing : find_and_run_idle book_spare (amounts 2 2 (replicate 4 0)) (replicate 4 8) ≡ gives (record { verdict = full; units = 0; cost = pos 0 })
  -- a lot with no eligible call is eligible for the idle one; a call that it alone could meet still lacks units
  pub dear : find_and_run_idle book_dear (amounts 3 1 (3 ∷ 3 ∷ 4 ∷ 5 ∷ [])) (replicate 3 8)
      ≡ gives (record { verdict = covered; units = 5; cost = pos 13 })
  pub bare_short : find_and_run_idle (book_bare 1) (amounts 1 1 (5 ∷ 5 ∷ [])) (8 ∷ []) ≡ gives (record { verdict = short; units = 0; cost = pos 0 })
  -- the idle call's amount is above 32 bits: the lots with a cost stay idle, all of them
  pub above_32_bits : find_and_run_idle book_six amounts_six (replicate 6 8) ≡ gives (record { verdict = covered; units = 1000000000; cost = pos 0 })
  -- with 31 calls the idle one is the last that fits, and with 32 there is none
  pub thirty_one : find_and_run_idle (book_bare 31) (amounts 1 31 (1 ∷ replicate 31 0)) (replicate 31 8)
      ≡ gives (record { verdict = covered; units = 0; cost = pos 0 })
  pub no_idle_call : find_and_run_idle (book_bare 32) (amounts 1 32 (1 ∷ 1 ∷ replicate 31 0)) [] ≡ refuses 19 []
  -- 13 is about the enlarged book, and comes last; 17 by the book's own m before it; 19 before 17, 18 before 19, the amounts before 18
  pub found_plainly : find_order book_corners (replicate 15 7) ≡ gives 15
  pub without_order : find_and_run_idle book_corners (amounts 3 2 (replicate 5 0)) (replicate 6 8) ≡ refuses 13 []
  pub short_before_13 : find_and_run_idle book_corners (amounts 3 2 (replicate 5 0)) (replicate 5 8) ≡ refuses 17 []
  pub calls_exceed_lots : find_and_run_idle (book_bare 32) (amounts 1 32 (0 ∷ 1 ∷ replicate 31 0)) [] ≡ refuses 18 []
  pub amounts_before_18 : find_and_run_idle (single highest_cost) (amounts 1 1 (0 ∷ []) ++ high_amount) [] ≡ refuses 16 []
  pub kept : find_and_run_idle_flow (book_bare 32) (amounts 1 32 (0 ∷ 1 ∷ replicate 31 0)) (8 ∷ []) ≡ 8 ∷ []

pub idle_cases : IdleCases
unfolding u16_at u32_at read_opening read_costs read_row read_rows read_book row_at problem_of costs_of read_amounts_of read_amounts
idle_cases =
    unfold tabulate flow_of sum sumℤ give_all every first take_from ones ones_in found_order find_order found_to_run find_and_run in
    unfold found_to_run_idle find_and_run_idle find_and_run_idle_flow in
    record {
      spare = refl;
      spare_flow = refl;
      spare_plain = refl;
      equal = refl;
      nothing = refl;
      dear = refl;
      bare_short = refl;
      above_32_bits = refl;
      thirty_one = refl;
      no_idle_call = refl;
      found_plainly = refl;
      without_order = refl;
      short_before_13 = refl;
      calls_exceed_lots = refl;
      amounts_before_18 = refl;
      kept = refl;
    }

-- Request 3. 2 by 4, rows - 7 - 9 / 1 2 - 3 (- not eligible)
abbrev pub book_steps : List ℕ
book_steps = book 2 4 (10 ∷ 7 ∷ 9 ∷ 11 ∷ 1 ∷ 2 ∷ 3 ∷ [])

pub record QuadrupleCases : Type 0 where
  -- 7 + 3 ≤ 9 + 2, and not 9 + 2 ≤ 7 + 3; where (k, l) is not eligible, 11 (F6)
  pub holds : stated_quadruple 0 1 1 3 Holds ≡ check_quadruple (problem_of book_steps) (pair 0 1) 1 3
  pub too_high : stated_quadruple 0 3 1 1 TooHigh ≡ check_quadruple (problem_of book_steps) (pair 0 3) 1 1
  pub where_not_eligible : stated_quadruple 0 0 1 1 NotEligible ≡ check_quadruple (problem_of book_gap) (pair 0 0) 1 1
  -- the row of lot 1 starts at byte 19, and its cost for call 3 is the third
  pub row_starts : row_start book_steps 1 ≡ 19
  pub cost_starts : cost_start book_steps 1 3 ≡ 31
  pub cost_held : cost_in_book book_steps 1 3 ≡ pos 3

pub quadruple_cases : QuadrupleCases
unfolding u16_at u32_at row_at row_start problem_of check_quadruple ones ones_in
quadruple_cases = record {
  holds = refl;
  too_high = refl;
  where_not_eligible = refl;
  row_starts = refl;
  cost_starts = refl;
  cost_held = refl;
}
