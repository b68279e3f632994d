-- Cases of request 7, computed from the definitions as in `AllCases`: amounts of version 2, and the runs of what their lots hold less the
-- reserves.
use mathlib.Core.Path.{◌≡◌, refl}
use mathlib.Core.List.{List, [], ◌∷◌, ◌++◌}
use Prim.Native.Nat.{ℕ}
use lib.ListN.{replicate}
use lib.Count.{ones, ones_in}
use lib.IntN.{pos, negsuc}
use Rattle.transport.specs.Problem.{sum}
use Rattle.transport.specs.Greedy.{pair, give_all}
use Rattle.transport.specs.Signed.{sumℤ}
use Rattle.transport.specs.Order.{times}
use Rattle.transport.specs.Finder.{every, first, take_from}
use Rattle.specification.specs.Reply.{gives, refuses, full, covered, short}
use Rattle.specification.specs.Bytes.{u16_at, u32_at, amounts_mark, read_opening}
use Rattle.specification.specs.Book.{read_costs, read_row, read_rows, read_book, row_at, problem_of, costs_of}
use Rattle.specification.specs.OrderFile.{pairs, pair_bytes, order_file}
use Rattle.specification.specs.Check.{check_pairs, check_quadruple, in_turn, check_monge, check_order}
use Rattle.specification.specs.Amounts.{reserve_at, lot_amount, read_amounts_of, read_amounts}
use Rattle.specification.specs.Run.{tabulate, flow_of, run_order, run_flow}
use Rattle.specification.specs.Find.{found_to_run, find_and_run, find_and_run_flow}
use Rattle.specification.specs.Idle.{found_to_run_idle, find_and_run_idle, find_and_run_idle_flow}
use Rattle.specification.specs.Panel.{read_panel, find_and_run_panel, find_and_run_panel_flow}
use Rattle.specification.specs.Text.{digits, line, pair_lines, text_of, printed}
use Rattle.specification.specs.Examples.{words, book, amounts, book1235, text5436}
use Rattle.specification.proofs.AllCases.{highest_cost, highest_amount, high_amount, single, book_spare}
use Rattle.specification.proofs.AllRebates.{book_rebates}
use Rattle.specification.proofs.AllEmptyDesks.{book_no_calls, book_no_lots}

-- amounts of version 2, from n, m and the 32-bit fields that follow: lot amounts, call amounts, reserves
abbrev pub reserved : ℕ → ℕ → List ℕ → List ℕ
reserved n m fields = amounts_mark ++ (2 ∷ 0 ∷ n ∷ m ∷ words fields)

-- F1's amounts, where the lots hold 7 and 5 and 2 and 1 are reserved
abbrev pub reserved5436 : List ℕ
reserved5436 = reserved 2 2 (7 ∷ 5 ∷ 3 ∷ 6 ∷ 2 ∷ 1 ∷ [])

-- F1's flow, in a buffer of one entry more
abbrev flow5436 : List ℕ
flow5436 = 0 ∷ 5 ∷ 3 ∷ 1 ∷ 9 ∷ []

-- 2 by 1, costs 3 / 4, and 1 by 2, costs 0
abbrev book_tall : List ℕ
book_tall = book 2 1 (1 ∷ 3 ∷ 1 ∷ 4 ∷ [])

abbrev book_wide : List ℕ
book_wide = book 1 2 (3 ∷ 0 ∷ 0 ∷ [])

-- F1's order, and amounts where the reserve of lot 0 exceeds it
abbrev order5436 : List ℕ
order5436 = order_file (pair 0 1 ∷ pair 0 0 ∷ pair 1 0 ∷ pair 1 1 ∷ [])

abbrev exceeding : List ℕ
exceeding = reserved 2 2 (7 ∷ 5 ∷ 3 ∷ 6 ∷ 8 ∷ 0 ∷ [])

-- amounts of one lot and one call, by their bytes: what the lot holds, what the call asks for, the reserve
abbrev pub triple : List ℕ → List ℕ → List ℕ → List ℕ
triple lot call reserve = reserved 1 1 [] ++ (lot ++ (call ++ reserve))

-- 0, 1 and the highest number of 32 bits
abbrev pub none : List ℕ
none = words (0 ∷ [])

abbrev pub one : List ℕ
one = words (1 ∷ [])

abbrev highest32 : List ℕ
highest32 = replicate 4 255

pub record ReserveCases : Type 0 where
  -- each lot has its own reserve, behind the call amounts
  pub reserves_are : (reserve_at reserved5436 0 ≡ 2) × (reserve_at reserved5436 1 ≡ 1)
  pub amounts_are : (lot_amount reserved5436 0 ≡ 5) × (lot_amount reserved5436 1 ≡ 4)
  -- so every run is F1's, and Full though units are reserved
  pub run : run_order book1235 order5436 reserved5436 (replicate 5 9)
      ≡ gives (record { verdict = full; units = 9; cost = pos 24 })
  pub flow_of_run : run_flow book1235 order5436 reserved5436 (replicate 5 9) ≡ flow5436
  pub placed : find_and_run book1235 reserved5436 (replicate 5 9) ≡ gives (record { verdict = full; units = 9; cost = pos 24 })
  pub placed_flow : find_and_run_flow book1235 reserved5436 (replicate 5 9) ≡ flow5436
  pub idle : find_and_run_idle book1235 reserved5436 (replicate 5 9) ≡ gives (record { verdict = full; units = 9; cost = pos 24 })
  pub idle_flow : find_and_run_idle_flow book1235 reserved5436 (replicate 5 9) ≡ flow5436
  pub panel : find_and_run_panel book1235 reserved5436 (replicate 5 9) ≡ gives (record { verdict = full; units = 9; cost = pos 24 })
  pub panel_flow : find_and_run_panel_flow book1235 reserved5436 (replicate 5 9) ≡ flow5436
  pub prints : printed book1235 reserved5436 ≡ text5436
  -- less reserved: stock is left; more: a call lacks units; in version 2 with no reserve, as in version 1
  pub covers : find_and_run book1235 (reserved 2 2 (7 ∷ 5 ∷ 3 ∷ 6 ∷ 2 ∷ 0 ∷ [])) (replicate 4 9)
      ≡ gives (record { verdict = covered; units = 9; cost = pos 24 })
  pub lacks : find_and_run book1235 (reserved 2 2 (7 ∷ 5 ∷ 3 ∷ 6 ∷ 2 ∷ 2 ∷ [])) (replicate 4 9)
      ≡ gives (record { verdict = short; units = 8; cost = pos 19 })
  pub all_entries_zero : find_and_run book1235 (reserved 2 2 (5 ∷ 4 ∷ 3 ∷ 6 ∷ 0 ∷ 0 ∷ [])) (replicate 4 9)
      ≡ gives (record { verdict = full; units = 9; cost = pos 24 })
  -- all of lot 0 is reserved: nothing of it is placed, and nothing of it is left
  pub all_of_lot_0 : find_and_run_flow book1235 (reserved 2 2 (7 ∷ 9 ∷ 3 ∷ 6 ∷ 7 ∷ 0 ∷ [])) (replicate 4 8) ≡ 0 ∷ 0 ∷ 3 ∷ 6 ∷ []
  pub all_of_lot_0_full : find_and_run book1235 (reserved 2 2 (7 ∷ 9 ∷ 3 ∷ 6 ∷ 7 ∷ 0 ∷ [])) (replicate 4 8)
      ≡ gives (record { verdict = full; units = 9; cost = pos 39 })
  -- where n and m differ: nothing is taken off a call
  pub more_lots : find_and_run book_tall (reserved 2 1 (7 ∷ 5 ∷ 6 ∷ 2 ∷ 1 ∷ [])) (replicate 2 9)
      ≡ gives (record { verdict = covered; units = 6; cost = pos 19 })
  pub more_lots_flow : find_and_run_flow book_tall (reserved 2 1 (7 ∷ 5 ∷ 6 ∷ 2 ∷ 1 ∷ [])) (replicate 2 9) ≡ 5 ∷ 1 ∷ []
  pub more_calls : find_and_run book_wide (reserved 1 2 (9 ∷ 2 ∷ 3 ∷ 4 ∷ [])) (replicate 2 9)
      ≡ gives (record { verdict = full; units = 5; cost = pos 0 })
  -- 1,000,000,000 less 999,999,999
  pub all_but_one : find_and_run (single highest_cost) (triple highest_amount one (255 ∷ 201 ∷ 154 ∷ 59 ∷ [])) (9 ∷ [])
      ≡ gives (record { verdict = full; units = 1; cost = pos 1000000 })
  -- with a book of version 2, and on desks without lots or without calls
  pub rebates : find_and_run book_rebates reserved5436 (replicate 4 9) ≡ gives (record { verdict = full; units = 9; cost = negsuc 13 })
  pub rebates_idle : find_and_run_idle book_rebates reserved5436 (replicate 4 9) ≡ gives (record { verdict = full; units = 9; cost = negsuc 13 })
  pub no_lots : read_amounts (book_no_lots 1) (reserved 0 1 (1 ∷ [])) ≡ gives (record { lots = 0; calls = 1 })
  pub no_calls : find_and_run (book_no_calls 2) (reserved 2 0 (3 ∷ 4 ∷ 3 ∷ 4 ∷ [])) [] ≡ gives (record { verdict = full; units = 0; cost = pos 0 })
  -- 3 for another version, by both bytes; then 15
  pub version_0 : read_amounts book1235 (amounts_mark ++ (0 ∷ 0 ∷ 2 ∷ 2 ∷ [])) ≡ refuses 3 []
  pub version_3 : read_amounts book1235 (amounts_mark ++ (3 ∷ 0 ∷ 3 ∷ 2 ∷ [])) ≡ refuses 3 []
  pub version_258 : read_amounts book1235 (amounts_mark ++ (2 ∷ 1 ∷ 2 ∷ 2 ∷ [])) ≡ refuses 3 []
  pub counts_differ : read_amounts book1235 (reserved 2 3 (7 ∷ 5 ∷ 3 ∷ 6 ∷ 2 ∷ 1 ∷ [])) ≡ refuses 15 []
  pub lots_differ : read_amounts book1235 (reserved 3 2 (7 ∷ 5 ∷ 3 ∷ 6 ∷ 2 ∷ 1 ∷ [])) ≡ refuses 15 []
  -- 6 and 8 by the length of the version
  pub reserves_missing : read_amounts book1235 (reserved 2 2 (7 ∷ 5 ∷ 3 ∷ 6 ∷ [])) ≡ refuses 6 []
  pub reserve_cut : read_amounts book1235 (reserved 2 2 (7 ∷ 5 ∷ 3 ∷ 6 ∷ 2 ∷ []) ++ (9 ∷ 9 ∷ 9 ∷ [])) ≡ refuses 6 []
  pub byte_after : read_amounts book1235 (reserved5436 ++ (0 ∷ [])) ≡ refuses 8 []
  pub reserves_in_version_1 : read_amounts book1235 (amounts 2 2 (7 ∷ 5 ∷ 3 ∷ 6 ∷ 2 ∷ 1 ∷ [])) ≡ refuses 8 []
  -- 21 for each lot; a reserve may be as much as its lot, and is never 16
  pub exceeds_lot_0 : read_amounts book1235 (reserved 2 2 (7 ∷ 5 ∷ 3 ∷ 6 ∷ 8 ∷ 1 ∷ [])) ≡ refuses 21 []
  pub exceeds_lot_1 : read_amounts book1235 (reserved 2 2 (7 ∷ 5 ∷ 3 ∷ 6 ∷ 2 ∷ 6 ∷ [])) ≡ refuses 21 []
  pub exceeds_last_of_more : read_amounts book_tall (reserved 2 1 (7 ∷ 5 ∷ 6 ∷ 2 ∷ 6 ∷ [])) ≡ refuses 21 []
  pub equal_is_read : read_amounts book1235 (reserved 2 2 (7 ∷ 5 ∷ 3 ∷ 6 ∷ 7 ∷ 5 ∷ [])) ≡ gives (record { lots = 2; calls = 2 })
  pub highest_is_read : read_amounts (single highest_cost) (triple highest_amount highest_amount highest_amount) ≡ gives (record { lots = 1; calls = 1 })
  pub above_the_limit : read_amounts (single highest_cost) (triple highest_amount highest_amount high_amount) ≡ refuses 21 []
  pub far_above : read_amounts (single highest_cost) (triple none none highest32) ≡ refuses 21 []
  -- 16 before it: of a call, and of a lot that its reserve would bring down; 8 before both
  pub call_too_high : read_amounts (single highest_cost) (triple none high_amount one) ≡ refuses 16 []
  pub lot_too_high : read_amounts (single highest_cost) (triple high_amount none one) ≡ refuses 16 []
  pub last_call_too_high : read_amounts book1235 (reserved 2 2 (7 ∷ 5 ∷ 3 ∷ []) ++ (high_amount ++ words (8 ∷ 0 ∷ []))) ≡ refuses 16 []
  pub eight_before : read_amounts (single highest_cost) (triple none high_amount one ++ (0 ∷ [])) ≡ refuses 8 []
  -- 18 and the idle call's amount go by what the lots hold less their reserves: two units stay idle, not four; 21 before 18 and before 17,
  -- 20 before 21
  pub idle_spare : find_and_run_idle book_spare (reserved 2 2 (5 ∷ 4 ∷ 3 ∷ 2 ∷ 2 ∷ 0 ∷ [])) (replicate 5 8)
      ≡ gives (record { verdict = covered; units = 5; cost = pos 9 })
  pub idle_spare_flow : find_and_run_idle_flow book_spare (reserved 2 2 (5 ∷ 4 ∷ 3 ∷ 2 ∷ 2 ∷ 0 ∷ [])) (replicate 5 8) ≡ 1 ∷ 0 ∷ 2 ∷ 2 ∷ 8 ∷ []
  pub idle_covers : find_and_run_idle book1235 (reserved 2 2 (7 ∷ 5 ∷ 3 ∷ 6 ∷ 2 ∷ 0 ∷ [])) (replicate 4 9)
      ≡ gives (record { verdict = covered; units = 9; cost = pos 24 })
  pub idle_18 : find_and_run_idle book1235 (reserved 2 2 (7 ∷ 5 ∷ 3 ∷ 6 ∷ 2 ∷ 2 ∷ [])) (replicate 4 9) ≡ refuses 18 []
  pub idle_21 : find_and_run_idle book1235 (reserved 2 2 (7 ∷ 5 ∷ 3 ∷ 7 ∷ 8 ∷ 0 ∷ [])) [] ≡ refuses 21 []
  pub run_21 : run_order book1235 order5436 exceeding [] ≡ refuses 21 []
  pub before_17 : find_and_run book1235 exceeding [] ≡ refuses 21 []
  pub panel_20 : find_and_run_panel (book 9 1 (replicate 9 0)) (reserved 9 1 (replicate 10 0 ++ (1 ∷ replicate 8 0))) [] ≡ refuses 20 []
  pub not_20 : find_and_run (book 9 1 (replicate 9 0)) (reserved 9 1 (replicate 10 0 ++ (1 ∷ replicate 8 0))) [] ≡ refuses 21 []
  pub panel_21 : find_and_run_panel book1235 exceeding [] ≡ refuses 21 []
  -- refused, it writes nothing
  pub kept : find_and_run_flow book1235 exceeding (replicate 4 9) ≡ replicate 4 9
  pub kept_run : run_flow book1235 order5436 exceeding (replicate 4 9) ≡ replicate 4 9
  pub kept_idle : find_and_run_idle_flow book1235 exceeding (replicate 4 9) ≡ replicate 4 9
  pub kept_panel : find_and_run_panel_flow book1235 exceeding (replicate 4 9) ≡ replicate 4 9
  -- REFUSED 21; FULL 0 0 where the file has more than 264 bytes, and REFUSED 8 where bytes follow the largest
  pub prints_21 : printed book1235 exceeding ≡ 82 ∷ 69 ∷ 70 ∷ 85 ∷ 83 ∷ 69 ∷ 68 ∷ 32 ∷ 50 ∷ 49 ∷ 10 ∷ []
  pub prints_long : printed (book 32 1 (replicate 32 0)) (reserved 32 1 (replicate 65 0)) ≡ 70 ∷ 85 ∷ 76 ∷ 76 ∷ 32 ∷ 48 ∷ 32 ∷ 48 ∷ 10 ∷ []
  pub prints_8 : printed (book 32 32 (replicate 32 0)) (reserved 32 32 (replicate 96 0) ++ (0 ∷ [])) ≡ 82 ∷ 69 ∷ 70 ∷ 85 ∷ 83 ∷ 69 ∷ 68 ∷ 32 ∷ 56 ∷ 10 ∷ []

pub reserve_cases : ReserveCases
unfolding u16_at u32_at read_opening read_costs read_row read_rows read_book row_at problem_of costs_of read_amounts_of read_amounts pairs pair_bytes
reserve_cases =
    unfold check_pairs check_quadruple in_turn check_monge check_order tabulate flow_of sum sumℤ times give_all every first take_from ones ones_in in
    unfold run_order run_flow found_to_run find_and_run find_and_run_flow found_to_run_idle find_and_run_idle find_and_run_idle_flow in
    unfold read_panel find_and_run_panel find_and_run_panel_flow digits line pair_lines text_of printed in
    record {
      reserves_are = (refl, refl);
      amounts_are = (refl, refl);
      run = refl;
      flow_of_run = refl;
      placed = refl;
      placed_flow = refl;
      idle = refl;
      idle_flow = refl;
      panel = refl;
      panel_flow = refl;
      prints = refl;
      covers = refl;
      lacks = refl;
      all_entries_zero = refl;
      all_of_lot_0 = refl;
      all_of_lot_0_full = refl;
      more_lots = refl;
      more_lots_flow = refl;
      more_calls = refl;
      all_but_one = refl;
      rebates = refl;
      rebates_idle = refl;
      no_lots = refl;
      no_calls = refl;
      version_0 = refl;
      version_3 = refl;
      version_258 = refl;
      counts_differ = refl;
      lots_differ = refl;
      reserves_missing = refl;
      reserve_cut = refl;
      byte_after = refl;
      reserves_in_version_1 = refl;
      exceeds_lot_0 = refl;
      exceeds_lot_1 = refl;
      exceeds_last_of_more = refl;
      equal_is_read = refl;
      highest_is_read = refl;
      above_the_limit = refl;
      far_above = refl;
      call_too_high = refl;
      lot_too_high = refl;
      last_call_too_high = refl;
      eight_before = refl;
      idle_spare = refl;
      idle_spare_flow = refl;
      idle_covers = refl;
      idle_18 = refl;
      idle_21 = refl;
      run_21 = refl;
      before_17 = refl;
      panel_20 = refl;
      not_20 = refl;
      panel_21 = refl;
      kept = refl;
      kept_run = refl;
      kept_idle = refl;
      kept_panel = refl;
      prints_21 = refl;
      prints_long = refl;
      prints_8 = refl;
    }
