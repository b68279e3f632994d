-- Cases of request 5, computed from the definitions as in `AllCases`: desks with no lots, no calls or neither, through every entry point.
use mathlib.Core.Path.{◌≡◌, refl}
use mathlib.Core.List.{List, [], ◌∷◌, ◌++◌}
use Prim.Native.Nat.{ℕ}
use lib.ListN.{replicate}
use lib.Count.{ones, ones_in}
use lib.IntN.{pos}
use Rattle.transport.specs.Problem.{sum}
use Rattle.transport.specs.Greedy.{pair, give_all}
use Rattle.transport.specs.Order.{times}
use Rattle.transport.specs.Signed.{sumℤ}
use Rattle.transport.specs.Finder.{every, first, take_from}
use Rattle.specification.specs.Reply.{Reply, gives, refuses, Verdict, full, covered, short, Outcome}
use Rattle.specification.specs.Bytes.{u16_at, u32_at, book_mark, read_opening}
use Rattle.specification.specs.Book.{read_costs, read_row, read_rows, read_book, row_at, problem_of, costs_of, lot_costs, outside, pair_cost}
use Rattle.specification.specs.OrderFile.{pairs, pair_bytes, order_file}
use Rattle.specification.specs.Check.{check_pairs, check_monge, check_order}
use Rattle.specification.specs.Amounts.{read_amounts_of, read_amounts}
use Rattle.specification.specs.Run.{tabulate, flow_of, run_order, run_flow}
use Rattle.specification.specs.Find.{found_order, find_order, find_buffer, found_to_run, find_and_run, find_and_run_flow}
use Rattle.specification.specs.Idle.{found_to_run_idle, find_and_run_idle}
use Rattle.specification.specs.Text.{digits, line, pair_lines, text_of, printed}
use Rattle.specification.specs.Examples.{book, amounts}

-- a desk of n lots and no calls, of no lots and m calls, and with nothing yet, of version 2
abbrev pub book_no_calls : ℕ → List ℕ
book_no_calls n = book n 0 (replicate n 0)

abbrev pub book_no_lots : ℕ → List ℕ
book_no_lots m = book 0 m []

abbrev pub book_nothing_yet : List ℕ
book_nothing_yet = book_mark ++ (2 ∷ 0 ∷ 0 ∷ 0 ∷ [])

-- two lots with 3 and 4 units
abbrev pub stock : List ℕ
stock = amounts 2 0 (3 ∷ 4 ∷ [])

-- nothing is placed
abbrev places_none : Verdict → Reply Outcome
places_none v = gives (record { verdict = v; units = 0; cost = pos 0 })

pub record EmptyCases : Type 0 where
  -- it is read, with its rows; 4 by the other count; 6, 5 with the lot, and 8
  pub nothing_yet : read_book book_nothing_yet ≡ gives (record { lots = 0; calls = 0 })
  pub reads_no_lots : read_book (book_no_lots 32) ≡ gives (record { lots = 0; calls = 32 })
  pub reads_no_calls : read_book (book_no_calls 2) ≡ gives (record { lots = 2; calls = 0 })
  pub calls_above_32 : read_book (book_no_lots 33) ≡ refuses 4 []
  pub lots_above_32 : read_book (book_no_calls 33) ≡ refuses 4 []
  pub row_missing : read_book (book 2 0 (0 ∷ [])) ≡ refuses 6 []
  pub word_cut : read_book (book 1 0 [] ++ (1 ∷ 0 ∷ 0 ∷ [])) ≡ refuses 6 []
  pub word_not_0 : read_book (book 2 0 (0 ∷ 1 ∷ [])) ≡ refuses 5 (1 ∷ [])
  pub bytes_after : read_book (book 0 2 (0 ∷ [])) ≡ refuses 8 []
  -- no costs
  pub costs_of_lot : lot_costs (book_no_calls 2) 0 ≡ []
  pub cost_of_pair : pair_cost (book_no_calls 2) 1 0 ≡ gives outside
  -- its order has no pairs
  pub passes : check_order (book_no_lots 2) (order_file []) ≡ gives 0
  pub pair_listed : check_order (book_no_calls 2) (order_file (pair 0 0 ∷ [])) ≡ refuses 9 (0 ∷ [])
  pub pair_listed_no_lots : check_order (book_no_lots 2) (order_file (pair 0 0 ∷ [])) ≡ refuses 9 (0 ∷ [])
  pub found : find_buffer (book_no_calls 2) (replicate 8 7) ≡ order_file [] ++ (7 ∷ [])
  pub found_length : find_order (book_no_calls 2) (replicate 7 7) ≡ gives 7
  pub found_too_short : find_order (book_no_calls 2) (replicate 6 7) ≡ refuses 17 []
  -- amounts with the same zero counts, and with others
  pub amounts_read : read_amounts (book_no_calls 2) stock ≡ gives (record { lots = 2; calls = 0 })
  pub amounts_of_calls : read_amounts (book_no_lots 1) (amounts 0 1 (1 ∷ [])) ≡ gives (record { lots = 0; calls = 1 })
  pub amounts_differ : read_amounts (book_no_lots 2) stock ≡ refuses 15 []
  -- no calls: Covered, or Full where the lots are empty too; no lots: Short, or Full where nothing is asked. A flow of no entries is enough
  pub stock_alone : find_and_run (book_no_calls 2) stock [] ≡ places_none covered
  pub no_stock : find_and_run (book_no_calls 2) (amounts 2 0 (0 ∷ 0 ∷ [])) [] ≡ places_none full
  pub calls_alone : find_and_run (book_no_lots 1) (amounts 0 1 (1 ∷ [])) [] ≡ places_none short
  pub calls_of_none : find_and_run (book_no_lots 1) (amounts 0 1 (0 ∷ [])) [] ≡ places_none full
  pub nothing_at_all : find_and_run book_nothing_yet (amounts 0 0 []) [] ≡ places_none full
  pub flow_kept : find_and_run_flow (book_no_calls 2) stock (8 ∷ []) ≡ 8 ∷ []
  pub by_order : run_order (book_no_calls 2) (order_file []) stock [] ≡ places_none covered
  pub by_order_kept : run_flow (book_no_calls 2) (order_file []) stock (8 ∷ []) ≡ 8 ∷ []
  -- with an idle call: it is the only one; 18 and 19 as ever
  pub all_idle : find_and_run_idle (book_no_calls 2) stock [] ≡ places_none covered
  pub idle_of_none : find_and_run_idle (book_no_lots 31) (amounts 0 31 (replicate 31 0)) [] ≡ places_none full
  pub calls_exceed_none : find_and_run_idle (book_no_lots 32) (amounts 0 32 (1 ∷ replicate 31 0)) [] ≡ refuses 18 []
  pub no_idle_call : find_and_run_idle (book_no_lots 32) (amounts 0 32 (replicate 32 0)) [] ≡ refuses 19 []
  -- COVERED 0 0, and no line more
  pub first_line : printed (book_no_calls 2) stock ≡ 67 ∷ 79 ∷ 86 ∷ 69 ∷ 82 ∷ 69 ∷ 68 ∷ 32 ∷ 48 ∷ 32 ∷ 48 ∷ 10 ∷ []

pub empty_cases : EmptyCases
unfolding u16_at u32_at read_opening read_costs read_row read_rows read_book row_at problem_of costs_of lot_costs read_amounts_of read_amounts pairs pair_bytes
empty_cases =
    unfold check_pairs check_monge check_order tabulate flow_of sum sumℤ give_all every first take_from ones ones_in times in
    unfold run_order run_flow found_order find_order find_buffer found_to_run find_and_run find_and_run_flow found_to_run_idle find_and_run_idle in
    unfold digits line pair_lines text_of printed in
    record {
      nothing_yet = refl;
      reads_no_lots = refl;
      reads_no_calls = refl;
      calls_above_32 = refl;
      lots_above_32 = refl;
      row_missing = refl;
      word_cut = refl;
      word_not_0 = refl;
      bytes_after = refl;
      costs_of_lot = refl;
      cost_of_pair = refl;
      passes = refl;
      pair_listed = refl;
      pair_listed_no_lots = refl;
      found = refl;
      found_length = refl;
      found_too_short = refl;
      amounts_read = refl;
      amounts_of_calls = refl;
      amounts_differ = refl;
      stock_alone = refl;
      no_stock = refl;
      calls_alone = refl;
      calls_of_none = refl;
      nothing_at_all = refl;
      flow_kept = refl;
      by_order = refl;
      by_order_kept = refl;
      all_idle = refl;
      idle_of_none = refl;
      calls_exceed_none = refl;
      no_idle_call = refl;
      first_line = refl;
    }
