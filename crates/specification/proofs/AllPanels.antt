-- Cases of request 6, computed from the definitions as in `AllCases`: the ticket panel's eight by eight, and the books that it refuses.
use mathlib.Core.Path.{◌≡◌, refl}
use mathlib.Core.List.{List, [], ◌∷◌, ◌++◌}
use Prim.Native.Nat.{ℕ}
use lib.ListN.{replicate}
use lib.Count.{ones, ones_in}
use lib.IntN.{pos, negsuc}
use Rattle.transport.specs.Problem.{sum}
use Rattle.transport.specs.Greedy.{give_all}
use Rattle.transport.specs.Signed.{sumℤ}
use Rattle.transport.specs.Finder.{every, first, take_from}
use Rattle.specification.specs.Reply.{gives, refuses, full, covered}
use Rattle.specification.specs.Bytes.{u16_at, u32_at, book_mark, amounts_mark, read_opening}
use Rattle.specification.specs.Book.{read_costs, read_row, read_rows, read_book, row_at, problem_of, costs_of}
use Rattle.specification.specs.Amounts.{read_amounts_of, read_amounts}
use Rattle.specification.specs.Run.{tabulate, flow_of}
use Rattle.specification.specs.Find.{found_to_run, find_and_run, find_and_run_flow}
use Rattle.specification.specs.Panel.{read_panel, find_and_run_panel, find_and_run_panel_flow}
use Rattle.specification.specs.Examples.{book, amounts, book_diagonal}

-- eight lots and eight calls; lot 0 has the first and the last call, at 1 and 2, and lot 7 the last, at 3
abbrev pub eight_by_eight : List ℕ
eight_by_eight = book 8 8 (129 ∷ 1 ∷ 2 ∷ replicate 6 0 ++ (128 ∷ 3 ∷ []))

-- lot 0 has 7 units and lot 7 has 2, the first call asks for 3 and the last for 6
abbrev pub ticket : List ℕ
ticket = amounts 8 8 (7 ∷ replicate 6 0 ++ (2 ∷ 3 ∷ replicate 6 0 ++ (6 ∷ [])))

-- one lot and one call at a cost of -1, in version 2
abbrev rebate : List ℕ
rebate = book_mark ++ (2 ∷ 0 ∷ 1 ∷ 1 ∷ 1 ∷ 0 ∷ 0 ∷ 0 ∷ 255 ∷ 255 ∷ 255 ∷ 255 ∷ [])

pub record PanelCases : Type 0 where
  -- eight lots and eight calls are within the panel
  pub head : read_panel (book 8 1 []) ≡ gives (record { lots = 8; calls = 1 })
  pub eight : find_and_run_panel eight_by_eight ticket (replicate 64 9) ≡ gives (record { verdict = full; units = 9; cost = pos 17 })
  pub eight_flow : find_and_run_panel_flow eight_by_eight ticket (replicate 65 9) ≡ 3 ∷ replicate 6 0 ++ (4 ∷ replicate 55 0 ++ (2 ∷ 9 ∷ []))
  -- version 2, and desks without calls or lots
  pub rebates : find_and_run_panel rebate (amounts 1 1 (2 ∷ 2 ∷ [])) (9 ∷ []) ≡ gives (record { verdict = full; units = 2; cost = negsuc 1 })
  pub no_calls : find_and_run_panel (book 8 0 (replicate 8 0)) (amounts 8 0 (1 ∷ replicate 7 0)) []
      ≡ gives (record { verdict = covered; units = 0; cost = pos 0 })
  pub no_lots : find_and_run_panel (book 0 8 []) (amounts 0 8 (replicate 8 0)) [] ≡ gives (record { verdict = full; units = 0; cost = pos 0 })
  -- 1 to 4 before 20, and 20 before all that follows the first seven bytes
  pub six_bytes : find_and_run_panel (book_mark ++ (1 ∷ 0 ∷ 9 ∷ [])) [] [] ≡ refuses 1 []
  pub other_mark : find_and_run_panel (amounts_mark ++ (1 ∷ 0 ∷ 9 ∷ 9 ∷ [])) [] [] ≡ refuses 2 []
  pub nine_lots : find_and_run_panel (book 9 1 []) [] [] ≡ refuses 20 []
  pub nine_calls : find_and_run_panel (book 1 9 []) [] [] ≡ refuses 20 []
  pub most_lots : find_and_run_panel (book 32 0 []) [] [] ≡ refuses 20 []
  pub many_lots : find_and_run_panel (book 255 9 []) [] [] ≡ refuses 4 []
  pub many_calls : find_and_run_panel (book 9 33 []) [] [] ≡ refuses 4 []
  pub third_version : find_and_run_panel (book_mark ++ (3 ∷ 0 ∷ 9 ∷ 9 ∷ [])) [] [] ≡ refuses 3 []
  pub before_5 : find_and_run_panel (book 9 1 (2 ∷ [])) [] [] ≡ refuses 20 []
  pub kept : find_and_run_panel_flow (book 9 1 (replicate 9 0)) (amounts 9 1 (replicate 10 0)) (replicate 9 8) ≡ replicate 9 8
  pub kept_by_calls : find_and_run_panel_flow (book 1 9 (0 ∷ [])) (amounts 1 9 (replicate 10 0)) (replicate 9 8) ≡ replicate 9 8
  -- and within eight by eight the refusals of finding and running
  pub rows_missing : find_and_run_panel (book 8 8 []) [] [] ≡ refuses 6 []
  pub bytes_after : find_and_run_panel (book 8 8 (replicate 73 0)) [] [] ≡ refuses 8 []
  pub counts_differ : find_and_run_panel eight_by_eight (amounts 8 9 []) [] ≡ refuses 15 []
  pub too_short_flow : find_and_run_panel eight_by_eight ticket (replicate 63 9) ≡ refuses 17 []
  pub without_order : find_and_run_panel book_diagonal (amounts 3 3 (replicate 6 1)) (replicate 9 8) ≡ refuses 13 []
  pub no_order_kept : find_and_run_panel_flow book_diagonal (amounts 3 3 (replicate 6 1)) (replicate 9 8) ≡ replicate 9 8

pub panel_cases : PanelCases
unfolding u16_at u32_at read_opening read_costs read_row read_rows read_book row_at problem_of costs_of read_amounts_of read_amounts
panel_cases =
    unfold tabulate flow_of sum sumℤ give_all every first take_from ones ones_in found_to_run find_and_run find_and_run_flow in
    unfold read_panel find_and_run_panel find_and_run_panel_flow in
    record {
      head = refl;
      eight = refl;
      eight_flow = refl;
      rebates = refl;
      no_calls = refl;
      no_lots = refl;
      six_bytes = refl;
      other_mark = refl;
      nine_lots = refl;
      nine_calls = refl;
      most_lots = refl;
      many_lots = refl;
      many_calls = refl;
      third_version = refl;
      before_5 = refl;
      kept = refl;
      kept_by_calls = refl;
      rows_missing = refl;
      bytes_after = refl;
      counts_differ = refl;
      too_short_flow = refl;
      without_order = refl;
      no_order_kept = refl;
    }
