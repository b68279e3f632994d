-- Cases of request 8, computed from the definitions as in `AllCases`: changes of one amount after the run of F1, and changes that are refused.
use mathlib.Core.Path.{◌≡◌, refl}
use mathlib.Core.List.{List, [], ◌∷◌, ◌++◌}
use Prim.Native.Nat.{ℕ}
use lib.ListN.{take}
use lib.Count.{ones, ones_in}
use lib.IntN.{pos}
use Rattle.transport.specs.Problem.{sum}
use Rattle.transport.specs.Greedy.{pair, give_all}
use Rattle.transport.specs.Signed.{sumℤ}
use Rattle.transport.specs.Order.{times}
use Rattle.transport.specs.Finder.{every}
use Rattle.transport.specs.Changes.{lot_takes, call_takes, earlier, onward, entry_sum}
use Rattle.specification.specs.Reply.{gives, refuses, full, covered, short}
use Rattle.specification.specs.Bytes.{u16_at, u32_at, read_opening}
use Rattle.specification.specs.Book.{read_costs, read_row, read_rows, read_book, row_at, problem_of, costs_of}
use Rattle.specification.specs.OrderFile.{pairs, pair_bytes, order_file}
use Rattle.specification.specs.Check.{check_pairs, check_quadruple, in_turn, check_monge, check_order}
use Rattle.specification.specs.Amounts.{read_amounts_of, read_amounts}
use Rattle.specification.specs.Run.{tabulate, flow_of, run_order, run_flow}
use Rattle.specification.specs.Change.{change, change_amounts, change_flow}
use Rattle.specification.specs.DayChanges.{after_changes, held_after}
use Rattle.specification.specs.Examples.{words, book, amounts, book1235, amounts5436, book_gap}
use Rattle.specification.proofs.AllCases.{high_amount}
use Rattle.specification.proofs.AllReserves.{reserved, reserved5436}

-- the order of F1, and its flow in a buffer of one entry more
abbrev order1235 : List ℕ
order1235 = order_file (pair 0 1 ∷ pair 0 0 ∷ pair 1 0 ∷ pair 1 1 ∷ [])

abbrev flow1235 : List ℕ
flow1235 = 0 ∷ 5 ∷ 3 ∷ 1 ∷ 9 ∷ []

-- the order of F7
abbrev order_gap : List ℕ
order_gap = order_file (pair 0 1 ∷ pair 0 0 ∷ pair 1 0 ∷ [])

pub record ChangeCases : Type 0 where
  -- F1's run, then lot 1 holds 6 for 4; call 0 asks for 1 for 3, in the file and in the flow
  pub first_run : run_order book1235 order1235 amounts5436 (7 ∷ 7 ∷ 7 ∷ 7 ∷ 9 ∷ []) ≡ gives (record { verdict = full; units = 9; cost = pos 24 })
  pub lot_takes_case : change book1235 order1235 amounts5436 flow1235 (lot_takes 1 6) ≡ gives (record { verdict = covered; units = 9; cost = pos 24 })
  pub lot_amounts : change_amounts book1235 order1235 amounts5436 flow1235 (lot_takes 1 6) ≡ amounts 2 2 (5 ∷ 6 ∷ 3 ∷ 6 ∷ [])
  pub call_takes_case : change book1235 order1235 amounts5436 flow1235 (call_takes 0 1) ≡ gives (record { verdict = covered; units = 7; cost = pos 18 })
  pub call_amounts : change_amounts book1235 order1235 amounts5436 flow1235 (call_takes 0 1) ≡ amounts 2 2 (5 ∷ 4 ∷ 1 ∷ 6 ∷ [])
  pub call_flow : change_flow book1235 order1235 amounts5436 flow1235 (call_takes 0 1) ≡ 0 ∷ 5 ∷ 1 ∷ 1 ∷ 9 ∷ []
  -- a day: two changes, one that is refused by 16, and a third; then it is as a run with the last amounts
  pub a_day : held_after book1235 order1235 amounts5436 (7 ∷ 7 ∷ 7 ∷ 7 ∷ 9 ∷ []) (record { verdict = full; units = 9; cost = pos 24 })
      (lot_takes 1 6 ∷ call_takes 0 1 ∷ lot_takes 0 1000000001 ∷ lot_takes 0 8 ∷ [])
      ≡ record {
        amounts = amounts 2 2 (8 ∷ 6 ∷ 1 ∷ 6 ∷ []);
        flow = 1 ∷ 6 ∷ 0 ∷ 0 ∷ 9 ∷ [];
        answer = record { verdict = covered; units = 7; cost = pos 13 };
      }
  pub a_run : run_flow book1235 order1235 (amounts 2 2 (8 ∷ 6 ∷ 1 ∷ 6 ∷ [])) (7 ∷ 7 ∷ 7 ∷ 7 ∷ 9 ∷ []) ≡ 1 ∷ 6 ∷ 0 ∷ 0 ∷ 9 ∷ []
  -- an earlier entry of a flow that no run made stands, and the entry of a pair that is not eligible becomes 0
  pub earlier_stands : change_flow book1235 order1235 amounts5436 (9 ∷ 2 ∷ 9 ∷ 9 ∷ []) (call_takes 0 1) ≡ 1 ∷ 2 ∷ 0 ∷ 4 ∷ []
  pub gap_cleared : change_flow book_gap order_gap (amounts 2 2 (1 ∷ 1 ∷ 1 ∷ 1 ∷ [])) (0 ∷ 1 ∷ 1 ∷ 9 ∷ []) (lot_takes 1 0) ≡ 0 ∷ 1 ∷ 0 ∷ 0 ∷ []
  -- a lot without pairs: all entries stand, its amount is written, and its units are left
  pub no_pairs : change_flow (book 2 1 (1 ∷ 0 ∷ 0 ∷ [])) (order_file (pair 0 0 ∷ [])) (amounts 2 1 (1 ∷ 0 ∷ 1 ∷ [])) (1 ∷ 7 ∷ []) (lot_takes 1 4) ≡ 1 ∷ 0 ∷ []
  pub no_pairs_left : change (book 2 1 (1 ∷ 0 ∷ 0 ∷ [])) (order_file (pair 0 0 ∷ [])) (amounts 2 1 (1 ∷ 0 ∷ 1 ∷ [])) (1 ∷ 7 ∷ []) (lot_takes 1 4)
      ≡ gives (record { verdict = covered; units = 1; cost = pos 0 })
  -- a lot with a reserve: the new amount is what it holds
  pub reserve_kept : change_amounts book1235 order1235 reserved5436 flow1235 (lot_takes 1 3) ≡ reserved 2 2 (7 ∷ 3 ∷ 3 ∷ 6 ∷ 2 ∷ 1 ∷ [])
  pub reserve_held : change book1235 order1235 reserved5436 flow1235 (lot_takes 1 3) ≡ gives (record { verdict = short; units = 7; cost = pos 16 })
  -- 9 with place 0 after the order's checks and before the amounts
  pub outside_lot : change book1235 order1235 [] [] (lot_takes 2 1) ≡ refuses 9 (0 ∷ [])
  pub outside_call : change book1235 order1235 [] [] (call_takes 2 1) ≡ refuses 9 (0 ∷ [])
  pub order_first : change book1235 (order_file (pair 0 0 ∷ [])) [] [] (call_takes 2 1) ≡ refuses 14 []
  -- a file that ends within the field is not lengthened; 16 with the new amount in place, before 17; the old amount there is not looked at
  pub short_file : change book1235 order1235 (take 9 amounts5436) [] (lot_takes 0 1) ≡ refuses 6 []
  pub too_high : change book1235 order1235 amounts5436 [] (lot_takes 1 1000000001) ≡ refuses 16 []
  pub old_too_high : change book1235 order1235 (amounts 2 2 [] ++ (high_amount ++ words (4 ∷ 3 ∷ 6 ∷ []))) [] (lot_takes 0 1) ≡ refuses 17 []
  -- 21 with the new amount in place, of a lot; of a call the old reserves are tested too
  pub reserve_exceeds : change book1235 order1235 (reserved 2 2 (5 ∷ 4 ∷ 3 ∷ 6 ∷ 0 ∷ 3 ∷ [])) [] (lot_takes 1 2) ≡ refuses 21 []
  pub reserve_mended : change book1235 order1235 (reserved 2 2 (5 ∷ 2 ∷ 3 ∷ 6 ∷ 0 ∷ 3 ∷ [])) [] (lot_takes 1 3) ≡ refuses 17 []
  pub other_reserve : change book1235 order1235 (reserved 2 2 (5 ∷ 4 ∷ 3 ∷ 6 ∷ 0 ∷ 5 ∷ [])) [] (call_takes 0 1) ≡ refuses 21 []
  -- 22 last, after 17: of a lot, of a call, and of what a lot holds less its reserve; an amount that is just spent fits (`lot_takes_case`); and then
  -- both buffers are kept
  pub short_first : change book1235 order1235 amounts5436 (0 ∷ 6 ∷ 3 ∷ []) (lot_takes 1 6) ≡ refuses 17 []
  pub lot_exceeded : change book1235 order1235 amounts5436 (0 ∷ 6 ∷ 3 ∷ 1 ∷ []) (lot_takes 1 6) ≡ refuses 22 []
  pub call_exceeded : change book1235 order1235 (amounts 2 2 (9 ∷ 4 ∷ 3 ∷ 6 ∷ [])) (0 ∷ 7 ∷ 3 ∷ 1 ∷ []) (lot_takes 1 6) ≡ refuses 22 []
  pub reserve_exceeded : change book1235 order1235 reserved5436 (0 ∷ 6 ∷ 3 ∷ 1 ∷ []) (lot_takes 1 6) ≡ refuses 22 []
  pub flow_kept : change_flow book1235 order1235 amounts5436 (0 ∷ 6 ∷ 3 ∷ 1 ∷ []) (lot_takes 1 6) ≡ 0 ∷ 6 ∷ 3 ∷ 1 ∷ []
  pub amounts_kept : change_amounts book1235 order1235 amounts5436 (0 ∷ 6 ∷ 3 ∷ 1 ∷ []) (lot_takes 1 6) ≡ amounts5436

pub change_cases : ChangeCases
unfolding u16_at u32_at read_opening read_costs read_row read_rows read_book row_at problem_of costs_of read_amounts_of read_amounts pairs pair_bytes
change_cases =
    unfold check_pairs check_quadruple in_turn check_monge check_order tabulate flow_of sum sumℤ times give_all every ones ones_in in
    unfold earlier onward entry_sum run_order run_flow change change_amounts change_flow after_changes in
    record {
      first_run = refl;
      lot_takes_case = refl;
      lot_amounts = refl;
      call_takes_case = refl;
      call_amounts = refl;
      call_flow = refl;
      a_day = refl;
      a_run = refl;
      earlier_stands = refl;
      gap_cleared = refl;
      no_pairs = refl;
      no_pairs_left = refl;
      reserve_kept = refl;
      reserve_held = refl;
      outside_lot = refl;
      outside_call = refl;
      order_first = refl;
      short_file = refl;
      too_high = refl;
      old_too_high = refl;
      reserve_exceeds = refl;
      reserve_mended = refl;
      other_reserve = refl;
      short_first = refl;
      lot_exceeded = refl;
      call_exceeded = refl;
      reserve_exceeded = refl;
      flow_kept = refl;
      amounts_kept = refl;
    }
