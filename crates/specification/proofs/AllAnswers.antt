-- Cases of the answers: what an entry point replies is what a case of its answer states, each case on an input of the other pages. Their names
-- are document 01's and document 02's words, and the values stand in its order.
use mathlib.Core.Path.{◌≡◌}
use mathlib.Core.List.{[], ◌∷◌}
use Rattle.std.specs.Prelude.{Ok, Err}
use lib.IntN.{pos}
use lib.ListN.{replicate}
use Rattle.transport.specs.Greedy.{pair}
use Rattle.specification.specs.declared.Refusal.TheVariants.{BitOutside, PairMetBefore, NoOrder, BufferTooShort}
use Rattle.specification.specs.declared.Placed.TheVariants as placed
use Rattle.specification.specs.Reply.{told, stated_placed}
use Rattle.specification.specs.Book.{read_book}
use Rattle.specification.specs.OrderFile.{order_file}
use Rattle.specification.specs.Check.{check_order}
use Rattle.specification.specs.Find.{find_order, find_and_run}
use Rattle.specification.specs.Examples.{book, amounts, book1235, amounts5436, book_gap, book_diagonal, known_examples}
use Rattle.specification.proofs.AllCases.{book_corners, book_cases, other_cases, idle_cases}
use Rattle.specification.proofs.AllEmptyDesks.{book_no_calls, empty_cases}
use Rattle.specification.proofs.AllRebates.{book_rebate, amounts_rebate, rebate_cases}

pub record AnswerCases : Type 0 where
  -- "replies n and m"
  pub counts_are : read_book (book_no_calls 2) ≡ told (Ok (record { lots = 2; calls = 0 }))
  pub counts_refused : read_book (book 2 2 (0 ∷ 11 ∷ [])) ≡ told (Err (BitOutside (record { 0 = 1 })))
  -- "An order that passes gets its count of pairs as the reply" (F4)
  pub passes : check_order book1235 (order_file (pair 0 1 ∷ pair 1 0 ∷ pair 0 0 ∷ pair 1 1 ∷ [])) ≡ told (Ok 4)
  pub check_refused : check_order book1235 (order_file (pair 0 0 ∷ pair 0 1 ∷ pair 0 0 ∷ pair 9 9 ∷ []))
      ≡ told (Err (PairMetBefore 2))
  -- "Full (units, cost)" (F1), "Covered (units, cost)", "Short" (units, cost)
  pub full : find_and_run book1235 amounts5436 (replicate 5 9) ≡ stated_placed (Ok (placed.Full 9 (pos 24)))
  pub covered : find_and_run book_rebate amounts_rebate (8 ∷ 8 ∷ []) ≡ stated_placed (Ok (placed.Covered 2 (pos 10)))
  pub short : find_and_run book_gap (amounts 2 2 (1 ∷ 2 ∷ 1 ∷ 2 ∷ [])) (replicate 4 7) ≡ stated_placed (Ok (placed.Short 2 (pos 0)))
  pub run_refused : find_and_run book_diagonal (amounts 3 3 (0 ∷ 0 ∷ 0 ∷ 0 ∷ 0 ∷ 0 ∷ [])) (replicate 9 7) ≡ stated_placed (Err NoOrder)
  -- "replies with the file's length"
  pub finds : find_order book_corners (replicate 15 7) ≡ told (Ok 15)
  pub find_refused : find_order book_diagonal (replicate 18 7) ≡ told (Err BufferTooShort)

pub answer_cases : AnswerCases
answer_cases = record {
  counts_are = empty_cases.reads_no_calls;
  counts_refused = book_cases.bit_outside_later;
  passes = known_examples.f4;
  check_refused = other_cases.met_before;
  full = known_examples.f1_placed.0;
  covered = rebate_cases.plain_rebate;
  short = other_cases.lacks_and_left;
  run_refused = other_cases.without_order;
  finds = idle_cases.found_plainly;
  find_refused = other_cases.buffer_too_short;
}
