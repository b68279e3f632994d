-- Each verdict as C sees it: F1 is Full, which is 1, F10 is Short, 2, and F8 is Covered, 3. And a cost below zero: -14 is 14 below 2 ^ 64.
use mathlib.Core.Path.{◌≡◌, ap}
use mathlib.Core.List.{[], ◌∷◌}
use Rattle.specification.specs.Find.{find_and_run}
use Rattle.specification.specs.Examples.{amounts, book1235, amounts5436, book_gap, book_empty, known_examples}
use Rattle.specification.proofs.AllRebates.{book_rebates, rebate_cases}
use Rattle.answers.specs.Answers.{answer, answer_of, placed}

pub record AnswersForC : Type 0 where
  pub f1 : answer_of placed (find_and_run book1235 amounts5436 (9 ∷ 9 ∷ 9 ∷ 9 ∷ 9 ∷ [])) ≡ answer 0 1 (9 ∷ 24 ∷ [])
  pub f8 : answer_of placed (find_and_run book_gap (amounts 2 2 (2 ∷ 0 ∷ 1 ∷ 0 ∷ [])) (9 ∷ 9 ∷ 9 ∷ 9 ∷ 9 ∷ [])) ≡ answer 0 3 (1 ∷ 0 ∷ [])
  pub f10 : answer_of placed (find_and_run book_empty (amounts 1 1 (1 ∷ 1 ∷ [])) (9 ∷ 9 ∷ [])) ≡ answer 0 2 (0 ∷ 0 ∷ [])
  pub rebates : answer_of placed (find_and_run book_rebates amounts5436 (9 ∷ 9 ∷ 9 ∷ 9 ∷ [])) ≡ answer 0 1 (9 ∷ 18446744073709551602 ∷ [])

pub answers_for_c : AnswersForC
unfolding answer_of
answers_for_c = record {
  f1 = ap (answer_of placed) known_examples.f1_placed.0;
  f8 = ap (answer_of placed) known_examples.f8.0;
  f10 = ap (answer_of placed) known_examples.f10_placed.0;
  rebates = ap (answer_of placed) rebate_cases.rebates;
}
