-- The answers of `pair_cost`: its cases on known books, computed, and that two answers that state the same are the same.
use mathlib.Core.Path.{◌≡◌, refl}
use mathlib.Core.List.{[]}
use Rattle.std.specs.Prelude.{Result}
use lib.Count.{ones}
use lib.IntN.{pos}
use Rattle.specification.specs.Reply.{gives, refuses}
use Rattle.specification.specs.Bytes.{u16_at, u32_at, read_opening}
use Rattle.specification.specs.Book.{read_costs, read_row, read_rows, read_book, row_at, problem_of, costs_of}
use Rattle.specification.specs.Book.{PairCost, costs, not_eligible, outside, pair_cost}
use Rattle.specification.specs.Examples.{book, book1235, book_gap}
use Rattle.specification.proofs.Stated.{answer_one_to_one}
use Rattle.specification.specs.declared.Refusal.{Refusal}
use Rattle.book.specs.declared.Cost.{Cost}
use Rattle.book.specs.declared.Cost.TheVariants.{Of, NotEligible, Outside}
use Rattle.book.specs.Pairs.{pair_cost_of, stated_cost}

known : (pair_cost book1235 1 0 ≡ gives (costs (pos 3)))
    × (pair_cost book_gap 1 1 ≡ gives not_eligible)
    × (pair_cost book1235 1 2 ≡ gives outside)
    × (pair_cost (book 1 33 []) 0 0 ≡ refuses 4 [])
unfolding read_book read_opening read_rows read_row read_costs row_at problem_of costs_of u16_at u32_at ones
known = (refl, refl, refl, refl)

cost_of : PairCost → Cost
cost_of (costs cost) = Of cost
cost_of not_eligible = NotEligible
cost_of outside = Outside

pub cost_one_to_one : (a b : Result Cost Refusal) → stated_cost a ≡ stated_cost b → a ≡ b
unfolding cost_of
cost_one_to_one = answer_one_to_one pair_cost_of cost_of back
  where
    back : (a : Cost) → cost_of (pair_cost_of a) ≡ a
    back (Of cost) = refl
    back NotEligible = refl
    back Outside = refl
