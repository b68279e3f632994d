-- What the answer of `pair_cost` states, and the byte at which a readable book holds the cost of a pair.
use Rattle.std.specs.Prelude.{Result, List, Bool, true, false, cond, ◌&&◌, ℕ, ◌/◌, ◌%◌}
use Rattle.specification.specs.Reply.{Reply, gives, refuses, told_as}
use Rattle.specification.specs.Book.{read_book, cost_start, problem_of, PairCost, costs, not_eligible, outside}
use Rattle.specification.specs.Run.{tabulate}
use Rattle.specification.specs.declared.Refusal.{Refusal}
use Rattle.book.specs.declared.Cost.{Cost}
use Rattle.book.specs.declared.Cost.TheVariants.{Of, NotEligible, Outside}

-- what each case of the answer states
abbrev pub pair_cost_of : Cost → PairCost
pair_cost_of (Of cost) = costs cost
pair_cost_of NotEligible = not_eligible
pair_cost_of Outside = outside

abbrev pub stated_cost : Result Cost Refusal → Reply PairCost
stated_cost = told_as pair_cost_of

-- the reply is no refusal
abbrev pub not_refused : {A : Type 0} → Reply A → Bool
not_refused (gives a) = true
not_refused (refuses k vs) = false

-- none of the refusals listed for a book applies
abbrev pub readable : List ℕ → Bool
readable book = not_refused (read_book book)

-- the book is readable and the pair eligible
abbrev pub has_cost : List ℕ → ℕ → ℕ → Bool
has_cost book i j = readable book && (problem_of book).admits i j

-- the byte at which the book holds the cost of a pair, 0 where it has none
abbrev pub cost_offset : List ℕ → ℕ → ℕ → ℕ
cost_offset book i j = cond (has_cost book i j) (cost_start book i j) 0

-- entry 32 i + j of the table of 1,024 is the offset of the cost of (i, j)
abbrev pub offset_table : List ℕ → List ℕ
offset_table book = tabulate 1024 (λ k. cost_offset book (k / 32) (k % 32))
