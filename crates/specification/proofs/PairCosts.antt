-- The cost of one pair: what the reply is, by where the pair stands in a book that is read.
use mathlib.Core.Path.{◌≡◌, refl, ◌∙◌}
use mathlib.Core.Logic.{◌⊎◌, ⊎_elim}
use mathlib.Core.Bool.{Bool, true, false, cond, ◌&&◌}
use mathlib.Core.List.{List}
use Prim.Native.Nat.{ℕ, ◌≤◌, ◌<◌}
use native.Mathlib.Omega.{arith}
use lib.Dec.{T, ltb, ltb→lt, lt→ltb}
use Rattle.transport.specs.Problem.{Eligible}
use Rattle.transport.proofs.Laws.Tests.{T_true, T_false, and_says}
use Rattle.specification.specs.Reply.{gives, Size}
use Rattle.specification.specs.Costs.{Allows}
use Rattle.specification.specs.Book.{book_version, read_book, problem_of, costs_of, PairCost, costs, not_eligible, outside, pair_cost}
use Rattle.specification.proofs.Replies.{Says, giving, says_then}
use Rattle.specification.proofs.Books.{BookRead, BookRefused, book_says, admitted_inside, cost_within, book_limits}

-- a cost is one that the book's version allows
abbrev pub CostAllowed : List ℕ → PairCost → Type 0
CostAllowed book (costs z) = Allows (book_version book) z
CostAllowed book not_eligible = Unit {0}
CostAllowed book outside = Unit {0}

-- it is refused as the book is
pub pair_cost_says : (book : List ℕ) (i j : ℕ) → Says (CostAllowed book) (BookRefused book) (pair_cost book i j)
pair_cost_says book i j = says_then _ (book_says book) (λ k vs q. q) (λ n read.
    giving (by_tests read (ltb i n.lots && ltb j n.calls) ((problem_of book).admits i j) refl))
  where
    by_tests : {n : Size} → BookRead book n → (inside eligible : Bool) → (problem_of book).admits i j ≡ eligible
        → CostAllowed book (cond inside (cond eligible (costs (costs_of book i j)) not_eligible) outside)
    by_tests read false eligible e = tt
    by_tests read true false e = tt
    by_tests read true true e = cost_within read i j (admitted_inside book i j (rw e tt))

module _ (book : List ℕ) (n : Size) (e : read_book book ≡ gives n) (i j : ℕ) where
  pair_inside : i < n.lots → j < n.calls
      → pair_cost book i j ≡ gives (cond ((problem_of book).admits i j) (costs (costs_of book i j)) not_eligible)
  pair_inside h g = rw (e, T_true (ltb i n.lots) (lt→ltb i n.lots h), T_true (ltb j n.calls) (lt→ltb j n.calls g)) refl

  pub pair_costs : Eligible (problem_of book) i j → pair_cost book i j ≡ gives (costs (costs_of book i j))
  pair_costs (h, g, admitted) =
      let limits = book_limits book n e in
      pair_inside (omega (arith, limits.its_lots)) (omega (arith, limits.its_calls))
      ∙ rw (T_true ((problem_of book).admits i j) admitted) refl

  pub pair_not_eligible : i < n.lots → j < n.calls → (Eligible (problem_of book) i j → ⊥) → pair_cost book i j ≡ gives not_eligible
  pair_not_eligible h g never =
      let limits = book_limits book n e in
      let not_admitted : (T ((problem_of book).admits i j) → ⊥) =
      λ t. never (omega (arith, limits.its_lots), omega (arith, limits.its_calls), t) in
      pair_inside h g ∙ rw (T_false ((problem_of book).admits i j) not_admitted) refl

  pub pair_outside : (n.lots ≤ i) ⊎ (n.calls ≤ j) → pair_cost book i j ≡ gives outside
  pair_outside far = rw (
    e,
    T_false (ltb i n.lots && ltb j n.calls) (λ t.
        let (lot, call) = and_says (ltb i n.lots) (ltb j n.calls) t in
        ⊎_elim (λ (h : n.lots ≤ i). omega (arith, ltb→lt i n.lots lot)) (λ (h : n.calls ≤ j). omega (arith, ltb→lt j n.calls call)) far),
  ) refl
