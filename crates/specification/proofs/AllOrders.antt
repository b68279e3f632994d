-- Cases of the check, computed from the definitions as in `AllCases`, on books where lots and calls are not alike: what is missing, what
-- precedes what, and which failure is the first.
use mathlib.Core.Path.{◌≡◌, refl}
use mathlib.Core.List.{List, [], ◌∷◌}
use Prim.Native.Nat.{ℕ}
use lib.Count.{ones, ones_in}
use Rattle.transport.specs.Greedy.{Pair, pair}
use Rattle.transport.specs.Order.{times}
use Rattle.transport.specs.Finder.{every}
use Rattle.specification.specs.Reply.{Reply, gives, refuses}
use Rattle.specification.specs.Bytes.{u16_at, u32_at, read_opening}
use Rattle.specification.specs.Book.{read_costs, read_row, read_rows, read_book, row_at, problem_of}
use Rattle.specification.specs.OrderFile.{pairs, pair_bytes, order_file}
use Rattle.specification.specs.Check.{check_pairs, check_quadruple, in_turn, check_monge, check_order}
use Rattle.specification.specs.Examples.{book}
use Rattle.specification.proofs.AllCases.{book_corners}

-- 2 by 3, costs 0 0 0 / 0 0 1
abbrev book_stair : List ℕ
book_stair = book 2 3 (7 ∷ 0 ∷ 0 ∷ 0 ∷ 7 ∷ 0 ∷ 0 ∷ 1 ∷ [])

-- 3 by 3, rows 0 0 0 / 0 0 - / 0 - 0 (- not eligible)
abbrev book_fork : List ℕ
book_fork = book 3 3 (7 ∷ 0 ∷ 0 ∷ 0 ∷ 3 ∷ 0 ∷ 0 ∷ 5 ∷ 0 ∷ 0 ∷ [])

-- the last five pairs of an order of it
abbrev fork_rest : List Pair
fork_rest = pair 0 1 ∷ pair 0 2 ∷ pair 1 0 ∷ pair 2 0 ∷ pair 2 2 ∷ []

-- the reply to an order, written as its file
abbrev Checks : List ℕ → List Pair → Reply ℕ → Type 0
Checks b S r = check_order b (order_file S) ≡ r

pub record OrderCases : Type 0 where
  -- "(i, j) precedes both others": lot 1's first two pairs stand before those of lot 0, so that none of them is held against (1, 2)
  pub precedes_one : Checks book_stair (pair 1 0 ∷ pair 1 1 ∷ pair 0 0 ∷ pair 0 1 ∷ pair 0 2 ∷ pair 1 2 ∷ []) (gives 6)
  -- lot by lot (0, 0) precedes both (0, 2) and (1, 0)
  pub precedes_both : Checks book_stair (pair 0 0 ∷ pair 0 1 ∷ pair 0 2 ∷ pair 1 0 ∷ pair 1 1 ∷ pair 1 2 ∷ []) (refuses 12 (0 ∷ 0 ∷ 1 ∷ 2 ∷ []))
  -- "It must hold each eligible pair once": (0, 2), whose call is no lot's number, and (2, 0), whose lot is no call's
  pub call_2_missing : Checks book_stair (pair 0 0 ∷ pair 0 1 ∷ pair 1 0 ∷ pair 1 1 ∷ pair 1 2 ∷ []) (refuses 14 [])
  pub lot_2_missing : Checks book_corners (pair 0 1 ∷ pair 1 0 ∷ pair 1 1 ∷ []) (refuses 14 [])
  -- "then k rising, then l rising": (1, 2) before (2, 1); "by the place of (i, j)": (1, 1) fails nowhere, and (0, 0) comes next
  pub lot_before_call : Checks book_fork (pair 0 0 ∷ pair 1 1 ∷ fork_rest) (refuses 11 (0 ∷ 0 ∷ 1 ∷ 2 ∷ []))
  pub second_place : Checks book_fork (pair 1 1 ∷ pair 0 0 ∷ fork_rest) (refuses 11 (0 ∷ 0 ∷ 1 ∷ 2 ∷ []))

pub order_cases : OrderCases
unfolding u16_at u32_at read_opening read_costs read_row read_rows read_book row_at problem_of pairs pair_bytes
order_cases = unfold check_pairs check_quadruple in_turn check_monge check_order times every ones ones_in in record {
  precedes_one = refl;
  precedes_both = refl;
  call_2_missing = refl;
  lot_2_missing = refl;
  lot_before_call = refl;
  second_place = refl;
}
