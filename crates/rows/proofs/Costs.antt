-- Laws for a loop over the costs of a row: one step of the reading and its end; and that none is refused where none is too high.
use mathlib.Core.Path.{◌≡◌, refl, ◌∙◌}
use mathlib.Core.Bool.{Bool, true, false, ◌&&◌}
use mathlib.Core.List.{List, [], ◌∷◌}
use Prim.Native.Nat.{ℕ, zero, suc, ◌+◌, ◌*◌, ◌-◌, ◌≤◌, ◌<◌}
use native.Mathlib.Numerals.{add-one}
use native.Mathlib.Omega.{arith}
use borrow.Author.Tests.{le-ltb}
use lib.Dec.{leb, leb→le}
use lib.Count.{ones}
use Rattle.transport.specs.Finder.{every}
use Rattle.transport.proofs.Laws.Searches.{every_says}
use Rattle.specification.specs.Reply.{gives, refuse_if, ◌>>=◌}
use Rattle.specification.specs.Bytes.{u32_at}
use Rattle.specification.specs.Costs.{cost_limit, cost_base, cost_outside, lifted_cost}
use Rattle.specification.specs.Book.{bit, row_word, cost_in_row, row_cost, read_costs}
use Rattle.specification.proofs.Costs.{cost_tested}
use Rattle.rows.specs.Words.{ones_below}
use Rattle.rows.proofs.Bits.{ones_below_set, ones_below_all}

module _ (row : List ℕ) (version lot calls j : ℕ) where
  -- call j's cost, and then those of the calls above it
  pub costs_step : {high : Bool} → j < calls → bit (row_word row) j && cost_outside version (row_cost row j) ≡ high
      → read_costs row version lot (calls - j) j
      ≡ (refuse_if high 7 (lot ∷ j ∷ []) >>= λ _. read_costs row version lot (calls - (j + 1)) (j + 1))
  unfolding read_costs
  costs_step h e =
      let one_more : calls - j ≡ suc (calls - (j + 1)) = omega arith in
      rw (one_more, e, add-one)

  pub costs_end : calls ≤ j → read_costs row version lot (calls - j) j ≡ gives tt
  unfolding read_costs
  costs_end h =
      let none_left : calls - j ≡ 0 = omega arith in
      rw none_left

-- where no cost of the row, with the base added, is too high, none is refused: the cost of a set bit is one of them
pub costs_low : (row : List ℕ) (version lot : ℕ) → ((at : ℕ) → u32_at row at < 4294967296)
    → every (ones (row_word row)) (λ k. leb (lifted_cost (cost_base version) (u32_at row (4 + 4 * k))) (cost_limit + cost_base version)) ≡ true
    → (left j : ℕ) → read_costs row version lot left j ≡ gives tt
unfolding read_costs
costs_low row version lot fits low zero j = refl
costs_low row version lot fits low (suc left) j =
    rw (within (bit (row_word row) j) refl) (costs_low row version lot fits low left (suc j))
  where
    test : ℕ → Bool
    test k = leb (lifted_cost (cost_base version) (u32_at row (4 + 4 * k))) (cost_limit + cost_base version)

    within : (b : Bool) → bit (row_word row) j ≡ b → bit (row_word row) j && cost_outside version (row_cost row j) ≡ false
    within false e = rw e
    within true e =
        let below : ones_below (row_word row) j < ones (row_word row) =
        omega (arith, ones_below_set (row_word row) j e, ones_below_all (row_word row) (j + 1)) in
        let fine = every_says (ones (row_word row)) test (rw low tt) (ones_below (row_word row) j) below in
        rw e (cost_tested version (row_cost row j) (fits (cost_in_row row j))
        ∙ le-ltb (cost_limit + cost_base version) (lifted_cost (cost_base version) (row_cost row j)) (leb→le _ _ fine))
