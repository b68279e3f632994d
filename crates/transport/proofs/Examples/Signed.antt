-- Rebates (document 02, request 4): a least cost below zero.
use mathlib.Core.Path.{◌≡◌, refl, subst}
use mathlib.Core.Bool.{true}
use mathlib.Core.List.{[], ◌∷◌}
use mathlib.Core.Option.{some}
use Prim.Native.Nat.{ℕ, zero, suc, ◌<◌}
use native.Mathlib.Omega.{arith}
use lib.IntN.{ℤ, pos, negsuc, ◌+ℤ◌}
use lib.Signed.{◌≤ℤ◌}
use lib.ListN.{get_or}
use Rattle.transport.specs.Problem.{sum, Problem, Meets}
use Rattle.transport.specs.Greedy.{give_all}
use Rattle.transport.specs.Finder.{every, first, take_from, find}
use Rattle.transport.specs.Signed.{sumℤ, signed_cost, Lifts}
use Rattle.transport.proofs.Theorems.{finder_sound}
use Rattle.transport.proofs.Theorems.Signed.{signed_monge_iff, signed_cheapest}
use Rattle.transport.proofs.AllBooks.{listed, order₁, given₁}

-- the costs are 1 -2 / -3 5, and each is held with 1,000,000 added
abbrev signed : ℕ → ℕ → ℤ
signed i j = get_or (get_or ((pos 1 ∷ negsuc 1 ∷ []) ∷ (negsuc 2 ∷ pos 5 ∷ []) ∷ []) i []) j (pos 0)

abbrev book_of_rebates : Problem
book_of_rebates = record {
  lots = 2;
  calls = 2;
  admits = λ i j. true;
  cost = λ i. listed (get_or ((1000001 ∷ 999998 ∷ []) ∷ (999997 ∷ 1000005 ∷ []) ∷ []) i []);
}

rebates_lifts : Lifts 1000000 book_of_rebates signed
rebates_lifts = record { lifted = λ i j e. cell i j e.0 e.1 }
  where
    cell : (i j : ℕ) → i < 2 → j < 2 → signed i j +ℤ pos 1000000 ≡ pos (book_of_rebates.cost i j)
    cell zero zero h g = refl
    cell zero (suc zero) h g = refl
    cell (suc zero) zero h g = refl
    cell (suc zero) (suc zero) h g = refl
    cell (suc (suc i)) j h g = absurd (omega arith)
    cell zero (suc (suc j)) h g = absurd (omega arith)
    cell (suc zero) (suc (suc j)) h g = absurd (omega arith)

-- the finder gives F1's order, and by it, with F1's amounts, the signed cost is -10 - 9 + 5
rebates_found : find book_of_rebates ≡ some order₁
unfolding every first take_from sum
rebates_found = refl

rebates_cost : signed_cost book_of_rebates signed given₁ ≡ negsuc 13
unfolding give_all sumℤ
rebates_cost = refl

-- so -14 is the least signed cost of these amounts
rebates_least : (x : ℕ → ℕ → ℕ) → Meets book_of_rebates (listed (5 ∷ 4 ∷ [])) (listed (3 ∷ 6 ∷ [])) x
    → negsuc 13 ≤ℤ signed_cost book_of_rebates signed x
rebates_least x h =
    let (order, monge) = finder_sound book_of_rebates order₁ rebates_found in
    let by_signs = (signed_monge_iff rebates_lifts order₁).1 monge in
    let (_, least) = signed_cheapest rebates_lifts order by_signs (listed (5 ∷ 4 ∷ [])) (listed (3 ∷ 6 ∷ [])) x h in
    subst (λ (z : ℤ). z ≤ℤ signed_cost book_of_rebates signed x) rebates_cost least
