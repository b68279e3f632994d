-- F8 is Covered (document 02, request 1): no call lacks anything, and lot 0 has a unit left.
use mathlib.Core.Path.{◌≡◌, refl}
use mathlib.Core.List.{[], ◌∷◌}
use Prim.Native.Nat.{zero, suc}
use native.Mathlib.Omega.{arith}
use Rattle.transport.specs.Problem.{sum, units, total_cost}
use Rattle.transport.specs.Greedy.{State, give_all, greedy}
use Rattle.transport.proofs.Greedy.Given.{NoneLacks}
use Rattle.transport.proofs.AllBooks.{listed, book₇, order₇}

-- F7's order, with the amounts 2 0 of the lots and 1 0 of the calls
abbrev run₈ : State
run₈ = greedy order₇ (listed (2 ∷ 0 ∷ [])) (listed (1 ∷ 0 ∷ []))

book₈_covered : NoneLacks book₇ run₈
unfolding give_all
book₈_covered zero h = refl
book₈_covered (suc zero) h = refl
book₈_covered (suc (suc j)) h = absurd (omega arith)

book₈_left : (run₈.left 0 ≡ 1) × (run₈.left 1 ≡ 0) × (units book₇ run₈.given ≡ 1) × (total_cost book₇ run₈.given ≡ 0)
unfolding give_all sum
book₈_left = (refl, refl, refl, refl)
