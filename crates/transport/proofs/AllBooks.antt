-- Books worked out from the definitions alone: the finder's order, GREEDY by it, and orders that are no Monge sequences. Files are checked by
-- their names, so a changed definition is refused here, by a number, before any proof about it is looked at.
use mathlib.Core.Path.{◌≡◌, refl}
use mathlib.Core.Bool.{true, not, ◌&&◌}
use mathlib.Core.List.{List, [], ◌∷◌}
use mathlib.Core.Option.{some, none}
use Prim.Native.Nat.{ℕ}
use native.Mathlib.Omega.{arith}
use lib.Dec.{eqb, lit<}
use lib.ListN.{get_or}
use Rattle.transport.specs.Problem.{sum, Problem, units, total_cost}
use Rattle.transport.specs.Greedy.{Pair, pair, State, give_all, greedy}
use Rattle.transport.specs.Order.{times, Monge}
use Rattle.transport.specs.Finder.{every, first, take_from, find}
use Rattle.transport.specs.Idle.{with_idle, greedy_idle}

-- the amounts that a list writes out
abbrev pub listed : List ℕ → ℕ → ℕ
listed vs n = get_or vs n 0

-- F1: every pair is eligible, and the costs are 1 2 / 3 5
abbrev pub book₁ : Problem
book₁ = record {
  lots = 2;
  calls = 2;
  admits = λ i j. true;
  cost = λ i. listed (get_or ((1 ∷ 2 ∷ []) ∷ (3 ∷ 5 ∷ []) ∷ []) i []);
}

abbrev pub order₁ : List Pair
order₁ = pair 0 1 ∷ pair 0 0 ∷ pair 1 0 ∷ pair 1 1 ∷ []

-- by it, with the amounts 5 4 of the lots and 3 6 of the calls
abbrev pub given₁ : ℕ → ℕ → ℕ
given₁ = (greedy order₁ (listed (5 ∷ 4 ∷ [])) (listed (3 ∷ 6 ∷ []))).given

pub book₁_found : find book₁ ≡ some order₁
unfolding every first take_from sum
book₁_found = refl

book₁_given : (given₁ 0 0 ≡ 0) × (given₁ 0 1 ≡ 5) × (given₁ 1 0 ≡ 3) × (given₁ 1 1 ≡ 1)
unfolding give_all
book₁_given = (refl, refl, refl, refl)

pub book₁_totals : (units book₁ given₁ ≡ 9) × (total_cost book₁ given₁ ≡ 24)
unfolding give_all sum
book₁_totals = (refl, refl)

-- F2: its pairs row by row are no Monge sequence, since (0, 0) and (1, 1) cost 6, and (0, 1) and (1, 0) cost 5
book₁_by_rows : Monge book₁ (pair 0 0 ∷ pair 0 1 ∷ pair 1 0 ∷ pair 1 1 ∷ []) → ⊥
unfolding times
book₁_by_rows monge =
    let rest : List Pair = pair 0 1 ∷ pair 1 0 ∷ pair 1 1 ∷ [] in
    omega (
      arith,
      monge.two 0 1 0 1 (lit< tt, lit< tt, tt) (lit< tt, lit< tt, tt) (lit< tt, lit< tt, tt) (lit< tt, lit< tt, tt)
          ([], rest, refl, lit< tt)
          ([], rest, refl, lit< tt),
    )

-- F7: (1, 1) is not eligible, and the costs are 0
abbrev pub book₇ : Problem
book₇ = record { lots = 2; calls = 2; admits = λ i j. not (eqb i 1 && eqb j 1); cost = λ i j. 0 }

abbrev pub order₇ : List Pair
order₇ = pair 0 1 ∷ pair 0 0 ∷ pair 1 0 ∷ []

-- by it, with every amount 1: everything is met
abbrev pub given₇ : ℕ → ℕ → ℕ
given₇ = (greedy order₇ (λ i. 1) (λ j. 1)).given

pub book₇_found : find book₇ ≡ some order₇
unfolding every first take_from sum
book₇_found = refl

book₇_totals : (units book₇ given₇ ≡ 2) × (total_cost book₇ given₇ ≡ 0)
unfolding give_all sum
book₇_totals = (refl, refl)

-- F6: its pairs row by row are no Monge sequence, since (0, 0) precedes (0, 1) and (1, 0), and (1, 1) is not eligible
book₇_by_rows : Monge book₇ (pair 0 0 ∷ pair 0 1 ∷ pair 1 0 ∷ []) → ⊥
unfolding times
book₇_by_rows monge =
    let rest : List Pair = pair 0 1 ∷ pair 1 0 ∷ [] in
    monge.one 0 1 0 1 (lit< tt, lit< tt, tt) (lit< tt, lit< tt, tt) (lit< tt, lit< tt, tt) (λ e. e.2)
    (([], rest, refl, lit< tt), ([], rest, refl, lit< tt))

-- F9: 3 by 3, all but the diagonal is eligible, and the costs are 0: the finder has no order
abbrev pub book₉ : Problem
book₉ = record { lots = 3; calls = 3; admits = λ i j. not (eqb i j); cost = λ i j. 0 }

pub book₉_none : find book₉ ≡ none
unfolding every first take_from sum
book₉_none = refl

-- Request 2, stock to spare: the costs are 3 5 / 1 2, the lots have 3 and 4 units and the calls want 3 and 2, so that 2 units stay idle
abbrev pub spare : Problem
spare = record {
  lots = 2;
  calls = 2;
  admits = λ i j. true;
  cost = λ i. listed (get_or ((3 ∷ 5 ∷ []) ∷ (1 ∷ 2 ∷ []) ∷ []) i []);
}

-- GREEDY by the order of the book, and by that of the enlarged book
abbrev plain : State
plain = greedy (pair 0 0 ∷ pair 0 1 ∷ pair 1 0 ∷ pair 1 1 ∷ []) (listed (3 ∷ 4 ∷ [])) (listed (3 ∷ 2 ∷ []))

abbrev pub spare_order : List Pair
spare_order = pair 0 2 ∷ pair 0 0 ∷ pair 0 1 ∷ pair 1 0 ∷ pair 1 1 ∷ pair 1 2 ∷ []

abbrev idle : State
idle = greedy_idle spare spare_order (listed (3 ∷ 4 ∷ [])) (listed (3 ∷ 2 ∷ []))

pub spare_found : (find spare ≡ some (pair 0 0 ∷ pair 0 1 ∷ pair 1 0 ∷ pair 1 1 ∷ [])) × (find (with_idle 0 spare) ≡ some spare_order)
unfolding every first take_from sum
spare_found = (refl, refl)

-- both meet every call; the one leaves 2 units of lot 1 and costs 13, the other leaves 2 units of lot 0 and costs 9
pub spare_runs : (plain.left 0 ≡ 0) × (plain.left 1 ≡ 2) × (total_cost spare plain.given ≡ 13)
    × (idle.left 0 ≡ 2) × (idle.left 1 ≡ 0) × (total_cost spare idle.given ≡ 9)
    × (idle.lacks 0 ≡ 0) × (idle.lacks 1 ≡ 0)
    × (idle.given 0 0 ≡ 1) × (idle.given 0 1 ≡ 0) × (idle.given 0 2 ≡ 0)
    × (idle.given 1 0 ≡ 2) × (idle.given 1 1 ≡ 2) × (idle.given 1 2 ≡ 0)
unfolding give_all sum
spare_runs = (refl, refl, refl, refl, refl, refl, refl, refl, refl, refl, refl, refl, refl, refl)
