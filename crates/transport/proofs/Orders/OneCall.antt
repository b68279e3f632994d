-- A problem with one call for which every lot is eligible has an order, its lots in turn, and every order of it is a Monge sequence: two pairs
-- of one call have nothing to exchange. Such is the enlarged book of a desk without calls (document 02, requests 2 and 5).
use mathlib.Core.Path.{◌≡◌, refl, ◌∙◌}
use mathlib.Core.Logic.{by_cases}
use mathlib.Core.List.{List, [], ◌∷◌}
use Prim.Native.Nat.{ℕ, zero, suc, ◌<◌}
use native.Mathlib.Decide.{ℕ_discrete}
use native.Mathlib.Omega.{arith}
use lib.Dec.{T}
use Rattle.transport.specs.Problem.{Problem}
use Rattle.transport.specs.Greedy.{Pair, pair}
use Rattle.transport.specs.Order.{times, OrderOf, Monge}
use Rattle.transport.proofs.Laws.Tests.{same→eq}
use Rattle.transport.proofs.Orders.Places.{times_other, times_head}

-- the pairs of call 0 with the lots below n
unfoldable column : ℕ → List Pair
column zero = []
column (suc n) = pair n 0 ∷ column n

-- (i, j) stands there only if i is below n and j is 0, and then once
not_in_column : (n i j : ℕ) → ((i < n) × (j ≡ 0) → ⊥) → times i j (column n) ≡ 0
unfolding column times
not_in_column zero i j out = refl
not_in_column (suc n) i j out =
    times_other i j (pair n 0) (column n) (λ t. let (lot, call) = same→eq i j (pair n 0) t in out (omega arith, call))
    ∙ not_in_column n i j (λ (h, e). out (omega arith, e))

in_column : (n i : ℕ) → i < n → times i 0 (column n) ≡ 1
unfolding column
in_column zero i h = absurd (omega arith)
in_column (suc n) i h = by_cases (ℕ_discrete i n)
    (λ e. rw e (omega (arith, times_head (pair n 0) (column n), not_in_column n n 0 (λ (l, z). omega arith))))
    (λ other. times_other i 0 (pair n 0) (column n) (λ t. other (same→eq i 0 (pair n 0) t).0) ∙ in_column n i (omega arith))

module _ (P : Problem) (one_call : P.calls ≡ 1) where
  monge : (S : List Pair) → Monge P S
  monge S = record {
    one = λ i k j l own by_lot by_call none before.
        let same : l ≡ j = omega (arith, own.1, by_lot.1) in none (rw same by_call);
    two = λ i k j l own by_lot by_call fourth before_lot before_call.
        let same : l ≡ j = omega (arith, own.1, by_lot.1) in rw same (omega arith);
  }

  pub one_call_order : ((i : ℕ) → i < P.lots → T (P.admits i 0)) → (S : List Pair) × OrderOf P S × Monge P S
  one_call_order every_lot = (
    column P.lots,
    record {
      once = λ i j (hi, hj, t). let first : j ≡ 0 = omega arith in rw first (in_column P.lots i hi);
      nothing_else = λ i j never. not_in_column P.lots i j (λ (h, e). never (h, omega arith, rw e (every_lot i h)));
    },
    monge (column P.lots),
  )
