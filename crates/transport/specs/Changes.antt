-- Lots that arrive during the day (document 02, request 8): one lot or call takes a new amount, and the flow is brought up to date.
-- The order S, the amounts a b and the flow so far x are any.
use Rattle.std.specs.Prelude.{Bool, cond, ◌&&◌, List, [], ◌∷◌, ℕ, ◌+◌, ◌-◌, eqb, leb}
use Rattle.transport.specs.Problem.{Problem}
use Rattle.transport.specs.Greedy.{Pair, State, give_all}
use Rattle.transport.specs.Order.{times}
use Rattle.transport.specs.Finder.{every}

-- a pair of lot i, and a pair of call j
abbrev pub is_of_lot : ℕ → Pair → Bool
is_of_lot i p = eqb i p.lot

abbrev pub is_of_call : ℕ → Pair → Bool
is_of_call j p = eqb j p.call

-- "one lot or call takes a new amount"
pub data Change : Type 0 where
  lot_takes : ℕ → ℕ → Change
  call_takes : ℕ → ℕ → Change

-- a pair "of that lot or call"
abbrev pub concerns : Change → Pair → Bool
concerns (lot_takes i v) = is_of_lot i
concerns (call_takes j v) = is_of_call j

-- the "pairs that precede, in the order, the first pair of that lot or call (if it has none, that is every pair)"
unfoldable pub earlier : (Pair → Bool) → List Pair → List Pair
earlier test [] = []
earlier test (p ∷ S) = cond (test p) [] (p ∷ earlier test S)

-- the "pairs from that first one on"
unfoldable pub onward : (Pair → Bool) → List Pair → List Pair
onward test [] = []
onward test (p ∷ S) = cond (test p) (p ∷ S) (onward test S)

-- what the entries of the listed pairs that pass the test sum to
unfoldable pub entry_sum : (Pair → Bool) → (ℕ → ℕ → ℕ) → List Pair → ℕ
entry_sum test x [] = 0
entry_sum test x (p ∷ S) = cond (test p) (x p.lot p.call) 0 + entry_sum test x S

-- 22 is for earlier pairs of which this fails: their entries "sum, for some lot or call, to more than its amount"
abbrev pub entries_fit : Problem → (ℕ → ℕ) → (ℕ → ℕ) → (ℕ → ℕ → ℕ) → List Pair → Bool
entries_fit P a b x S =
    every P.lots (λ i. leb (entry_sum (is_of_lot i) x S) (a i)) && every P.calls (λ j. leb (entry_sum (is_of_call j) x S) (b j))

-- the entries of the listed pairs, and 0 for every other pair
abbrev pub entries : (ℕ → ℕ → ℕ) → List Pair → ℕ → ℕ → ℕ
entries x S i j = cond (eqb (times i j S) 0) 0 (x i j)

-- "what the earlier entries leave of the amounts", with these entries given
abbrev pub resumed : (ℕ → ℕ) → (ℕ → ℕ) → (ℕ → ℕ → ℕ) → List Pair → State
resumed a b x S = record {
  left = λ i. a i - entry_sum (is_of_lot i) x S;
  lacks = λ j. b j - entry_sum (is_of_call j) x S;
  given = entries x S;
}

-- the update: pairs from the first one that passes the test on "are given units as in a run"; the new amount is in place in a b, and the
-- flow that then stands is `given`
abbrev pub updated : (Pair → Bool) → List Pair → (ℕ → ℕ) → (ℕ → ℕ) → (ℕ → ℕ → ℕ) → State
updated test S a b x = give_all (resumed a b x (earlier test S)) (onward test S)
