-- A list of pairs split at the first pair that passes a test: the earlier pairs, none of which passes, and those from that one on.
-- Then the entries of a list's pairs, and what they sum to: pair by pair along the list, or over the calls of a lot or the lots of a call.
use mathlib.Core.Path.{◌≡◌, refl, ap, ap₂, fun_ext}
use mathlib.Core.Logic.{by_cases}
use mathlib.Core.Bool.{Bool, true, false, cond}
use mathlib.Core.List.{List, [], ◌∷◌, ◌++◌}
use Prim.Native.Nat.{ℕ, ◌+◌, ◌<◌}
use native.Mathlib.Omega.{arith}
use lib.Dec.{T, eqb}
use Rattle.transport.specs.Problem.{Problem, Eligible, lot_sum, call_sum}
use Rattle.transport.specs.Greedy.{Pair, pair}
use Rattle.transport.specs.Order.{times}
use Rattle.transport.specs.Changes.{is_of_lot, is_of_call, earlier, onward, entry_sum, entries}
use Rattle.transport.proofs.Laws.Tests.{T?, T_true, T_false, same, same→eq, eqb_false}
use Rattle.transport.proofs.Laws.Sums.{sum_zeros}
use Rattle.transport.proofs.Laws.Units.{more, lot_sum_more, call_sum_more}
use Rattle.transport.proofs.Orders.Places.{times_same, times_other, times_tail_le, times_head}
use Rattle.transport.proofs.Orders.Lists.{Lists, lists_head, lists_tail}

-- no pair of the list passes the test
abbrev pub Fails : (Pair → Bool) → List Pair → Type 0
Fails test S = (i j : ℕ) → 0 < times i j S → T (test (pair i j)) → ⊥

-- the list begins with a pair that passes it, or is of none
abbrev pub Starts : (Pair → Bool) → List Pair → Type 0
Starts test [] = Unit {0}
Starts test (p ∷ S) = T (test p)

module _ (test : Pair → Bool) where
  pub split : (S : List Pair) → S ≡ earlier test S ++ onward test S
  unfolding earlier onward
  split [] = refl
  split (p ∷ S) = go (test p) (split S)
    where
      go : (b : Bool) → S ≡ earlier test S ++ onward test S → p ∷ S ≡ cond b [] (p ∷ earlier test S) ++ cond b (p ∷ S) (onward test S)
      go true e = refl
      go false e = ap (λ R. p ∷ R) e

  pub earlier_fails : (S : List Pair) → Fails test (earlier test S)
  unfolding earlier times
  earlier_fails [] i j h = absurd (omega arith)
  earlier_fails (p ∷ S) i j h = go (test p) refl (earlier_fails S i j) h
    where
      go : (b : Bool) → test p ≡ b → (0 < times i j (earlier test S) → T (test (pair i j)) → ⊥)
          → 0 < times i j (cond b [] (p ∷ earlier test S)) → T (test (pair i j)) → ⊥
      go true e rest h t = omega arith
      go false e rest h t = by_cases (T? (same i j p))
          (λ s. let (q, r) = same→eq i j p s in rw e at (rw (q, r) at t))
          (λ s. rest (omega (arith, times_other i j p (earlier test S) s)) t)

  -- as a loop finds it: the list is cut there
  pub split_at : (R S : List Pair) → Fails test R → Starts test S → (earlier test (R ++ S) ≡ R) × (onward test (R ++ S) ≡ S)
  unfolding earlier onward
  split_at [] [] fails starts = (refl, refl)
  split_at [] (p ∷ S) fails starts = let it = T_true (test p) starts in (rw it, rw it)
  split_at (p ∷ R) S fails starts =
      let (before, after) = split_at R S (λ i j h. fails i j (omega (arith, times_tail_le i j p R))) starts in
      let not_p = T_false (test p) (fails p.lot p.call (omega (arith, times_head p R))) in
      (rw not_p (ap (λ Q. p ∷ Q) before), rw not_p after)

  -- sums of entries: of a list joined of two, of one pair more as a loop goes, and of flows that agree at its pairs
  pub entry_sum_append : (x : ℕ → ℕ → ℕ) (S R : List Pair) → entry_sum test x (S ++ R) ≡ entry_sum test x S + entry_sum test x R
  unfolding entry_sum
  entry_sum_append x [] R = omega arith
  entry_sum_append x (p ∷ S) R = omega (arith, entry_sum_append x S R)

  pub entry_sum_more : (x : ℕ → ℕ → ℕ) (S : List Pair) (p : Pair)
      → entry_sum test x S + cond (test p) (x p.lot p.call) 0 ≡ entry_sum test x (S ++ (p ∷ []))
  unfolding entry_sum
  entry_sum_more x S p = omega (arith, entry_sum_append x S (p ∷ []))

  pub entry_sum_same : (x y : ℕ → ℕ → ℕ) (S : List Pair) → ((i j : ℕ) → 0 < times i j S → x i j ≡ y i j)
      → entry_sum test x S ≡ entry_sum test y S
  unfolding entry_sum
  entry_sum_same x y [] h = refl
  entry_sum_same x y (p ∷ S) h = ap₂ ◌+◌
      (ap (λ u. cond (test p) u 0) (h p.lot p.call (omega (arith, times_head p S))))
      (entry_sum_same x y S (λ i j l. h i j (omega (arith, times_tail_le i j p S))))

-- the entries of a list's pairs: those of the list, and 0 of any other
module _ (x : ℕ → ℕ → ℕ) (S : List Pair) (i j : ℕ) where
  pub entries_in : 0 < times i j S → entries x S i j ≡ x i j
  entries_in h = rw (eqb_false (times i j S) 0 (λ e. omega arith))

  pub entries_out : times i j S ≡ 0 → entries x S i j ≡ 0
  entries_out e = rw e

-- of a list that holds each pair at most once, one pair more in front is its entry more
entries_cons : {P : Problem} (x : ℕ → ℕ → ℕ) {p : Pair} {S : List Pair} → Lists P (p ∷ S)
    → entries x (p ∷ S) ≡ more (entries x S) p.lot p.call (x p.lot p.call)
unfolding more
entries_cons x {p} {S} lists = fun_ext (λ i. fun_ext (λ j. go i j (same i j p) refl))
  where
    go : (i j : ℕ) (b : Bool) → same i j p ≡ b → entries x (p ∷ S) i j ≡ entries x S i j + cond b (x p.lot p.call) 0
    go i j true e =
        let it : T (same i j p) = rw e tt in
        let (q, r) = same→eq i j p it in
        omega (
          arith,
          entries_in x (p ∷ S) i j (omega (arith, times_same i j p S it)),
          entries_out x S i j (omega (arith, lists.once i j, times_same i j p S it)),
          ap₂ x q r,
        )
    go i j false e = omega (arith, ap (λ n. cond (eqb n 0) 0 (x i j)) (times_other i j p S (λ t. rw e at t)))

-- so they sum alike over the list and over all pairs, for any sum of units that counts those of the pairs that pass the test
module _ {P : Problem} (x : ℕ → ℕ → ℕ) (total : (ℕ → ℕ → ℕ) → ℕ) (test : Pair → Bool) (of_none : total (λ i j. 0) ≡ 0)
    (of_more : (y : ℕ → ℕ → ℕ) (p : Pair) (v : ℕ) → Eligible P p.lot p.call
    → total (more y p.lot p.call v) ≡ total y + cond (test p) v 0) where
  total_entries : (S : List Pair) → Lists P S → total (entries x S) ≡ entry_sum test x S
  unfolding entry_sum times
  total_entries [] lists = of_none
  total_entries (p ∷ S) lists = omega (
    arith,
    ap total (entries_cons x lists),
    of_more (entries x S) p (x p.lot p.call) (lists_head lists),
    total_entries S (lists_tail lists),
  )

module _ {P : Problem} (x : ℕ → ℕ → ℕ) {S : List Pair} (lists : Lists P S) where
  pub lot_sum_entries : (i : ℕ) → lot_sum P (entries x S) i ≡ entry_sum (is_of_lot i) x S
  lot_sum_entries i = total_entries x (λ y. lot_sum P y i) (is_of_lot i) (sum_zeros P.calls)
      (λ y p v e. lot_sum_more P y p.lot p.call v e.1 i) S lists

  pub call_sum_entries : (j : ℕ) → call_sum P (entries x S) j ≡ entry_sum (is_of_call j) x S
  call_sum_entries j = total_entries x (λ y. call_sum P y j) (is_of_call j) (sum_zeros P.lots)
      (λ y p v e. call_sum_more P y p.lot p.call v e.0 j) S lists
