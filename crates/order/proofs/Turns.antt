-- One turn of the walk that notes places: what `meet` answers is the specification's answer to the pair at the place, and the array
-- afterwards holds the places up to and with it.
use mathlib.Core.Path.{◌≡◌, refl}
use mathlib.Core.Logic.{by_cases}
use mathlib.Core.Bool.{not}
use mathlib.Core.List.{List, [], ◌∷◌}
use Prim.Native.Nat.{ℕ, suc, ◌+◌, ◌*◌, ◌≤◌, ◌<◌}
use native.Mathlib.Numerals.{add-one}
use native.Mathlib.Omega.{arith}
use lib.Dec.{T, ltb}
use lib.ListN.{set}
use Rattle.transport.specs.Problem.{Problem, Eligible}
use Rattle.transport.proofs.Laws.Tests.{T?, T_false}
use Rattle.specification.specs.Reply.{Reply, gives, refuses, refuse_if, ◌>>=◌}
use Rattle.specification.specs.Check.{check_pairs}
use Rattle.book.specs.Table.{entry}
use Rattle.walk.specs.Places.{order_pair, rest}
use Rattle.walk.proofs.Placing.{rest_more}
use Rattle.order.specs.Noted.{passed, met_at, Shows}
use Rattle.order.specs.Answers.{one_pair}
use Rattle.order.proofs.Arrays.{shows_set}
use Rattle.order.proofs.Noting.{met_passed}

-- replies one after another
then_assoc : {A : Type 0} (a b : Reply (Unit {0})) (c : Reply A) → (a >>= λ _. (b >>= λ _. c)) ≡ ((a >>= λ _. b) >>= λ _. c)
then_assoc (gives u) b c = refl
then_assoc (refuses k vs) b c = refl

module _ (P : Problem) (inside : (i j : ℕ) → T (P.admits i j) → Eligible P i j) (few_lots : P.lots ≤ 32) (few_calls : P.calls ≤ 32)
    (order : List ℕ) (count : ℕ) where
  pairs_step : (p : ℕ) → p < count → check_pairs P (passed order p) p (rest order count p)
      ≡ (one_pair P (order_pair order p).lot (order_pair order p).call (ltb 0 (met_at order p (order_pair order p).lot (order_pair order p).call)) p
      >>= λ _. check_pairs P (passed order (p + 1)) (p + 1) (rest order count (p + 1)))
  unfolding check_pairs passed
  pairs_step p h =
      let q = order_pair order p in
      rw (rest_more order count p h, check_pairs, add-one p, met_passed order p)
      (then_assoc
      (refuse_if (not (P.admits q.lot q.call)) 9 (p ∷ []))
      (refuse_if (ltb 0 (met_at order p q.lot q.call)) 10 (p ∷ []))
      (check_pairs P (q ∷ passed order p) (suc p) (rest order count (suc p))))

  -- only of an eligible pair is it asked whether it was met
  by_array : (p i j : ℕ) (places : List ℕ) → Shows 32 32 places (met_at order p)
      → one_pair P i j (ltb 0 (entry places i j)) p ≡ one_pair P i j (ltb 0 (met_at order p i j)) p
  by_array p i j places s = by_cases (T? (P.admits i j))
      (λ t. let h = inside i j t in rw (s.at i j (omega (arith, h.0)) (omega (arith, h.1))))
      (λ t. rw (T_false (P.admits i j) t))

  module _ (p i j : ℕ) (lot_is : i ≡ (order_pair order p).lot) (call_is : j ≡ (order_pair order p).call) (h : p < count)
      (places : List ℕ) (shows : Shows 32 32 places (met_at order p)) where
    pub turn_says : (said : Reply (Unit {0})) → said ≡ one_pair P i j (ltb 0 (entry places i j)) p
        → check_pairs P (passed order p) p (rest order count p)
        ≡ (said >>= λ _. check_pairs P (passed order (p + 1)) (p + 1) (rest order count (p + 1)))
    turn_says said is = rw (pairs_step p h, is, by_array p i j places shows, lot_is, call_is)

    pub turn_shows : (later : List ℕ) → Eligible P i j → later ≡ set places (32 * i + j) (p + 1) → Shows 32 32 later (met_at order (p + 1))
    unfolding met_at
    turn_shows later own noted =
        rw (noted, add-one p, met_at, lot_is, call_is)
        (shows_set (omega arith) (omega arith) shows (order_pair order p) (suc p) (omega (arith, own.0)) (omega (arith, own.1)))
