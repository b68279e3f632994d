-- Where an order first fails. No quadruple of a pair is refused exactly where the pair is free against those that stand at it or after it
-- (`quadruples_exactly`). So the specification's check is that of the quadruples of the lowest pair that is not free (`first_failure`),
-- and passes where there is none (`nothing_fails`).
use mathlib.Core.Path.{◌≡◌, refl, sym, ◌∙◌, ap, ap₂, subst}
use mathlib.Core.Logic.{◌↔◌, by_cases}
use mathlib.Core.Bool.{Bool, true, cond, ◌&&◌}
use mathlib.Core.List.{List, ◌∷◌}
use Prim.Native.Nat.{ℕ, zero, suc, ◌+◌, ◌-◌, ◌≤◌, ◌<◌}
use native.Mathlib.Omega.{arith}
use lib.Dec.{T, ltb, ltb→lt}
use Rattle.transport.specs.Problem.{Problem, Eligible}
use Rattle.transport.specs.Greedy.{Pair, pair}
use Rattle.transport.specs.Order.{times}
use Rattle.transport.specs.Finder.{free}
use Rattle.transport.proofs.Laws.Tests.{T?, T_true, T_false, and_says}
use Rattle.transport.proofs.Orders.Lists.{Lists, lists_head, lists_tail}
use Rattle.transport.proofs.Orders.Monge.{Fits}
use Rattle.transport.proofs.Finder.Free.{free_says, free_of}
use Rattle.transport.proofs.Finder.Standing.{standing, free_iff_after}
use Rattle.specification.specs.Reply.{Reply, gives, refuses, ◌>>=◌}
use Rattle.specification.specs.Check.{both_in, check_quadruple, in_turn, check_monge}
use Rattle.specification.proofs.Crossing.{pair_holds}
use Rattle.specification.proofs.Quadruples.{quadruple_holds}
use Rattle.book.specs.Table.{entry}
use Rattle.walk.specs.Places.{order_pair, rest}
use Rattle.walk.specs.Walk.{free_at, LowestNotFree}
use Rattle.walk.proofs.Placing.{rest_more, rest_none, lists_from}
use Rattle.quadruples.specs.Scan.{quadruple_at}
use Rattle.quadruples.proofs.Scanning.{turn_gives, turn_same}
use Rattle.order.specs.Noted.{met_at, Shows}
use Rattle.order.proofs.Noting.{met_later}

-- all quadruples of the pair p, by the pairs S that stand after it
abbrev quadruples : Problem → Pair → List Pair → Reply (Unit {0})
quadruples P p S = in_turn P.lots 0 (λ k. in_turn P.calls 0 (λ l. cond (both_in S p k l) (check_quadruple P p k l) (gives tt)))

module _ (P : Problem) (inside : (i j : ℕ) → T (P.admits i j) → Eligible P i j) (p : Pair) (S : List Pair)
    (lists : Lists P (p ∷ S)) where
  abbrev FitsAfter : Type 0
  FitsAfter = (k l : ℕ) → 0 < times p.lot l S → 0 < times k p.call S → Fits P p.lot p.call k l

  given_if_fits : FitsAfter → quadruples P p S ≡ gives tt
  given_if_fits fits = turn_gives _ P.lots 0 (λ k hk. turn_gives _ P.calls 0 (λ l hl. at k l))
    where
      at : (k l : ℕ) → cond (both_in S p k l) (check_quadruple P p k l) (gives tt) ≡ gives tt
      at k l = by_cases (T? (both_in S p k l))
          (λ t. let (il, kj) = and_says (ltb 0 (times p.lot l S)) (ltb 0 (times k p.call S)) t in
          let fit = fits k l (ltb→lt 0 (times p.lot l S) il) (ltb→lt 0 (times k p.call S) kj) in
          rw (T_true (both_in S p k l) t) (sym (quadruple_holds P p k l (T_true (P.admits k l) fit.admitted) fit.no_dearer)))
          (λ t. rw (T_false (both_in S p k l) t))

  fits_if_given : quadruples P p S ≡ gives tt → FitsAfter
  fits_if_given e k l il kj =
      let stand = (lists_tail lists).eligible in
      pair_holds P inside p S e k (stand k p.call kj).0 l (stand p.lot l il).1 il kj

  quadruples_exactly : (quadruples P p S ≡ gives tt) ↔ T (free P (standing (p ∷ S)) p.lot p.call)
  quadruples_exactly =
      let (hi, hj, _) = lists_head lists in
      let (after, at_or_after) = free_iff_after P p S lists in (
        λ e. free_of P (standing (p ∷ S)) p.lot p.call hi hj (at_or_after (fits_if_given e)),
        λ t. given_if_fits (after (free_says P (standing (p ∷ S)) p.lot p.call t)),
      )

-- the places of an order in turn
module _ (P : Problem) (inside : (i j : ℕ) → T (P.admits i j) → Eligible P i j) (order : List ℕ) (count : ℕ)
    (lists : Lists P (rest order count 0)) where
  abbrev at : ℕ → Reply (Unit {0})
  at p = quadruples P (order_pair order p) (rest order count (p + 1))

  at_exactly : (p : ℕ) → p < count → (at p ≡ gives tt) ↔ T (free_at P order count p)
  at_exactly p h = rw (rest_more order count p h)
      (quadruples_exactly P inside (order_pair order p) (rest order count (p + 1)) (rw (rest_more order count p h) at
      (lists_from order count P lists p (omega arith))))

  monge_step : (p : ℕ) → p < count → check_monge P (rest order count p) ≡ (at p >>= λ _. check_monge P (rest order count (p + 1)))
  unfolding check_monge
  monge_step p h = rw (rest_more order count p h, check_monge)

  -- pairs that are free have nothing to refuse
  monge_from : (p left r : ℕ) → left + p ≡ r → r ≤ count → ((q : ℕ) → p ≤ q → q < r → free_at P order count q ≡ true)
      → check_monge P (rest order count p) ≡ check_monge P (rest order count r)
  monge_from p zero r e within all = let q : p ≡ r = omega arith in rw q
  monge_from p (suc left) r e within all =
      rw (monge_step p (omega arith), (at_exactly p (omega arith)).1 (rw (all p (omega arith) (omega arith)) tt))
      (monge_from (p + 1) left r (omega arith) within (λ q low high. all q (omega arith) high))

  module _ (r : ℕ) (lowest : LowestNotFree P order count 0 r) where
    to_lowest : check_monge P (rest order count 0) ≡ check_monge P (rest order count r)
    to_lowest = monge_from 0 r r (omega arith) lowest.within lowest.free_before

    pub nothing_fails : r ≡ count → check_monge P (rest order count 0) ≡ gives tt
    unfolding check_monge
    nothing_fails e = to_lowest ∙ rw (e, rest_none order count)

    pub first_failure : r < count → (found : Reply (Unit {0})) → found ≡ at r → found ≡ check_monge P (rest order count 0)
    first_failure h found says = sym (to_lowest ∙ monge_step r h ∙ ap (λ (a : Reply (Unit {0})). a >>= λ _.
        check_monge P (rest order count (r + 1))) (sym says) ∙ ends found says)
      where
        ends : (s : Reply (Unit {0})) → s ≡ at r → (s >>= λ _. check_monge P (rest order count (r + 1))) ≡ s
        ends (gives u) given = absurd (subst T (lowest.not_free h) ((at_exactly r h).0 (sym given)))
        ends (refuses k vs) given = refl

-- the quadruples of the pair at a place, by the array of places
module _ (P : Problem) (places order : List ℕ) (count : ℕ) (few_lots : P.lots ≤ 32) (few_calls : P.calls ≤ 32)
    (shows : Shows 32 32 places (met_at order count)) (p : ℕ) (h : p < count)
    (lot_in : (order_pair order p).lot < P.lots) (call_in : (order_pair order p).call < P.calls) where
  after_is : (i j : ℕ) → i < P.lots → j < P.calls → ltb (p + 1) (entry places i j) ≡ standing (rest order count (p + 1)) i j
  after_is i j hi hj =
      ap (ltb (p + 1)) (shows.at i j (omega arith) (omega arith))
      ∙ sym (met_later order count (count - (p + 1)) (p + 1) i j (omega arith))

  pub quadruples_by_array : (i j : ℕ) → i ≡ (order_pair order p).lot → j ≡ (order_pair order p).call
      → in_turn P.lots 0 (λ k. in_turn P.calls 0 (quadruple_at P places p (pair i j) k))
      ≡ quadruples P (order_pair order p) (rest order count (p + 1))
  quadruples_by_array i j lot_is call_is = rw (lot_is, call_is) (turn_same _ _ P.lots 0 (λ k hk. turn_same _ _ P.calls 0 (λ l hl.
      ap₂ (λ (a b : Bool). cond (a && b) (check_quadruple P (order_pair order p) k l) (gives tt))
      (after_is (order_pair order p).lot l lot_in (omega arith))
      (after_is k (order_pair order p).call (omega arith) call_in))))
