-- Checking an order is refused exactly by its causes, by the first that applies.
use mathlib.Core.Path.{◌≡◌, refl, sym, ◌∙◌, ap, ap₂}
use mathlib.Core.Logic.{⊎_elim, by_cases, ◌↔◌}
use mathlib.Core.Bool.{Bool, true, false, cond, not}
use mathlib.Core.List.{List, [], ◌∷◌, ◌++◌}
use Prim.Native.Nat.{ℕ, suc, ◌+◌, ◌*◌, ◌<◌}
use native.Mathlib.Omega.{arith}
use lib.Dec.{T, ltb, ltb→lt, nltb→le, not_T}
use lib.ListN.{length, drop, take, length-append}
use lib.Seq.{append_snoc, split_at, get_or_at, take-append_seam, drop-append-add}
use Rattle.transport.specs.Problem.{Problem, Eligible}
use Rattle.transport.specs.Greedy.{Pair, pair}
use Rattle.transport.specs.Order.{times}
use Rattle.transport.specs.Signed.{SignedFit, Lifts}
use Rattle.transport.proofs.Laws.Tests.{T?}
use Rattle.transport.proofs.Orders.Places.{times_append, times_head, times_tail_le}
use Rattle.transport.proofs.Orders.Lists.{Lists}
use Rattle.transport.proofs.Greedy.Signed.{signed_sum_le}
use Rattle.specification.specs.Reply.{Reply, gives, refuses, ◌>>=◌, refuse_if}
use Rattle.specification.specs.Book.{problem_of, costs_of}
use Rattle.specification.specs.OrderFile.{order_count, order_pairs}
use Rattle.specification.specs.Check.{check_pairs, complete, both_in, check_quadruple, in_turn, check_monge, check_order}
use Rattle.specification.specs.Refused.{pair_at, pair_causes, cross_causes, order_causes}
use Rattle.specification.proofs.Books.{admitted_inside, book_read, book_lifts}
use Rattle.specification.proofs.Holding.{holding_exactly, Missing, missing_if_incomplete, complete_exactly, times_snoc}
use Rattle.specification.proofs.Causes.{Exactly, given_none, exactly_nothing, exactly_if, exactly_then, exactly_gives, exactly_turns}
use Rattle.specification.proofs.Refused.{lt_iff, and_iff, not_iff, exactly_opening, exactly_book}

-- the walk over the pairs, and that over the quadruples, place by place
module _ (P : Problem) where
  -- a pair that is met behind this many of its own
  abbrev pair_test : ℕ → Pair → ℕ → Reply (Unit {0})
  pair_test place p met =
      refuse_if (not (P.admits p.lot p.call)) 9 (place ∷ []) >>= λ _. refuse_if (ltb 0 met) 10 (place ∷ [])

  -- the quadruples of a pair with those that stand after it
  abbrev cross_test : List Pair → Pair → ℕ → ℕ → Reply (Unit {0})
  cross_test after p k l = cond (both_in after p k l) (check_quadruple P p k l) (gives tt)

  abbrev cross_tests : List Pair → Pair → Reply (Unit {0})
  cross_tests after p = in_turn P.lots 0 (λ k. in_turn P.calls 0 (cross_test after p k))

  same_test : (place : ℕ) (p q : Pair) (before front : List Pair) → q ≡ p → ((i j : ℕ) → times i j before ≡ times i j front)
      → pair_test place p (times p.lot p.call before) ≡ pair_test place q (times q.lot q.call front)
  same_test place p q before front e same = rw (e, same p.lot p.call) refl

nested : (a b r : Reply (Unit {0})) → (a >>= λ _. b >>= λ _. r) ≡ ((a >>= λ _. b) >>= λ _. r)
nested (gives u) b r = refl
nested (refuses k vs) b r = refl

module _ (P : Problem) (S : List Pair) where
  abbrev pair_step : ℕ → Reply (Unit {0})
  pair_step place = pair_test P place (pair_at S place) (times (pair_at S place).lot (pair_at S place).call (take place S))

  abbrev cross_step : ℕ → Reply (Unit {0})
  cross_step place = cross_tests P (drop (suc place) S) (pair_at S place)

  -- what stands at a place, before it and after it
  module _ (front back : List Pair) (p : Pair) (split : S ≡ front ++ (p ∷ back)) where
    at_place : pair_at S (length front) ≡ p
    at_place = rw split (get_or_at front p back (pair 0 0) (length front) refl)

    before_place : take (length front) S ≡ front
    before_place = rw split (take-append_seam front (p ∷ back))

    after_place : drop (suc (length front)) S ≡ back
    after_place = let e : suc (length front) ≡ length front + 1 = omega arith in rw (split, e) (drop-append-add front (p ∷ back) 1)

    next_split : S ≡ (front ++ (p ∷ [])) ++ back
    next_split = split ∙ sym (append_snoc front p back)

    next_place : length (front ++ (p ∷ [])) ≡ suc (length front)
    next_place = omega (arith, length-append front (p ∷ []))

  pairs_turns : (back before front : List Pair) → S ≡ front ++ back → ((i j : ℕ) → times i j before ≡ times i j front)
      → check_pairs P before (length front) back ≡ in_turn (length back) (length front) pair_step
  unfolding check_pairs in_turn
  pairs_turns [] before front split same = refl
  pairs_turns (p ∷ back) before front split same =
      let same' : (i j : ℕ) → times i j (p ∷ before) ≡ times i j (front ++ (p ∷ [])) =
      λ i j. unfold times in omega (arith, same i j, times_snoc i j front p) in
      let tail = pairs_turns back (p ∷ before) (front ++ (p ∷ [])) (next_split front back p split) same' in
      let rest = rw (next_place front back p split) at tail in
      let here = same_test P (length front) p (pair_at S (length front)) before (take (length front) S)
      (at_place front back p split) (λ i j. same i j ∙ ap (times i j) (sym (before_place front back p split))) in
      let (place, met) : ℕ × ℕ = (length front, times p.lot p.call before) in
      nested (refuse_if (not (P.admits p.lot p.call)) 9 (place ∷ [])) (refuse_if (ltb 0 met) 10 (place ∷ [])) _
      ∙ ap₂ (λ (a b : Reply (Unit {0})). a >>= λ _. b) here rest

  monge_turns : (back front : List Pair) → S ≡ front ++ back → check_monge P back ≡ in_turn (length back) (length front) cross_step
  unfolding check_monge in_turn
  monge_turns [] front split = refl
  monge_turns (p ∷ back) front split =
      let rest = rw (next_place front back p split) at (monge_turns back (front ++ (p ∷ [])) (next_split front back p split)) in
      let here = sym (ap₂ (cross_tests P) (after_place front back p split) (at_place front back p split)) in
      ap₂ (λ (a b : Reply (Unit {0})). a >>= λ _. b) here rest

-- each of these tests
module _ (book : List ℕ) (S : List Pair) where
  abbrev P : Problem
  P = problem_of book

  eligible_iff : (i j : ℕ) → T (P.admits i j) ↔ Eligible P i j
  eligible_iff i j = (admitted_inside book i j, λ e. e.2)

  exactly_pair : (place : ℕ) → Exactly (pair_step P S place) (pair_causes P S place)
  exactly_pair place =
      let p : Pair = pair_at S place in
      let admitted : Bool = P.admits p.lot p.call in
      let met : ℕ = times p.lot p.call (take place S) in
      exactly_then _ _ _ (exactly_if (not admitted) 9 (place ∷ []) (not_iff admitted (eligible_iff p.lot p.call))) (λ _ _.
      exactly_if (ltb 0 met) 10 (place ∷ []) (lt_iff 0 met))

  -- in a list of eligible pairs, (i, j) at a place, and (i, l) and (k, j) after it
  module _ {base : ℕ} (lifts : Lifts base P (costs_of book)) (lists : Lists P S) (place : ℕ) (inside : place < length S) (k l : ℕ) where
    abbrev i : ℕ
    i = (pair_at S place).lot

    abbrev j : ℕ
    j = (pair_at S place).call

    abbrev after : List Pair
    after = drop (suc place) S

    abbrev high : Bool
    high = ltb (P.cost i l + P.cost k j) (P.cost i j + P.cost k l)

    stands : (a b : ℕ) → times a b S ≡ times a b (take place S) + times a b (pair_at S place ∷ after)
    stands a b = ap (times a b) (split_at S place (pair 0 0) inside) ∙ times_append a b (take place S) (pair_at S place ∷ after)

    own : Eligible P i j
    own = lists.eligible i j (omega (arith, stands i j, times_head (pair_at S place) after))

    later : (a b : ℕ) → 0 < times a b after → Eligible P a b
    later a b h = lists.eligible a b (omega (arith, stands a b, times_tail_le a b (pair_at S place) after))

    high_iff : (0 < times i l after) → (0 < times k j after) → Eligible P k l → T high ↔ (SignedFit (costs_of book) i j k l → ⊥)
    high_iff row column kl =
        let (natural, signed) = signed_sum_le lifts i j k l own kl (later i l row) (later k j column) in (
          λ t fits. omega (arith, ltb→lt (P.cost i l + P.cost k j) (P.cost i j + P.cost k l) t, natural fits),
          λ never. by_cases (T? high) (λ t. t) (λ low.
              absurd (never (signed (nltb→le (P.cost i l + P.cost k j) (P.cost i j + P.cost k l) (not_T high low))))),
        )

    by_both : (b : Bool) → T b ↔ ((0 < times i l after) × (0 < times k j after))
        → Exactly (cond b (check_quadruple P (pair_at S place) k l) (gives tt)) (cross_causes book S place k l)
    unfolding check_quadruple
    by_both true both =
        let (row, column) = both.0 tt in
        let (never, ever) = not_iff (P.admits k l) (eligible_iff k l) in
        let eleven = exactly_if (not (P.admits k l)) 11 (i ∷ j ∷ k ∷ l ∷ []) (λ t. (both.0 tt, never t), λ (_, out). ever out) in
        exactly_then _ _ _ eleven (λ _ passed.
        let kl : Eligible P k l = by_cases (T? (P.admits k l)) (eligible_iff k l).0
        (λ out. absurd (given_none eleven passed 11 _ (refl, refl, (both.0 tt, λ e. out e.2)))) in
        let (says, said) = high_iff row column kl in
        exactly_if high 12 (i ∷ j ∷ k ∷ l ∷ []) (λ t. (both.0 tt, says t), λ (_, h). said h))
    by_both false both = exactly_nothing (λ n vs c. ⊎_elim (λ (_, _, (here, _)). both.1 here) (λ (_, (_, _, (here, _))). both.1 here) c)

    exactly_cross : Exactly (cross_test P after (pair_at S place) k l) (cross_causes book S place k l)
    exactly_cross = by_both (both_in after (pair_at S place) k l)
        (and_iff (ltb 0 (times i l after)) (ltb 0 (times k j after)) (lt_iff 0 (times i l after)) (lt_iff 0 (times k j after)))

  missing_iff : T (not (complete P S)) ↔ Missing P S
  missing_iff = (
    missing_if_incomplete P S,
    λ (i, j, e, none). not_T (complete P S) (λ all. omega (arith, (complete_exactly P S).0 all i j e)),
  )

pub exactly_order : (book s : List ℕ) → Exactly (check_order book s) (order_causes book s)
unfolding check_order
exactly_order book s =
    let P : Problem = problem_of book in
    let S : List Pair = order_pairs s in
    let count : ℕ = order_count s in
    exactly_then _ _ _ (exactly_book book) (λ n reads.
    exactly_then _ _ _ (exactly_opening 67 76 79 1 s) (λ _ _.
    exactly_then _ _ _ (exactly_if (ltb (length s) (7 + 2 * count)) 6 [] (lt_iff (length s) (7 + 2 * count))) (λ _ _.
    exactly_then _ _ _ (exactly_if (ltb (7 + 2 * count) (length s)) 8 [] (lt_iff (7 + 2 * count) (length s))) (λ _ _.
    rw (pairs_turns P S S [] [] refl (λ i j. refl))
    (exactly_then _ _ _ (exactly_turns _ _ (length S) (λ place h. exactly_pair book S place)) (λ _ walked.
    let lists = (holding_exactly P (admitted_inside book) S).0 (pairs_turns P S S [] [] refl (λ i j. refl) ∙ walked) in
    let lifts = book_lifts (book_read book n reads) in
    exactly_then _ _ _ (exactly_if (not (complete P S)) 14 [] (missing_iff book S)) (λ _ _.
    rw (monge_turns P S S [] refl)
    (exactly_gives _ _ (exactly_turns _ _ (length S) (λ place h.
    exactly_turns _ _ P.lots (λ k g. exactly_turns _ _ P.calls (λ l f. exactly_cross book S lifts lists place h k l))))))))))))
