-- What the parts of the check say together. Pairs that pass 9 and 10, as many as are eligible, are an order of the eligible pairs
-- (`order_of_pairs`). Of such an order the walk by least gaps finds the lowest place that fails, and the scan of that place says what the
-- specification says of the whole (`settled_whole`, `settled_at`).
use mathlib.Core.Path.{◌≡◌, refl, sym, ◌∙◌, ap₂, subst}
use mathlib.Core.Logic.{by_cases}
use mathlib.Core.Bool.{true, false}
use mathlib.Core.List.{List, []}
use Rattle.std.proofs.Common.{Option, None, Some, Result, Ok, Err}
use Prim.Native.Nat.{ℕ, ◌+◌, ◌≤◌, ◌<◌}
use native.Mathlib.Decide.{dec_lt}
use native.Mathlib.Omega.{arith}
use lib.Dec.{T, ltb→lt, lt→ltb}
use lib.ListN.{length}
use Rattle.transport.specs.Problem.{Problem, Eligible}
use Rattle.transport.specs.Greedy.{Pair, pair}
use Rattle.transport.specs.Order.{times, OrderOf}
use Rattle.transport.specs.Finder.{size}
use Rattle.transport.proofs.Laws.Tests.{T_true, T_false, same_of_eq}
use Rattle.transport.proofs.Orders.Lists.{Lists, lists_of_order, lists_head}
use Rattle.transport.proofs.Orders.Places.{times_head}
use Rattle.transport.proofs.Orders.Length.{order_length_lem, full_misses_none}
use Rattle.transport.proofs.Finder.Standing.{standing, standing_says, standing_of}
use Rattle.transport.proofs.Finder.Same.{Same, same_sym, order_of_same, free_of_same}
use Rattle.specification.specs.declared.Refusal.{Refusal}
use Rattle.specification.specs.Reply.{Reply, gives, refuses, told, told_as, ◌>>=◌}
use Rattle.specification.specs.Check.{check_pairs, check_monge, complete, in_turn}
use Rattle.specification.proofs.Holding.{holding_exactly, complete_exactly, order_if_all_stand}
use Rattle.specification.proofs.Books.{admitted_inside}
use Rattle.book.specs.Table.{entry}
use Rattle.walk.specs.Places.{order_pair, rest}
use Rattle.walk.specs.Walk.{Walkable, free_at, LowestNotFree, Walked}
use Rattle.walk.proofs.Placing.{rest_more, lists_from}
use Rattle.quadruples.specs.Scan.{quadruple_at}
use Rattle.order.specs.Noted.{met_at, Shows}
use Rattle.order.specs.declared.pairs.Check.{Check}
use Rattle.order.specs.Answers.{checked_pairs}
use Rattle.order.proofs.Checks.{book, P, by_table, listed, lots_in, calls_in, same, few_lots, few_calls, tabled, packed, worded, has_entry, rest_length}
use Rattle.order.proofs.Noting.{met_late, met_later}
use Rattle.order.proofs.Failing.{nothing_fails, first_failure, quadruples_by_array}

-- of pairs that pass 9 and 10 one is missing exactly where fewer are listed than are eligible; and else they are an order
module _ (P : Problem) (inside : (i j : ℕ) → T (P.admits i j) → Eligible P i j) (S : List Pair)
    (passed : check_pairs P [] 0 S ≡ gives tt) where
  lists : Lists P S
  lists = (holding_exactly P inside S).0 passed

  pub some_missing : length S < size P → complete P S ≡ false
  some_missing h = T_false (complete P S) (λ t. omega (arith, order_length_lem (order_if_all_stand P S lists ((complete_exactly P S).0 t))))

  pub none_missing : size P ≤ length S → complete P S ≡ true
  none_missing h = T_true (complete P S) ((complete_exactly P S).1 (λ i j e. by_cases (dec_lt 0 (times i j S)) (λ stands. stands)
      (λ never. absurd (full_misses_none lists h i j e (omega arith)))))

  pub order_of_pairs : size P ≤ length S → OrderOf P S
  order_of_pairs h = order_if_all_stand P S lists ((complete_exactly P S).0 (rw (none_missing h) tt))

-- a lowest place is the same in two problems with the same pairs and costs
lowest_of_same : {P Q : Problem} → Same P Q → (order : List ℕ) (count r : ℕ) → Lists P (rest order count 0)
    → LowestNotFree P order count 0 r → LowestNotFree Q order count 0 r
lowest_of_same {P} {Q} same order count r lists lowest = record {
  within = lowest.within;
  free_before = λ p low high. sym (free_at_lem p (omega (arith, lowest.within))) ∙ lowest.free_before p low high;
  not_free = λ h. sym (free_at_lem r h) ∙ lowest.not_free h;
}
  where
    free_at_lem : (p : ℕ) → p < count → free_at P order count p ≡ free_at Q order count p
    free_at_lem p h =
        let here : Lists P (rest order count p) = lists_from order count P lists p (omega arith) in
        let S : List Pair = rest order count p in
        let own = lists_head (rw (rest_more order count p h) at here) in
        free_of_same same (standing S) (standing S) (λ i j hi hj. refl)
        (λ i j stands. (here.eligible i j (standing_says S i j stands.2)).2)
        (order_pair order p).lot (order_pair order p).call (
          own.0,
          own.1,
          standing_of S (order_pair order p).lot (order_pair order p).call
              (rw (rest_more order count p h) (omega (arith, times_head (order_pair order p) (rest order count (p + 1))))),
        )

-- a step of a check, and then a value
then_gives : {A : Type 0} (r : Result (Unit {0}) Refusal) (a : A) → told_as (λ _. a) r ≡ (told r >>= λ _. gives a)
then_gives (Ok u) a = refl
then_gives (Err x) a = refl

module _ (c : Check) where
  -- past 9 and 10: a pair is missing, or the list is an order
  module _ (passes : gives tt ≡ check_pairs (P c) [] 0 (listed c)) where
    pub one_missing : c.pairs.count < size (P c) → refuses 14 [] ≡ checked_pairs (P c) (listed c) c.pairs.count
    one_missing few = rw (
      ← passes,
      some_missing (P c) (admitted_inside (book c)) (listed c) (sym passes) (omega (arith, rest_length c.pairs.order.now c.pairs.count)),
    ) refl

    module _ (enough : size (P c) ≤ c.pairs.count) where
      pub is_order : OrderOf (P c) (listed c)
      is_order = order_of_pairs (P c) (admitted_inside (book c)) (listed c) (sym passes)
          (omega (arith, rest_length c.pairs.order.now c.pairs.count))

      pub then_settled : (r : Result (Unit {0}) Refusal) → told r ≡ check_monge (P c) (listed c)
          → told_as (λ _. c.pairs.count) r ≡ checked_pairs (P c) (listed c) c.pairs.count
      then_settled r is = then_gives r c.pairs.count ∙ rw (
        is,
        ← passes,
        none_missing (P c) (admitted_inside (book c)) (listed c) (sym passes) (omega (arith, rest_length c.pairs.order.now c.pairs.count)),
      ) refl

  -- each pair of an order of its eligible pairs is eligible, so it can be walked and scanned
  module _ (places : List ℕ) (each_once : OrderOf (P c) (listed c)) (shows : Shows 32 32 places (met_at c.pairs.order.now c.pairs.count)) where
    -- a pair with a place is eligible
    met_eligible : (i j : ℕ) → 0 < met_at c.pairs.order.now c.pairs.count i j → Eligible (P c) i j
    met_eligible i j h = (lists_of_order each_once).eligible i j (ltb→lt 0 (times i j (listed c))
        (subst T (sym (met_later c.pairs.order.now c.pairs.count c.pairs.count 0 i j (omega arith)))
        (lt→ltb 0 (met_at c.pairs.order.now c.pairs.count i j) h)))

    pub placed : (i j : ℕ) → i < 32 → j < 32 → 0 < entry places i j → Eligible (P c) i j
    placed i j hi hj stands = met_eligible i j (omega (arith, shows.at i j hi hj))

    eligible_at : (p : ℕ) → p < c.pairs.count → Eligible (P c) (order_pair c.pairs.order.now p).lot (order_pair c.pairs.order.now p).call
    eligible_at p h =
        let i = (order_pair c.pairs.order.now p).lot in
        let j = (order_pair c.pairs.order.now p).call in
        met_eligible i j (omega (
          arith,
          met_late c.pairs.order.now c.pairs.count c.pairs.count i j p h
              (same_of_eq i j (order_pair c.pairs.order.now p) refl refl),
        ))

    pub own_eligible : (p i j : ℕ) → p < c.pairs.count → i ≡ (order_pair c.pairs.order.now p).lot → j ≡ (order_pair c.pairs.order.now p).call
        → Eligible (P c) i j
    own_eligible p i j h lot_is call_is = rw (lot_is, call_is) (eligible_at p h)

    pub walkable : Walkable (book c) c.offsets.now c.starts.now c.pairs.order.now c.pairs.count c.book.now.counts.calls
    walkable = record {
      tabled = tabled c;
      packed = packed c;
      worded = worded c;
      few_calls = calls_in c;
      lot_in = λ p h. omega (arith, (eligible_at p h).0, few_lots c);
      call_in = λ p h. omega (arith, (eligible_at p h).1, (same c).calls);
      in_table = λ p h. has_entry c _ _ (eligible_at p h);
    }

    in_table_order : OrderOf (by_table c) (listed c)
    in_table_order = order_of_same (same_sym (same c)) (listed c) each_once

    -- what the walk says of the table's problem holds of the book's
    lowest : (r : ℕ) → LowestNotFree (by_table c) c.pairs.order.now c.pairs.count 0 r → LowestNotFree (P c) c.pairs.order.now c.pairs.count 0 r
    lowest r = lowest_of_same (same c) c.pairs.order.now c.pairs.count r (lists_of_order in_table_order)

    abbrev Found : Option ℕ → Type 0
    Found = Walked (book c) c.offsets.now c.pairs.order.now c.pairs.count c.book.now.counts.calls

    -- where it finds no place there is nothing to refuse, and else the scan of the lowest names the failure
    pub settled_whole : Found None → check_monge (P c) (listed c) ≡ gives tt
    settled_whole walked =
        nothing_fails (P c) (admitted_inside (book c)) c.pairs.order.now c.pairs.count (lists_of_order each_once) c.pairs.count
        (lowest c.pairs.count (walked c.book.now.counts.lots (lots_in c) in_table_order)) refl

    module _ (r : ℕ) (walked : Found (Some r)) where
      pub place_in : r < c.pairs.count
      place_in = (walked c.book.now.counts.lots (lots_in c) in_table_order).0

      pub settled_at : (found : Reply (Unit {0})) (i j : ℕ) → i ≡ (order_pair c.pairs.order.now r).lot → j ≡ (order_pair c.pairs.order.now r).call
          → found ≡ in_turn c.book.now.counts.lots 0 (λ k. in_turn c.book.now.counts.calls 0 (quadruple_at (P c) places r (pair i j) k))
          → found ≡ check_monge (P c) (listed c)
      settled_at found i j lot_is call_is says =
          first_failure (P c) (admitted_inside (book c)) c.pairs.order.now c.pairs.count (lists_of_order each_once) r
          (lowest r (walked c.book.now.counts.lots (lots_in c) in_table_order).1) place_in found
          (says ∙ ap₂ (λ (a b : ℕ). in_turn a 0 (λ k. in_turn b 0 (quadruple_at (P c) places r (pair i j) k))) (same c).lots (same c).calls
          ∙ quadruples_by_array (P c) places c.pairs.order.now c.pairs.count (few_lots c) (few_calls c)
          shows r place_in (eligible_at r place_in).0 (eligible_at r place_in).1 i j lot_is call_is)
