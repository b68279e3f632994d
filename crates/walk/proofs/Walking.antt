-- One turn of the walk. The pairs in play are those from the turn's place on, and the words have their calls. The turn lowers the least gaps
-- to those of the pairs from its place on, and says whether its pair is free against them.
use Rattle.std.proofs.Common.{◌≡◌, ◌≢◌, ℕ, ◌+◌, ◌-◌, ◌*◌, ◌^◌, ◌<◌, ◌≤◌, Bool, true, false, cond, not, ◌&&◌, ◌||◌, T, eqb, leb, Option, None, Some, List, ◌∷◌, length, get_or, set, replicate, sym, refl, ap, ◌∙◌, subst, ap₂, arith, T_not, length-set, get_or-set_other, get_or-set_same, lt-ltb, eq-eqb}
use mathlib.Core.Logic.{by_cases}
use mathlib.Core.Bool.{or-false}
use native.Mathlib.Decide.{ℕ_discrete}
use lib.Bits.{bit_and, bit_or, or_lt}
use lib.Pow.{pow-lt}
use lib.ListN.{length-replicate, get_or-replicate}
use Rattle.transport.specs.Problem.{Problem, Eligible}
use Rattle.transport.specs.Greedy.{Pair}
use Rattle.transport.specs.Order.{times, OrderOf}
use Rattle.transport.proofs.Laws.Tests.{T?, T_true, T_false, and_says, eqb_true, eqb_false}
use Rattle.transport.proofs.Laws.Searches.{every_same}
use Rattle.transport.proofs.Laws.Sets.{with_pair}
use Rattle.transport.proofs.Orders.Lists.{Lists, lists_of_order, lists_head}
use Rattle.transport.proofs.Finder.Standing.{standing, standing_says, standing_cons}
use Rattle.transport.proofs.Finder.Gaps.{least_at_same}
use Rattle.transport.proofs.Finder.Exchanged.{exchanged, across}
use Rattle.transport.proofs.Finder.Backward.{backward, call_gap, lowered, least_for, in_play_stands, verdict_is_free}
use Rattle.specification.specs.Bytes.{u32_at}
use Rattle.specification.specs.Costs.{cost_top}
use Rattle.specification.specs.Book.{bit}
use Rattle.book.specs.Table.{entry, problem_by}
use Rattle.words.proofs.Sets.{bit_none, bit_or_lem, bit_and_lem, bit_single, bit_all, within_exactly}
use Rattle.walk.specs.Places.{order_pair, rest}
use Rattle.walk.specs.Gaps.{gap_top}
use Rattle.walk.specs.Walk.{Walkable, PairEntered, free_at, LowestNotFree, LowestFrom}
use Rattle.walk.proofs.Eligibles.{bounded}
use Rattle.walk.proofs.Lowering.{Keeps, keeps_turn, fits_is}
use Rattle.walk.proofs.Placing.{rest_more, rest_none, lists_from}

-- the lowest place that fails, with one place more in front
module _ (P : Problem) (order : List ℕ) (count p : ℕ) where
  before : {next r : ℕ} → next ≡ p + 1 → free_at P order count p ≡ true → LowestNotFree P order count next r
      → LowestNotFree P order count p r
  before next_is e lowest = record {
    within = lowest.within;
    free_before = λ q low high. by_cases (ℕ_discrete q p) (λ (same : q ≡ p). rw same e)
        (λ other. lowest.free_before q (omega arith) high);
    not_free = lowest.not_free;
  }

  lowest_before : (next : ℕ) (r : Option ℕ) → next ≡ p + 1 → free_at P order count p ≡ true → LowestFrom P order count next r
      → LowestFrom P order count p r
  lowest_before next None next_is e lowest = before next_is e lowest
  lowest_before next (Some q) next_is e lowest = (lowest.0, before next_is e lowest.1)

  lowest_here : p < count → free_at P order count p ≡ false → LowestFrom P order count p (Some p)
  lowest_here h e =
      (h, record { within = omega arith; free_before = λ q low high. absurd (omega arith); not_free = λ _. e })

module _ (book table starts order : List ℕ) (count n m : ℕ) (w : Walkable book table starts order count m) (few_lots : n ≤ 32)
    (each_once : OrderOf (problem_by book table n m) (rest order count 0)) (p : ℕ) (h : p < count) where
  abbrev P : Problem
  P = problem_by book table n m

  lists : Lists P (order_pair order p ∷ rest order count (p + 1))
  lists = rw (rest_more order count p h) at (lists_from order count P (lists_of_order each_once) p (omega arith))

  turn_gaps : lowered P cost_top (backward P cost_top (rest order count (p + 1))).gaps (order_pair order p)
      ≡ (backward P cost_top (rest order count p)).gaps
  unfolding backward
  turn_gaps = rw (rest_more order count p h)

  eligible : Eligible P (order_pair order p).lot (order_pair order p).call
  eligible = lists_head lists

  -- the word of the calls that the pair's lot has in play in its turn
  module _ (marked : ℕ) (marked_is : (l : ℕ) → bit marked l ≡ standing (rest order count p) (order_pair order p).lot l) where
    stands_is : (l : ℕ) → bit marked l ≡ standing (order_pair order p ∷ rest order count (p + 1)) (order_pair order p).lot l
    stands_is l = marked_is l ∙ ap (λ (S : List Pair). standing S (order_pair order p).lot l) (rest_more order count p h)

    in_play_is : (l : ℕ) → bit marked l
        ≡ with_pair (backward P cost_top (rest order count (p + 1))).in_play (order_pair order p) (order_pair order p).lot l
    unfolding backward
    in_play_is l = stands_is l ∙ sym (in_play_stands P cost_top (order_pair order p ∷ rest order count (p + 1)) (order_pair order p).lot l)

    -- they are eligible
    marked_eligible : (l : ℕ) → T (bit marked l) → Eligible P (order_pair order p).lot l
    marked_eligible l t = lists.eligible (order_pair order p).lot l (standing_says (order_pair order p ∷ rest order count (p + 1))
        (order_pair order p).lot l (subst T (stands_is l) t))

    turn_free : least_for P cost_top (λ k l. bit marked l)
        (lowered P cost_top (backward P cost_top (rest order count (p + 1))).gaps (order_pair order p) (order_pair order p).call)
        (order_pair order p)
        ≡ free_at P order count p
    turn_free = rw (rest_more order count p h)
        (least_at_same (exchanged P) cost_top (across (λ k l. bit marked l))
        (across (with_pair (backward P cost_top (rest order count (p + 1))).in_play (order_pair order p)))
        (lowered P cost_top (backward P cost_top (rest order count (p + 1))).gaps (order_pair order p) (order_pair order p).call) _
        (order_pair order p).call (order_pair order p).lot (λ l hl. in_play_is l) (λ l hl. refl)
        ∙ verdict_is_free P cost_top (bounded book table n m few_lots w.few_calls w.tabled) (order_pair order p) _ lists)

    -- the pair is free exactly where all of them are in the word of the calls over which its gap is the least
    free_by_words : marked < 2 ^ 32 → (fits : ℕ) → ((l : ℕ) → l < m → P.admits (order_pair order p).lot l ≡ true
        → bit fits l ≡ leb (call_gap P cost_top (order_pair order p).call l (order_pair order p).lot)
        (lowered P cost_top (backward P cost_top (rest order count (p + 1))).gaps (order_pair order p) (order_pair order p).call l))
        → eqb (bit_and marked fits) marked ≡ free_at P order count p
    free_by_words small fits fits_are =
        within_exactly m 32 marked fits small (λ l far. T_false (bit marked l) (λ t. omega (arith, (marked_eligible l t).1)))
        ∙ every_same m _ _ (λ l hl. by_cases (T? (bit marked l))
        (λ t. ap (λ (b : Bool). not (bit marked l) || b) (fits_are l hl (T_true _ (marked_eligible l t).2)))
        (λ t. rw (T_false (bit marked l) t)))
        ∙ turn_free

-- a pair of the order is one of the table's
pub pair_in : {book table starts order : List ℕ} {count m : ℕ} (w : Walkable book table starts order count m) (p : ℕ) → p < count → {i j : ℕ}
    → i ≡ (order_pair order p).lot → j ≡ (order_pair order p).call → (i < 32) × (j < m) × (j < 32) × (entry table i j ≢ 0)
pair_in w p h {i} {j} lot_is call_is = (
  omega (arith, lot_is, w.lot_in p h),
  omega (arith, call_is, w.call_in p h),
  omega (arith, call_is, w.call_in p h, w.few_calls),
  λ e. w.in_table p h (rw (← lot_is, ← call_is) e),
)

-- a lot is eligible for the calls of its row's word, and so for those of a word cut by it
pub shared_has : {book table starts order : List ℕ} {count m : ℕ} (w : Walkable book table starts order count m) (p : ℕ) → p < count → {i j : ℕ}
    → i ≡ (order_pair order p).lot → j ≡ (order_pair order p).call → (word : ℕ) {row : ℕ} → row ≡ u32_at book (get_or starts i 0)
    → (l : ℕ) → l < 32 → bit (bit_and word row) l ≡ true → entry table i l ≡ 0 → ⊥
shared_has {table = table} w p h {i} {j} lot_is call_is word {row} row_is l hl shared none =
    let in_row = (and_says (bit word l) (bit row l) (subst T (sym shared ∙ bit_and_lem word row l) tt)).1 in
    T_not (eqb (entry table i l) 0) (subst T (rw (← row_is) at (w.worded.has i j l (rw lot_is (w.lot_in p h))
    (omega (arith, call_is, w.call_in p h, w.few_calls)) hl (λ e. w.in_table p h (rw (← lot_is, ← call_is) e)))) in_row)
    (rw (eq-eqb (entry table i l) 0 none) tt)

-- what the walk keeps from p on: the words of the calls that each lot has pairs with there, the words and least gaps of the calls, and the
-- lowest place that fails
pub record WalkedFrom (book table order : List ℕ) (count m p : ℕ) (common later least : List ℕ) (lowest : Option ℕ) : Type 0 where
  pub long : (length common ≡ 32) × (length later ≡ 32)
  pub small : (i : ℕ) → i < 32 → get_or later i 0 < 2 ^ 32
  pub marked : (i l : ℕ) → i < 32 → bit (get_or later i 0) l ≡ standing (rest order count p) i l
  pub walked : (n : ℕ) → n ≤ 32 → OrderOf (problem_by book table n m) (rest order count 0)
      → Keeps m common least (backward (problem_by book table n m) cost_top (rest order count p)).gaps
      × LowestFrom (problem_by book table n m) order count p lowest

-- before the first turn nothing is in play
pub walked_none : (book table order : List ℕ) (count m : ℕ) → m ≤ 32
    → WalkedFrom book table order count m count (replicate 32 (2 ^ 32 - 1)) (replicate 32 0) (replicate 1024 gap_top) None
unfolding backward times
walked_none book table order count m few = record {
  long = (length-replicate {A = ℕ} 32 (2 ^ 32 - 1), length-replicate {A = ℕ} 32 0);
  small = λ i hi. omega (arith, get_or-replicate {A = ℕ} 32 i 0 0 hi);
  marked = λ i l hi. rw (get_or-replicate {A = ℕ} 32 i 0 0 hi, rest_none order count) (bit_none l);
  walked = λ n few_lots each_once. (
    rw (rest_none order count) (record {
      at = λ j l hj hl. rw (get_or-replicate {A = ℕ} 32 j (2 ^ 32 - 1) 0 (omega arith), bit_all 32 l (omega arith))
          (sym (get_or-replicate {A = ℕ} 1024 (32 * j + l) gap_top 0 (omega arith)));
    }),
    record { within = omega arith; free_before = λ q low high. absurd (omega arith); not_free = λ h. absurd (omega arith) },
  );
}

-- the whole turn of the pair (i, j) at p, `next` being the place after it, by the word of its lot's row
module _ {book table starts order : List ℕ} {count m : ℕ} (w : Walkable book table starts order count m)
    (p : ℕ) (h : p < count) (next : ℕ) (next_is : next ≡ p + 1) {i j : ℕ} (lot_is : i ≡ (order_pair order p).lot)
    (call_is : j ≡ (order_pair order p).call) {common later least after : List ℕ} {row single fits : ℕ} (lowest : Option ℕ)
    (row_is : row ≡ u32_at book (get_or starts i 0)) (single_is : single ≡ 2 ^ j)
    (entered : PairEntered book table m i j (bit_and (get_or common j 0) row) least fits after)
    (so_far : WalkedFrom book table order count m next common later least lowest) where
  lot_few : i < 32
  lot_few = rw lot_is (w.lot_in p h)

  call_few : j < 32
  call_few = omega (arith, call_is, w.call_in p h, w.few_calls)

  abbrev marked : ℕ
  marked = bit_or (get_or later i 0) single

  marked_small : marked < 2 ^ 32
  marked_small = or_lt 32 (get_or later i 0) single (so_far.small i lot_few) (rw single_is (pow-lt {j = 32} call_few))

  -- the pair is put into its lot's word, and stands in no other's
  stands_now : (k l : ℕ) → standing (rest order count p) k l ≡ (standing (rest order count next) k l || (eqb k i && eqb l j))
  stands_now k l = rw (lot_is, call_is, next_is, rest_more order count p h) (standing_cons (order_pair order p) (rest order count (p + 1)) k l)

  single_bit : (l : ℕ) → bit single l ≡ eqb l j
  single_bit l = rw single_is (bit_single j l)

  marked_is : (l : ℕ) → bit marked l ≡ standing (rest order count p) i l
  marked_is l = bit_or_lem (get_or later i 0) single l ∙ ap₂ ◌||◌ (so_far.marked i l lot_few) (single_bit l)
      ∙ sym (stands_now i l ∙ rw (eqb_true i))

  marked_other : (k l : ℕ) → k < 32 → (k ≡ i → ⊥) → bit (get_or later k 0) l ≡ standing (rest order count p) k l
  marked_other k l hk ne = so_far.marked k l hk ∙ sym (stands_now k l ∙ rw (eqb_false k i ne) (or-false (standing (rest order count next) k l)))

  module _ (n : ℕ) (few_lots : n ≤ 32) (each_once : OrderOf (problem_by book table n m) (rest order count 0)) where
    own : Eligible (problem_by book table n m) (order_pair order p).lot (order_pair order p).call
    own = eligible book table starts order count n m w few_lots each_once p h

    lot_in : i < n
    lot_in = rw lot_is own.0

    kept : Keeps m common least (backward (problem_by book table n m) cost_top (rest order count (p + 1))).gaps
    kept = rw next_is at (so_far.walked n few_lots each_once).0

    -- the row's word has the calls that the lot is eligible for
    row_has : (l : ℕ) → l < m → bit row l ≡ (problem_by book table n m).admits i l
    row_has l hl = rw (row_is, lt-ltb i n lot_in, lt-ltb l m hl)
        (w.worded.has i j l lot_few call_few (omega (arith, w.few_calls)) (λ e. w.in_table p h (rw (← lot_is, ← call_is) e)))

    keeps_are : Keeps m (set common j (bit_and (get_or common j 0) row)) after
        (backward (problem_by book table n m) cost_top (rest order count p)).gaps
    keeps_are = rw (← turn_gaps book table starts order count n m w few_lots each_once p h, ← lot_is, ← call_is)
        (keeps_turn book table n m w.few_calls few_lots w.tabled i j lot_in (rw call_is own.1) _ common least after
        so_far.long.0 row fits row_has entered kept)

    free_is : eqb (bit_and marked fits) marked ≡ free_at (problem_by book table n m) order count p
    free_is = free_by_words book table starts order count n m w few_lots each_once p h marked (λ l. rw (← lot_is) (marked_is l)) marked_small
        fits (λ l hl e. rw (lot_is, call_is) at (fits_is book table n m w.few_calls few_lots w.tabled i j lot_in (rw call_is own.1) _
        common least after so_far.long.0 row fits row_has entered kept l hl (rw lot_is e)))

    lowest_is : (b : Bool) → free_at (problem_by book table n m) order count p ≡ b
        → LowestFrom (problem_by book table n m) order count p (cond b lowest (Some p))
    lowest_is true e = lowest_before (problem_by book table n m) order count p next lowest next_is e (so_far.walked n few_lots each_once).1
    lowest_is false e = lowest_here (problem_by book table n m) order count p h e

  pub walk_turn : (b : Bool) → eqb (bit_and marked fits) marked ≡ b
      → WalkedFrom book table order count m p (set common j (bit_and (get_or common j 0) row)) (set later i marked) after (cond b lowest (Some p))
  walk_turn b e = record {
    long = (length-set common j _ ∙ so_far.long.0, length-set later i marked ∙ so_far.long.1);
    small = λ k hk. by_cases (ℕ_discrete k i)
        (λ (q : k ≡ i). rw (q, get_or-set_same later i marked 0 (omega (arith, lot_few, so_far.long.1))) marked_small)
        (λ ne. rw (get_or-set_other later i k marked 0 ne) (so_far.small k hk));
    marked = λ k l hk. by_cases (ℕ_discrete k i)
        (λ (q : k ≡ i). rw (q, get_or-set_same later i marked 0 (omega (arith, lot_few, so_far.long.1))) (marked_is l))
        (λ ne. rw (get_or-set_other later i k marked 0 ne) (marked_other k l hk ne));
    walked = λ n few_lots each_once.
        (keeps_are n few_lots each_once, lowest_is n few_lots each_once b (sym (free_is n few_lots each_once) ∙ e));
  }
