-- The least gaps of a call, lowered over one call after another to those at a lot: over no call yet, and over one more. And what the turn of
-- a pair then does to the least gaps of the problem: they are those that the array holds over the calls of the words, and 0 over others.
use Rattle.std.proofs.Common.{◌≡◌, ℕ, ◌+◌, ◌*◌, ◌^◌, ◌<◌, ◌≤◌, min, Bool, true, false, cond, not, ◌&&◌, ◌||◌, eqb, ltb, leb, List, length, get_or, set, sym, refl, ap, ◌∙◌, ap₂, arith, get_or-set_other, get_or-set_same, le-ltb, lt-ltb, le-leb}
use mathlib.Core.Logic.{by_cases}
use mathlib.Core.Bool.{and-true, and-false, or-true, or-false}
use native.Mathlib.Decide.{ℕ_discrete, dec_lt}
use borrow.Author.Tests.{lt-leb}
use lib.Bits.{bit_and, bit_or}
use Rattle.transport.specs.Problem.{Problem}
use Rattle.transport.specs.Greedy.{pair}
use Rattle.transport.proofs.Laws.Tests.{eqb_true, eqb_false}
use Rattle.transport.proofs.Finder.Backward.{call_gap, lowered}
use Rattle.specification.specs.Costs.{cost_top}
use Rattle.specification.specs.Book.{bit}
use Rattle.book.specs.Table.{entry, problem_by, Tabled}
use Rattle.words.proofs.Sets.{bit_none, bit_or_lem, bit_and_lem, bit_single}
use Rattle.walk.specs.Gaps.{table_gap, GapLowered, Lowered}
use Rattle.walk.specs.Walk.{PairEntered}
use Rattle.walk.proofs.Eligibles.{admitted_in}
use Rattle.walk.proofs.Arrays.{entry_stored, entry_kept}

-- the test of a lesser gap, the other way round
not_under : (a b : ℕ) → not (ltb a b) ≡ leb b a
not_under a b = by_cases (dec_lt a b)
    (λ h. rw (lt-ltb a b h, lt-leb b a h))
    (λ h. rw (le-ltb a b (omega arith), le-leb b a (omega arith)))

-- ---- one call after another
module _ (gap : ℕ → ℕ) (some : ℕ → Bool) (j : ℕ) (least : List ℕ) where
  pub lowered_none : ((l : ℕ) → l < 32 → some l ≡ false) → Lowered gap some j least 0 least
  lowered_none none = record {
    lowers = λ l hl. rw (none l hl);
    others = λ a l ha hl other. refl;
    says = λ l hl. rw (none l hl) (bit_none l);
  }

  -- call l, over which nothing is lowered yet, is one more
  module _ (hj : j < 32) (l : ℕ) (hl : l < 32) (not_yet : some l ≡ false) (fits : ℕ) (before : List ℕ) (long : length before ≡ 1024)
      (so_far : Lowered gap some j least fits before) (single new r : ℕ) (after : List ℕ) (single_is : single ≡ 2 ^ l) (New-is : new ≡ gap l)
      (by_code : GapLowered single j l new before r after) (more : ℕ → Bool) (more_is : (k : ℕ) → k < 32 → more k ≡ (some k || eqb k l)) where
    done : GapLowered (2 ^ l) j l (gap l) before r after
    done = rw (single_is, New-is) at by_code

    old_is : entry before j l ≡ entry least j l
    old_is = so_far.lowers l hl ∙ rw not_yet

    more_here : more l ≡ true
    more_here = more_is l hl ∙ rw (eqb_true l) (or-true (some l))

    more_other : (k : ℕ) → k < 32 → (k ≡ l → ⊥) → more k ≡ some k
    more_other k hk ne = more_is k hk ∙ rw (eqb_false k l ne) (or-false (some k))

    -- what the answer adds to the word
    own_bit : (t : Bool) (k : ℕ) → bit (cond t 0 (2 ^ l)) k ≡ (not t && eqb k l)
    own_bit true k = bit_none k
    own_bit false k = bit_single l k

    answer_is : (k : ℕ) → bit r k ≡ (leb (gap l) (entry least j l) && eqb k l)
    answer_is k = rw (done.says, old_is) (own_bit (ltb (entry least j l) (gap l)) k
        ∙ ap (λ (t : Bool). t && eqb k l) (not_under (entry least j l) (gap l)))

    pub lowered_more : Lowered gap more j least (bit_or fits r) after
    lowered_more = record { lowers = lowers; others = others; says = says }
      where
        lowers : (k : ℕ) → k < 32 → entry after j k ≡ cond (more k) (min (entry least j k) (gap k)) (entry least j k)
        lowers k hk = by_cases (ℕ_discrete k l)
            (λ (e : k ≡ l). rw (e, more_here, done.lowers, ← old_is)
            (entry_stored before j l (min (entry before j l) (gap l)) hj hl long))
            (λ ne. rw (more_other k hk ne, done.lowers)
            (entry_kept before j l (min (entry before j l) (gap l)) hj hl j k hj hk (λ _ e. ne e) ∙ so_far.lowers k hk))

        others : (a k : ℕ) → a < 32 → k < 32 → (a ≡ j → ⊥) → entry after a k ≡ entry least a k
        others a k ha hk ne = rw done.lowers
            (entry_kept before j l (min (entry before j l) (gap l)) hj hl a k ha hk (λ e _. ne e) ∙ so_far.others a k ha hk ne)

        says : (k : ℕ) → k < 32 → bit (bit_or fits r) k ≡ (more k && leb (gap k) (entry least j k))
        says k hk = bit_or_lem fits r k ∙ ap₂ ◌||◌ (so_far.says k hk) (answer_is k) ∙ by_cases (ℕ_discrete k l)
            (λ (e : k ≡ l). rw (e, not_yet, more_here, eqb_true l) (and-true (leb (gap l) (entry least j l))))
            (λ ne. rw (more_other k hk ne, eqb_false k l ne, and-false (leb (gap l) (entry least j l)))
            (or-false (some k && leb (gap k) (entry least j k))))

  -- which calls they are is what counts
  pub lowered_same : (other : ℕ → Bool) → ((l : ℕ) → l < 32 → some l ≡ other l) → (r : ℕ) (after : List ℕ)
      → Lowered gap some j least r after → Lowered gap other j least r after
  lowered_same other same r after done = record {
    lowers = λ l hl. rw (← same l hl) (done.lowers l hl);
    others = done.others;
    says = λ l hl. rw (← same l hl) (done.says l hl);
  }

-- ---- the turn of a pair
-- the least gaps are those that the array holds over the calls of the words, and 0 over others
pub record Keeps (m : ℕ) (common least : List ℕ) (gaps : ℕ → ℕ → ℕ) : Type 0 where
  pub at : (j l : ℕ) → j < m → l < m → gaps j l ≡ cond (bit (get_or common j 0) l) (entry least j l) 0

module _ (book table : List ℕ) (n m : ℕ) (few : m ≤ 32) (few_lots : n ≤ 32) (tabled : Tabled book table) (i j : ℕ)
    (lot_in : i < n) (call_in : j < m) (gaps : ℕ → ℕ → ℕ) (common least after : List ℕ) (long : length common ≡ 32) (row r : ℕ)
    (row_is : (l : ℕ) → l < m → bit row l ≡ (problem_by book table n m).admits i l)
    (entered : PairEntered book table m i j (bit_and (get_or common j 0) row) least r after) (keeps : Keeps m common least gaps) where
  abbrev P : Problem
  P = problem_by book table n m

  abbrev shared : ℕ
  shared = bit_and (get_or common j 0) row

  shared_is : (l : ℕ) → l < m → bit shared l ≡ (bit (get_or common j 0) l && P.admits i l)
  shared_is l hl = bit_and_lem (get_or common j 0) row l ∙ ap (λ (t : Bool). bit (get_or common j 0) l && t) (row_is l hl)

  -- the gaps of call j before the turn: by the array over the calls of its word, and 0 over others
  old_in : (l : ℕ) → l < m → bit (get_or common j 0) l ≡ true → gaps j l ≡ entry least j l
  old_in l hl e = keeps.at j l call_in hl ∙ rw e

  old_out : (l : ℕ) → l < m → bit (get_or common j 0) l ≡ false → gaps j l ≡ 0
  old_out l hl e = keeps.at j l call_in hl ∙ rw e

  -- the gap at lot i over a call that it is eligible for is above 0, and over another 0
  gap_out_lem : (l : ℕ) → P.admits i l ≡ false → call_gap P cost_top j l i ≡ 0
  gap_out_lem l e = rw e

  gap_some : (l : ℕ) → l < m → P.admits i l ≡ true → 0 < table_gap book table i j l
  gap_some l hl e = omega (arith, tabled.cheap (32 * i + l) (omega arith) (admitted_in table n m i l e).2)

  pub keeps_turn : Keeps m (set common j shared) after (lowered P cost_top gaps (pair i j))
  keeps_turn = record { at = at }
    where
      here : (l : ℕ) → l < m → (s t : Bool) → bit (get_or common j 0) l ≡ s → P.admits i l ≡ t
          → min (gaps j l) (call_gap P cost_top j l i) ≡ cond (bit shared l) (entry after j l) 0
      here l hl true true s t =
          rw (shared_is l hl, s, t, old_in l hl s) (sym (entered.lowers l hl (shared_is l hl ∙ rw (s, t))))
      here l hl true false s t = rw (shared_is l hl, s, t) (omega (arith, gap_out_lem l t))
      here l hl false t s e = rw (shared_is l hl, s) (omega (arith, old_out l hl s))

      at : (a l : ℕ) → a < m → l < m → lowered P cost_top gaps (pair i j) a l ≡ cond (bit (get_or (set common j shared) a 0) l) (entry after a l) 0
      at a l ha hl = by_cases (ℕ_discrete a j)
          (λ (e : a ≡ j). rw (e, eqb_true j, get_or-set_same common j shared 0 (omega (arith, long))) (here l hl _ _ refl refl))
          (λ ne. rw (eqb_false a j ne, get_or-set_other common j a shared 0 ne, entered.others a l ha hl ne) (keeps.at a l ha hl))

  -- the answer has the calls that lot i is eligible for over which the pair's gap is the least
  pub fits_is : (l : ℕ) → l < m → P.admits i l ≡ true → bit r l ≡ leb (call_gap P cost_top j l i) (lowered P cost_top gaps (pair i j) j l)
  fits_is l hl e = rw (entered.says l hl, shared_is l hl, e, and-true (bit (get_or common j 0) l), eqb_true j)
      (go (bit (get_or common j 0) l) refl)
    where
      gap : ℕ
      gap = table_gap book table i j l

      go : (b : Bool) → bit (get_or common j 0) l ≡ b → (bit (get_or common j 0) l && leb gap (entry least j l)) ≡ leb gap (min (gaps j l) gap)
      go true b = rw (b, old_in l hl b) (at_most (entry least j l))
        where
          at_most : (x : ℕ) → leb gap x ≡ leb gap (min x gap)
          at_most x = by_cases (dec_lt x gap)
              (λ h. rw (lt-leb gap x h, lt-leb gap (min x gap) (omega arith)))
              (λ h. rw (le-leb gap x (omega arith), le-leb gap (min x gap) (omega arith)))
      go false b = rw (b, old_out l hl b) (sym (lt-leb gap (min 0 gap) (omega (arith, gap_some l hl e))))
