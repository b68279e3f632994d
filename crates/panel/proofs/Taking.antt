-- The search's turns. What is kept: the finder's loop over what is left, the words of the calls at which gaps are least, and that what remains
-- and what was given are GREEDY's by the pairs taken, whatever the amounts. A pair that is left was given nothing yet.
use mathlib.Core.Path.{◌≡◌, refl, sym, ◌∙◌, ap, subst, subst⁻¹}
use mathlib.Core.Logic.{by_cases}
use mathlib.Core.Bool.{true, true≢false}
use mathlib.Core.List.{List, [], ◌∷◌, ◌++◌}
use mathlib.Core.Option.{some, none}
use Prim.Native.Nat.{ℕ, zero, suc, ◌+◌, ◌*◌, ◌-◌, ◌≤◌, ◌<◌}
use native.Mathlib.Nat.{mul-le-mul}
use native.Mathlib.Decide.{ℕ_discrete}
use native.Mathlib.Omega.{arith}
use borrow.Author.Tests.{lt-ltb}
use lib.ListN.{length, get_or, drop, set, replicate, length-set, length-replicate}
use Rattle.transport.specs.Problem.{Problem}
use Rattle.transport.specs.Greedy.{Pair, pair, State, start, room, give, give_all, greedy}
use Rattle.transport.specs.Finder.{without, size, find}
use Rattle.transport.proofs.Laws.Tests.{positive}
use Rattle.transport.proofs.Laws.Sets.{Agree, count_le}
use Rattle.transport.proofs.Laws.Units.{more_none}
use Rattle.transport.proofs.Greedy.Turns.{give_given, give_other, give_all_append}
use Rattle.transport.proofs.Finder.Loop.{Loop, loop_start, loop_take, loop_stop, loop_done, loop_same}
use Rattle.specification.specs.Costs.{cost_top}
use Rattle.words.specs.Lefts.{is_left, TakenFrom}
use Rattle.words.proofs.Lefts.{gone, fewer, gone_agrees}
use Rattle.remaining.specs.States.{HoldsState, room_in, Gave}
use Rattle.remaining.specs.Replies.{Written}
use Rattle.remaining.proofs.States.{holds_room, no_room_holds, give_all_falls}
use Rattle.remaining.proofs.Writing.{written_none, written_put}
use Rattle.remaining.specs.declared.Remaining.{Remaining}
use Rattle.remaining.specs.declared.Sums.{Sums}
use Rattle.panel_table.specs.declared.filling.Table.{Table}
use Rattle.panel.specs.declared.search.Taken.{Taken}
use Rattle.panel_table.specs.Filling.{cell, slack_at}
use Rattle.panel_table.specs.Gaps.{LeastCalls, Renewed}
use Rattle.panel.specs.Search.{problem_in, AllLeast, Frees, FirstFree, Left, Searching, Gives}
use Rattle.panel.proofs.Freeing.{next_of_pair, none_of_nothing}

-- zeros that are cleared stay zeros
cleared_zeros : (k n : ℕ) → k ≤ n → replicate {A = ℕ} k 0 ++ drop k (replicate n 0) ≡ replicate n 0
cleared_zeros zero n h = refl
cleared_zeros (suc k) zero h = absurd (omega arith)
cleared_zeros (suc k) (suc n) h = ap (λ (l : List ℕ). 0 ∷ l) (cleared_zeros k n (omega arith))

-- a state of GREEDY as the arrays show it, in which no pair that is left has units
pub record Shows (P : Problem) (lefts : List ℕ) (s : State) (state : Taken) (units : List ℕ) : Type 0 where
  pub gives : Gives P s state units
  pub waiting : (i j : ℕ) → is_left lefts i j ≡ true → s.given i j ≡ 0

-- what is kept from turn to turn
pub record Kept (slacks : List ℕ) (n m total : ℕ) (before : Remaining 8) (count : ℕ) (lefts least : List ℕ) (state : Taken)
    (units : List ℕ) : Type 0 where
  pub taken : List Pair
  pub more : ℕ
  pub loop : Loop (problem_in slacks n m) taken (is_left lefts) more
  pub whole : count + more ≡ total
  pub left : Left slacks n m lefts
  pub words : AllLeast slacks n lefts least
  pub shows : (a b : ℕ → ℕ) → HoldsState n m before (start a b) → Shows (problem_in slacks n m) lefts (greedy taken a b) state units
  pub units_bound : state.sums.units ≤ 4294967296 * count
  pub lifted_bound : state.sums.lifted ≤ 8589934592000000 * count
  pub no_idle : state.sums.idle ≡ 0
  pub long : length units ≡ 64

-- what a lot has left is at most what it had
pub kept_falls : {slacks : List ℕ} {n m total : ℕ} {before : Remaining 8} {count : ℕ} {lefts least : List ℕ} {state : Taken}
    {units : List ℕ} → Kept slacks n m total before count lefts least state units
    → (i : ℕ) → i < n → get_or state.remaining.lots i 0 ≤ get_or before.lots i 0
kept_falls {before = before} k i hi =
    let a : ℕ → ℕ = λ x. get_or before.lots x 0 in
    let b : ℕ → ℕ = λ x. get_or before.calls x 0 in
    let held = (k.shows a b (record { left_at = λ x h. refl; lacks_at = λ x h. refl })).gives.holds in
    rw (held.left_at i hi) (give_all_falls (start a b) k.taken i)

module _ (table : Table) (n m total : ℕ) (before : Remaining 8) (asked : Searching table n m total before) where
  abbrev slacks : List ℕ
  slacks = table.slacks

  abbrev P : Problem
  P = problem_in slacks n m

  pub total_few : total ≤ 64
  total_few = omega (arith, asked.total_is, count_le P P.admits, mul-le-mul asked.lots_few asked.calls_few)

  -- at first all eligible pairs are left, and nothing is given
  pub kept_first : (least : List ℕ) → AllLeast slacks n table.eligible least
      → Kept slacks n m total before 0 table.eligible least
      (record { remaining = before; sums = record { units = 0; lifted = 0; idle = 0 } }) (replicate 64 0)
  unfolding give_all
  kept_first least words = record {
    taken = [];
    more = total;
    loop = rw asked.total_is (loop_same P [] P.admits (is_left table.eligible) (size P) agree (loop_start P));
    whole = omega arith;
    left = asked.left;
    words = words;
    shows = λ a b h. record { gives = record { holds = h; written = none_written }; waiting = λ i j e. refl };
    units_bound = omega arith;
    lifted_bound = omega arith;
    no_idle = refl;
    long = length-replicate {A = ℕ} 64 0;
  }
    where
      agree : Agree P P.admits (is_left table.eligible)
      agree i j hi hj = rw (lt-ltb i n hi, lt-ltb j m hj) (sym (asked.each i j hi hj))

      none_written : Written P (replicate 64 0) (λ i j. 0) 0 0 (replicate 64 0)
      none_written = subst (Written P (replicate 64 0) (λ i j. 0) 0 0) (cleared_zeros (n * m) 64 (mul-le-mul asked.lots_few asked.calls_few)) (written_none P (replicate 64 0))

  module _ (count : ℕ) (lefts least : List ℕ) (state : Taken) (units : List ℕ)
      (k : Kept slacks n m total before count lefts least state units) where
    some_more : count < total → Loop P k.taken (is_left lefts) (suc (k.more - 1))
    some_more h = let e : k.more ≡ suc (k.more - 1) = omega (arith, k.whole) in subst (Loop P k.taken (is_left lefts)) e k.loop

    few : (n ≤ 8) × (m ≤ 8)
    few = (asked.lots_few, asked.calls_few)

    -- none is free
    pub kept_stop : count < total → ((i j : ℕ) → i < n → Frees lefts least 8 i j → ⊥) → find P ≡ none
    kept_stop h none_free = loop_stop P k.taken (is_left lefts) (k.more - 1) (some_more h)
        (none_of_nothing slacks n m table.capped few lefts least k.left k.words none_free)

    -- none is left
    pub kept_done : total ≤ count → find P ≡ some k.taken
    kept_done h =
        let e : k.more ≡ 0 = omega (arith, k.whole) in
        loop_done P k.taken (is_left lefts) (subst (Loop P k.taken (is_left lefts)) e k.loop)

    -- the lowest free pair is taken and given its room
    module _ (i j : ℕ) (free : FirstFree lefts least i j) where
      abbrev at_pair : (i < n) × (j < m) × (slack_at slacks i j ≡ 0 → ⊥)
      at_pair = k.left.inside i j free.frees.on

      module _ (lefts' least' : List ℕ) (w : ℕ) (out : TakenFrom i j lefts lefts') (own : get_or lefts' i 0 ≡ w)
          (renewed : Renewed slacks i w 8 least least') where
        left_then : Left slacks n m lefts'
        left_then = record { inside = λ a l e. k.left.inside a l (fewer out a l e); long = out.long ∙ k.left.long }

        words_then : AllLeast slacks n lefts' least'
        words_then = record {
          each = λ g c hg hc. by_cases (ℕ_discrete g i)
              (λ z. rw (z, own) (renewed.own c hc))
              (λ d. subst⁻¹ (LeastCalls slacks (get_or lefts' g 0) g c) (renewed.others g c d hc)
              (subst⁻¹ (λ (v : ℕ). LeastCalls slacks v g c (cell least g c)) (out.others g d) (k.words.each g c hg hc)));
          long = renewed.long ∙ k.words.long;
        }

        waiting_then : (s : State) → ((a l : ℕ) → is_left lefts a l ≡ true → s.given a l ≡ 0)
            → (a l : ℕ) → is_left lefts' a l ≡ true → (give s (pair i j)).given a l ≡ 0
        waiting_then s was a l on =
            give_other s (pair i j) a l (λ z. true≢false (sym on ∙ gone out a l z)) ∙ was a l (fewer out a l on)

        kept_step : (state' : Taken) (units' : List ℕ) → count < total
            → ((s : State) → Shows P lefts s state units → Gives P (give s (pair i j)) state' units')
            → state'.sums.units ≤ state.sums.units + 4294967296 → state'.sums.lifted ≤ state.sums.lifted + 8589934592000000
            → state'.sums.idle ≡ 0 → length units' ≡ 64
            → Kept slacks n m total before (count + 1) lefts' least' state' units'
        unfolding give_all
        kept_step state' units' h step few_more cost_more none_idle long = record {
          taken = k.taken ++ (pair i j ∷ []);
          more = k.more - 1;
          loop = loop_same P (k.taken ++ (pair i j ∷ [])) (without (is_left lefts) (pair i j)) (is_left lefts') (k.more - 1) (gone_agrees out P)
              (loop_take P k.taken (is_left lefts) (k.more - 1) (some_more h) (pair i j)
              (next_of_pair slacks n m table.capped few lefts least k.left k.words i j free));
          whole = omega (arith, k.whole);
          left = left_then;
          words = words_then;
          shows = λ a b held.
              let s = greedy k.taken a b in
              let was = k.shows a b held in
              rw (give_all_append (start a b) k.taken (pair i j ∷ []))
              (record { gives = step s was; waiting = waiting_then s was.waiting });
          units_bound = omega (arith, k.units_bound);
          lifted_bound = omega (arith, k.lifted_bound);
          no_idle = none_idle;
          long = long;
        }

        -- the sums with the units that the pair is given
        abbrev sums_more : ℕ → Sums
        sums_more x = record { units = state.sums.units + x; lifted = state.sums.lifted + x * P.cost i j; idle = state.sums.idle }

        -- with room, which is stored and added
        pub kept_room : (remaining' : Remaining 8) (x : ℕ) → Gave state.remaining i j remaining' → x ≡ room_in state.remaining i j → count < total
            → x < 4294967296
            → Kept slacks n m total before (count + 1) lefts' least' (record { remaining = remaining'; sums = sums_more x }) (set units (i * m + j) x)
        kept_room remaining' x gave is h fits = kept_step _ _ h step (omega arith)
            (omega (arith, mul-le-mul {n₁ = x} {n₂ = 4294967296} {m₂ = cost_top} (omega arith) worth)) k.no_idle (length-set units (i * m + j) x ∙ k.long)
          where
            worth : P.cost i j ≤ cost_top
            worth = omega (arith, positive (slack_at slacks i j) at_pair.2)

            step : (s : State) → Shows P lefts s state units
                → Gives P (give s (pair i j)) (record { remaining = remaining'; sums = sums_more x }) (set units (i * m + j) x)
            step s was =
                let e : x ≡ room s (pair i j) = is ∙ holds_room was.gives.holds i j at_pair.0 at_pair.1 in
                record {
                  holds = gave n m s at_pair.0 at_pair.1 was.gives.holds;
                  written = rw e (written_put s.given was.gives.written i j (room s (pair i j)) at_pair.0 at_pair.1
                      (was.waiting i j free.frees.on));
                }

        -- without room nothing is given
        pub kept_no_room : room_in state.remaining i j ≡ 0 → count < total
            → Kept slacks n m total before (count + 1) lefts' least' state units
        kept_no_room empty h = kept_step state units h step (omega arith) (omega arith) k.no_idle k.long
          where
            step : (s : State) → Shows P lefts s state units → Gives P (give s (pair i j)) state units
            step s was =
                let p = pair i j in
                let no_room : room s p ≡ 0 = sym (holds_room was.gives.holds i j at_pair.0 at_pair.1) ∙ empty in
                let same : (give s p).given ≡ s.given =
                give_given s p (was.waiting i j free.frees.on) ∙ rw no_room (more_none s.given i j) in
                record {
                  holds = no_room_holds state.remaining.lots state.remaining.calls i j empty n m s at_pair.0 at_pair.1 was.gives.holds;
                  written = subst (λ (x : ℕ → ℕ → ℕ). Written P (replicate 64 0) x state.sums.units state.sums.lifted units) (sym same) was.gives.written;
                }
