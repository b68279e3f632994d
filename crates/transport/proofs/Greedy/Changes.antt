-- The flow brought up to date after a change (document 02, request 8). What a run takes from a lot or a call is the sum of the entries
-- that it writes for its pairs; so what the earlier entries of GREEDY's flow leave of the amounts is what GREEDY itself has left when it
-- comes to the first pair of the changed lot or call. From there the update and a run are the same turns.
use mathlib.Core.Path.{◌≡◌, refl, sym, ◌∙◌, ap}
use mathlib.Core.Logic.{◌⊎◌, inl, inr, ⊎_elim, by_cases}
use mathlib.Core.Bool.{Bool, cond}
use mathlib.Core.List.{List, [], ◌∷◌, ◌++◌}
use Prim.Native.Nat.{ℕ, ◌+◌, ◌≤◌, ◌<◌}
use native.Mathlib.Nat.{eq-zero-or-pos}
use native.Mathlib.Omega.{arith}
use lib.Dec.{T, eqb, leb, eqb→eq, eqb_refl, leb→le, le→leb, nleb→lt, not_T}
use Rattle.transport.specs.Problem.{Problem}
use Rattle.transport.specs.Greedy.{Pair, State, start, room, give, give_all, greedy}
use Rattle.transport.specs.Order.{times}
use Rattle.transport.specs.Finder.{every}
use Rattle.transport.specs.Changes.{is_of_lot, is_of_call, earlier, onward, entry_sum, entries_fit, resumed, updated}
use Rattle.transport.proofs.Laws.Tests.{T?, T_true, and_says, and_of, same, same_of_eq}
use Rattle.transport.proofs.Laws.Searches.{every_says, every_of, every_fails}
use Rattle.transport.proofs.Orders.Places.{times_tail_le, times_head, times_append}
use Rattle.transport.proofs.Orders.Lists.{Lists, lists_fewer, lists_absent}
use Rattle.transport.proofs.Orders.Split.{split, entry_sum_same, entries_in, entries_out}
use Rattle.transport.proofs.Orders.Split.{lot_sum_entries, call_sum_entries}
use Rattle.transport.proofs.Greedy.Turns.{give_left, give_lacks, give_all_append, give_all_given}
use Rattle.transport.proofs.Greedy.Given.{Kept, kept_give_all}
use Rattle.transport.proofs.Greedy.Restart.{greedy_earlier_kept}

-- no pair stands twice
abbrev pub Once : List Pair → Type 0
Once S = (i j : ℕ) → times i j S ≤ 1

-- along a list, an amount is lowered by what the list's pairs that lower it are given
module _ (amount : State → ℕ) (lowers : Pair → Bool)
    (turn : (s : State) (p : Pair) → amount (give s p) + cond (lowers p) (room s p) 0 ≡ amount s) where
  give_all_lowers : (S : List Pair) (s : State) → Once S → amount (give_all s S) + entry_sum lowers (give_all s S).given S ≡ amount s
  unfolding give_all entry_sum
  give_all_lowers [] s once = omega arith
  give_all_lowers (p ∷ S) s once = omega (
    arith,
    give_all_lowers S (give s p) (λ i j. omega (arith, once i j, times_tail_le i j p S)),
    turn s p,
    ap (λ u. cond (lowers p) u 0) head,
  )
    where
      head : (give_all (give s p) S).given p.lot p.call ≡ room s p
      head = give_all_given S (give s p) p.lot p.call (omega (arith, once p.lot p.call, times_head p S))
          ∙ rw (T_true (same p.lot p.call p) (same_of_eq p.lot p.call p refl refl))

-- the earlier entries fit: 22 does not apply
module _ (P : Problem) (a b : ℕ → ℕ) (x : ℕ → ℕ → ℕ) (S : List Pair) where
  pub entries_fit_of : ((i : ℕ) → i < P.lots → entry_sum (is_of_lot i) x S ≤ a i) → ((j : ℕ) → j < P.calls → entry_sum (is_of_call j) x S ≤ b j)
      → T (entries_fit P a b x S)
  entries_fit_of lots calls = and_of (every P.lots _) (every P.calls _)
      (every_of P.lots _ (λ i h. le→leb (entry_sum (is_of_lot i) x S) (a i) (lots i h)))
      (every_of P.calls _ (λ j h. le→leb (entry_sum (is_of_call j) x S) (b j) (calls j h)))

  pub entries_fit_says : T (entries_fit P a b x S)
      → ((i : ℕ) → i < P.lots → entry_sum (is_of_lot i) x S ≤ a i) × ((j : ℕ) → j < P.calls → entry_sum (is_of_call j) x S ≤ b j)
  entries_fit_says fit =
      let (lots, calls) = and_says (every P.lots _) (every P.calls _) fit in (
        λ i h. leb→le (entry_sum (is_of_lot i) x S) (a i) (every_says P.lots _ lots i h),
        λ j h. leb→le (entry_sum (is_of_call j) x S) (b j) (every_says P.calls _ calls j h),
      )

  -- and where it applies, some lot's or some call's exceed its amount
  pub entries_fit_fails : (T (entries_fit P a b x S) → ⊥)
      → ((i : ℕ) × (i < P.lots) × (a i < entry_sum (is_of_lot i) x S)) ⊎ ((j : ℕ) × (j < P.calls) × (b j < entry_sum (is_of_call j) x S))
  entries_fit_fails never =
      let lots_fit : Bool = every P.lots (λ i. leb (entry_sum (is_of_lot i) x S) (a i)) in
      by_cases (T? lots_fit)
      (λ lots. let (j, h, above) = every_fails P.calls _ (λ calls. never (and_of lots_fit (every P.calls _) lots calls)) in
      inr (j, h, not_within (entry_sum (is_of_call j) x S) (b j) above))
      (λ lots. let (i, h, above) = every_fails P.lots _ lots in
      inl (i, h, not_within (entry_sum (is_of_lot i) x S) (a i) above))
    where
      not_within : (u v : ℕ) → (T (leb u v) → ⊥) → v < u
      not_within u v never = nleb→lt u v (not_T (leb u v) never)

-- amounts a b become a' b', which are the same at the pairs of `before`; and there x is GREEDY's flow by the amounts a b
module _ (S before after : List Pair) (joined : S ≡ before ++ after) (once : Once S) (a b a' b' : ℕ → ℕ) (x : ℕ → ℕ → ℕ)
    (unchanged : (i j : ℕ) → 0 < times i j before → (a' i ≡ a i) × (b' j ≡ b j))
    (so_far : (i j : ℕ) → 0 < times i j before → x i j ≡ (greedy S a b).given i j) where
  at_most_once : (i j : ℕ) → times i j before + times i j after ≤ 1
  at_most_once i j = omega (arith, once i j, ap (times i j) joined, times_append i j before after)

  -- it is GREEDY's by the new amounts too, when it comes to `after`
  still : (i j : ℕ) → 0 < times i j before → x i j ≡ (greedy before a' b').given i j
  still i j h =
      let absent : times i j after ≡ 0 = omega (arith, at_most_once i j) in
      so_far i j h
      ∙ ap (λ R. (greedy R a b).given i j) joined
      ∙ sym (kept absent)
      ∙ ap (λ s. s.given i j) (give_all_append (start a' b') before after)
      ∙ give_all_given after (greedy before a' b') i j absent
    where
      kept : times i j after ≡ 0 → (greedy (before ++ after) a' b').given i j ≡ (greedy (before ++ after) a b).given i j
      kept = greedy_earlier_kept (λ r. eqb (a' r) (a r)) (λ c. eqb (b' c) (b c)) a b a' b' before after
          (λ r c k. let (e, f) = unchanged r c k in (rw e (eqb_refl (a r)), rw f (eqb_refl (b c))))
          (λ r. eqb→eq (a' r) (a r))
          (λ c. eqb→eq (b' c) (b c))
          i j

  -- so what its entries take from an amount is what GREEDY takes
  module _ (amount : State → ℕ) (lowers : Pair → Bool)
      (turn : (s : State) (p : Pair) → amount (give s p) + cond (lowers p) (room s p) 0 ≡ amount s) where
    entries_take : amount (greedy before a' b') + entry_sum lowers x before ≡ amount (start a' b')
    entries_take = omega (
      arith,
      give_all_lowers amount lowers turn before (start a' b') (λ i j. omega (arith, at_most_once i j)),
      entry_sum_same lowers x (greedy before a' b').given before still,
    )

  lot_taken : (i : ℕ) → (greedy before a' b').left i + entry_sum (is_of_lot i) x before ≡ a' i
  lot_taken i = entries_take (λ s. s.left i) (is_of_lot i) (λ s p. give_left s p i)

  call_taken : (j : ℕ) → (greedy before a' b').lacks j + entry_sum (is_of_call j) x before ≡ b' j
  call_taken j = entries_take (λ s. s.lacks j) (is_of_call j) (λ s p. give_lacks s p j)

  resumed_is_greedy : resumed a' b' x before ≡ greedy before a' b'
  resumed_is_greedy = λ n. record {
    left = λ i. left_is i n;
    lacks = λ j. lacks_is j n;
    given = λ i j. given_is i j n;
  }
    where
      left_is : (i : ℕ) → (resumed a' b' x before).left i ≡ (greedy before a' b').left i
      left_is i = omega (arith, lot_taken i)

      lacks_is : (j : ℕ) → (resumed a' b' x before).lacks j ≡ (greedy before a' b').lacks j
      lacks_is j = omega (arith, call_taken j)

      given_is : (i j : ℕ) → (resumed a' b' x before).given i j ≡ (greedy before a' b').given i j
      given_is i j = ⊎_elim
          (λ (e : times i j before ≡ 0). entries_out x before i j e ∙ sym (give_all_given before (start a' b') i j e))
          (λ (h : 0 < times i j before). entries_in x before i j h ∙ still i j h)
          (eq-zero-or-pos (times i j before))

  continued_is_greedy : give_all (resumed a' b' x before) after ≡ greedy S a' b'
  continued_is_greedy =
      ap (λ s. give_all s after) resumed_is_greedy
      ∙ sym (give_all_append (start a' b') before after)
      ∙ ap (λ R. greedy R a' b') (sym joined)

  entries_fit_lem : (P : Problem) → T (entries_fit P a' b' x before)
  entries_fit_lem P = entries_fit_of P a' b' x before (λ i h. omega (arith, lot_taken i)) (λ j h. omega (arith, call_taken j))

-- the update of any flow, by any test and amounts: the earlier entries stand, and where they fit the amounts are kept
module _ {P : Problem} {S : List Pair} (lists : Lists P S) (test : Pair → Bool) (a b : ℕ → ℕ) (x : ℕ → ℕ → ℕ) where
  parts : (i j : ℕ) → times i j (earlier test S) + times i j (onward test S) ≡ times i j S
  parts i j = omega (arith, ap (times i j) (split test S), times_append i j (earlier test S) (onward test S))

  pub updated_earlier : (i j : ℕ) → 0 < times i j (earlier test S) → (updated test S a b x).given i j ≡ x i j
  updated_earlier i j h =
      give_all_given (onward test S) (resumed a b x (earlier test S)) i j (omega (arith, parts i j, lists.once i j))
      ∙ entries_in x (earlier test S) i j h

  pub updated_kept : T (entries_fit P a b x (earlier test S)) → Kept P a b [] (updated test S a b x)
  updated_kept fit = kept_give_all (onward test S) (resumed a b x (earlier test S)) after (record {
    eligible_only = λ i j n. entries_out x (earlier test S) i j (lists_absent before i j n);
    waiting = λ i j h. entries_out x (earlier test S) i j (omega (arith, parts i j, lists.once i j));
    lot_kept = λ i h. omega (arith, lot_sum_entries x before i, (entries_fit_says P a b x (earlier test S) fit).0 i h);
    call_kept = λ j h. omega (arith, call_sum_entries x before j, (entries_fit_says P a b x (earlier test S) fit).1 j h);
  })
    where
      before : Lists P (earlier test S)
      before = lists_fewer lists (λ i j. omega (arith, parts i j))

      after : Lists P (onward test S)
      after = lists_fewer lists (λ i j. omega (arith, parts i j))

module _ {P : Problem} {S : List Pair} (lists : Lists P S) where
  -- the update of GREEDY's flow, or of any that has its earlier entries, is GREEDY by the new amounts, and the entries fit
  pub updated_is_greedy : (test : Pair → Bool) (a b a' b' : ℕ → ℕ) (x : ℕ → ℕ → ℕ)
      → ((i j : ℕ) → 0 < times i j (earlier test S) → (a' i ≡ a i) × (b' j ≡ b j))
      → ((i j : ℕ) → 0 < times i j (earlier test S) → x i j ≡ (greedy S a b).given i j)
      → (updated test S a' b' x ≡ greedy S a' b') × T (entries_fit P a' b' x (earlier test S))
  updated_is_greedy test a b a' b' x unchanged so_far = (
    continued_is_greedy S (earlier test S) (onward test S) (split test S) lists.once a b a' b' x unchanged so_far,
    entries_fit_lem S (earlier test S) (onward test S) (split test S) lists.once a b a' b' x unchanged so_far P,
  )
