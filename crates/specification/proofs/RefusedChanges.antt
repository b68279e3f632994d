-- A change of one amount (document 02, request 8) is refused exactly by its causes, by the first that applies; each is a line of the table or 22.
use mathlib.Core.Path.{◌≡◌, refl, sym}
use mathlib.Core.Logic.{inl, inr, ⊎_elim, by_cases, ◌↔◌}
use mathlib.Core.Bool.{Bool, not}
use mathlib.Core.List.{List, [], ◌∷◌}
use Prim.Native.Nat.{ℕ, ◌≤◌}
use native.Mathlib.Omega.{arith}
use lib.Dec.{T, ltb, nltb→le, ltb→lt, T_not, not_T}
use Rattle.transport.specs.Changes.{Change, lot_takes, call_takes}
use Rattle.transport.proofs.Laws.Tests.{T?}
use Rattle.transport.proofs.Greedy.Changes.{entries_fit_says, entries_fit_fails}
use Rattle.specification.specs.declared.Refusal.TheVariants as refusal
use Rattle.specification.specs.Reply.{Reply, gives, refuses, refuse_if, Outcome}
use Rattle.specification.specs.Book.{book_lots, book_calls, problem_of}
use Rattle.specification.specs.OrderFile.{order_pairs}
use Rattle.specification.specs.Change.{is_in_book, amounts_with, earlier_fit, change}
use Rattle.specification.specs.Entry.{reads_amounts, checks}
use Rattle.specification.specs.Refused.{Causes, None, order_numbers, amounts_numbers, among}
use Rattle.specification.specs.DayChanges.{Outside, Exceeding, change_causes, change_numbers, InTableOr22}
use Rattle.specification.proofs.Causes.{Exactly, given_none, exactly_if, exactly_then, exactly_gives}
use Rattle.specification.proofs.Refused.{exactly_amounts}
use Rattle.specification.proofs.RefusedOrders.{exactly_order}
use Rattle.specification.proofs.RefusedRuns.{exactly_flow}
use Rattle.specification.proofs.OwnLines.{all_among, own_more, own_numbers}

not_below_iff : (m n : ℕ) → T (not (ltb m n)) ↔ (n ≤ m)
not_below_iff m n = (nltb→le m n, λ h. not_T (ltb m n) (λ t. omega (arith, ltb→lt m n t)))

-- where a lot or call is outside the book
outside_iff : (book : List ℕ) (c : Change) → T (not (is_in_book book c)) ↔ Outside book c
outside_iff book (lot_takes i v) = not_below_iff i (book_lots book)
outside_iff book (call_takes j v) = not_below_iff j (book_calls book)

-- where the earlier entries exceed an amount
exceeding_iff : (book order amounts flow : List ℕ) (c : Change)
    → T (not (earlier_fit book (order_pairs order) amounts flow c)) ↔ Exceeding book order amounts flow c
unfolding problem_of
exceeding_iff book order amounts flow c =
    let fits : Bool = earlier_fit book (order_pairs order) amounts flow c in (
      λ t. entries_fit_fails (problem_of book) _ _ _ _ (T_not fits t),
      λ some. not_T fits (λ fit.
          let (lots, calls) = entries_fit_says (problem_of book) _ _ _ _ fit in
          ⊎_elim (λ (i, h, above). omega (arith, lots i h)) (λ (j, h, above). omega (arith, calls j h)) some),
    )

-- a reply is given exactly where none of its causes applies
given_exactly : {A : Type 0} {C : Causes} (r : Reply A) → Exactly r C → ((a : A) × (r ≡ gives a)) ↔ None C
given_exactly (gives a) exact = (λ (_, e). given_none exact e, λ _. (a, refl))
given_exactly (refuses k vs) exact = (λ (_, e). given_none exact e, λ none. absurd (none k vs ((exact k vs).0 refl)))

module _ (book order amounts flow : List ℕ) (c : Change) where
  pub exactly_change : Exactly (change book order amounts flow c) (change_causes book order amounts flow c)
  unfolding change
  exactly_change =
      let fits : Bool = earlier_fit book (order_pairs order) (amounts_with book amounts c) flow c in
      exactly_then _ _ _ (exactly_order book order) (λ _ _.
      exactly_then _ _ _ (exactly_if (not (is_in_book book c)) 9 (0 ∷ []) (outside_iff book c)) (λ _ _.
      exactly_then _ _ _ (exactly_amounts book (amounts_with book amounts c)) (λ _ _.
      exactly_then _ _ _ (exactly_flow book flow) (λ _ _.
      exactly_gives (refuse_if (not fits) 22 []) _
      (exactly_if (not fits) 22 [] (exceeding_iff book order (amounts_with book amounts c) flow c))))))

  pub accepted_change : ((o : Outcome) × (change book order amounts flow c ≡ gives o)) ↔ None (change_causes book order amounts flow c)
  accepted_change = given_exactly (change book order amounts flow c) exactly_change

  -- its causes are lines of the table or 22, by its own numbers
  numbered : (k : ℕ) (vs : List ℕ) → change_causes book order amounts flow c k vs → InTableOr22 k vs × T (among k change_numbers)
  unfolding among all_among
  numbered k vs (inl cause) =
      let (line, number) = (own_more {ns = order_numbers} {ms = change_numbers} tt (own_numbers (checks book order))).by k vs cause in
      (inl line, number)
  numbered k vs (inr (_, inl (number, values, _))) = (inl (refusal.PairNotEligible 0, sym number, sym values), rw number tt)
  numbered k vs (inr (_, inr (_, inl cause))) =
      let (line, number) =
      (own_more {ns = amounts_numbers} {ms = change_numbers} tt (own_numbers (reads_amounts book (amounts_with book amounts c)))).by k vs cause in
      (inl line, number)
  numbered k vs (inr (_, inr (_, inr (_, inl (number, values, _))))) = (inl (refusal.BufferTooShort, sym number, sym values), rw number tt)
  numbered k vs (inr (_, inr (_, inr (_, inr (_, (number, values, _)))))) = (inr (number, values), rw number tt)

  pub refused_numbered : (k : ℕ) (vs : List ℕ) → change book order amounts flow c ≡ refuses k vs → InTableOr22 k vs × T (among k change_numbers)
  refused_numbered k vs e = numbered k vs ((exactly_change k vs).0 e)

  -- what is refused by 22: of a lot or call of the book, since the earlier entries exceed an amount
  by_22 : {vs : List ℕ} → change_causes book order amounts flow c 22 vs
      → T (is_in_book book c) × Exceeding book order (amounts_with book amounts c) flow c
  unfolding among
  by_22 (inl cause) = absurd ((own_numbers (checks book order)).by _ _ cause).1
  by_22 (inr (_, inl (number, _, _))) = absurd (omega arith)
  by_22 (inr (_, inr (_, inl cause))) = absurd ((own_numbers (reads_amounts book (amounts_with book amounts c))).by _ _ cause).1
  by_22 (inr (_, inr (_, inr (_, inl (number, _, _))))) = absurd (omega arith)
  by_22 (inr (_, inr (inside, inr (_, inr (_, (_, _, exceeding)))))) = (
    by_cases (T? (is_in_book book c)) (λ t. t)
        (λ never. absurd (inside 9 (0 ∷ []) (refl, refl, (outside_iff book c).0 (not_T (is_in_book book c) never)))),
    exceeding,
  )

  pub refused_by_22 : (vs : List ℕ) → change book order amounts flow c ≡ refuses 22 vs
      → T (is_in_book book c) × Exceeding book order (amounts_with book amounts c) flow c
  refused_by_22 vs e = by_22 ((exactly_change 22 vs).0 e)
