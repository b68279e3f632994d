-- The test of one quadruple, (i, j) with lot k and call l: its three answers, in any problem, and what each of them says of the book's own
-- bytes (document 02, request 3).
use mathlib.Core.Path.{◌≡◌, sym, ap, subst, fun_ext}
use mathlib.Core.Logic.{by_cases, ◌↔◌}
use mathlib.Core.Bool.{true, false}
use mathlib.Core.List.{List, [], ◌∷◌}
use Prim.Native.Nat.{ℕ, ◌+◌, ◌≤◌, ◌<◌}
use native.Mathlib.Decide.{dec_lt}
use native.Mathlib.Omega.{arith}
use borrow.Author.Tests.{lt-ltb, le-ltb}
use Rattle.transport.specs.Problem.{Problem, Eligible}
use Rattle.transport.specs.Greedy.{Pair, pair}
use Rattle.transport.specs.Signed.{SignedFit}
use Rattle.transport.proofs.Laws.Tests.{T?, T_true, T_false}
use Rattle.transport.proofs.Greedy.Signed.{signed_sum_le}
use Rattle.specification.specs.declared.Quadruple.{Quadruple}
use Rattle.specification.specs.declared.Quadruple.TheVariants.{Holds, NotEligible, TooHigh}
use Rattle.specification.specs.Reply.{Reply, gives, refuses, stated_quadruple}
use Rattle.specification.specs.Costs.{held_cost}
use Rattle.specification.specs.Book.{book_version, problem_of, costs_of}
use Rattle.specification.specs.Check.{check_quadruple}
use Rattle.specification.specs.Requests.{ThreeEligible, cost_in_book, SumsFit, Told, Request3}
use Rattle.specification.proofs.Replies.{not_both}
use Rattle.specification.proofs.Books.{book_read, book_lifts}
use Rattle.specification.proofs.Starts.{cost_held, cost_inside}

-- a cost where the book holds it
cost_in_book_lem : (book : List ℕ) (i j : ℕ) → cost_in_book book i j ≡ costs_of book i j
unfolding costs_of
cost_in_book_lem book i j = ap (held_cost (book_version book)) (cost_held book i j)

costs_in_book : (book : List ℕ) → cost_in_book book ≡ costs_of book
costs_in_book book = fun_ext (λ i. fun_ext (λ j. cost_in_book_lem book i j))

module _ (P : Problem) (p : Pair) (k l : ℕ) where
  pub quadruple_not_eligible : P.admits k l ≡ false → refuses 11 (p.lot ∷ p.call ∷ k ∷ l ∷ []) ≡ check_quadruple P p k l
  unfolding check_quadruple
  quadruple_not_eligible e = rw e

  pub quadruple_too_high : P.admits k l ≡ true
      → P.cost p.lot l + P.cost k p.call < P.cost p.lot p.call + P.cost k l
      → refuses 12 (p.lot ∷ p.call ∷ k ∷ l ∷ []) ≡ check_quadruple P p k l
  unfolding check_quadruple
  quadruple_too_high e h = simp (e, lt-ltb _ _ h)

  pub quadruple_holds : P.admits k l ≡ true
      → P.cost p.lot p.call + P.cost k l ≤ P.cost p.lot l + P.cost k p.call
      → gives tt ≡ check_quadruple P p k l
  unfolding check_quadruple
  quadruple_holds e h = simp (e, le-ltb _ _ h)

-- the answer at a quadruple of a book's lots and calls
module _ (book : List ℕ) (i j k l : ℕ) (three : ThreeEligible book i j k l) where
  abbrev P : Problem
  P = problem_of book

  abbrev answer : Reply (Unit {0})
  answer = check_quadruple P (pair i j) k l

  -- the sums of the costs that the book holds fit where those of its problem do
  sums_fit_iff : Eligible P k l → SumsFit book i j k l ↔ (P.cost i j + P.cost k l ≤ P.cost i l + P.cost k j)
  sums_fit_iff kl =
      let lifts = book_lifts (book_read book _ three.readable.1) in
      subst (λ c. SignedFit c i j k l ↔ (P.cost i j + P.cost k l ≤ P.cost i l + P.cost k j)) (sym (costs_in_book book))
      (signed_sum_le lifts i j k l three.own kl three.by_lot three.by_call)

  -- it is one of three, by whether (k, l) is eligible and by the costs that the book holds
  by_answer : {C : Type 0} → ((Eligible P k l → ⊥) → answer ≡ refuses 11 (i ∷ j ∷ k ∷ l ∷ []) → C)
      → (Eligible P k l → (SumsFit book i j k l → ⊥) → answer ≡ refuses 12 (i ∷ j ∷ k ∷ l ∷ []) → C)
      → (Eligible P k l → SumsFit book i j k l → answer ≡ gives tt → C) → C
  by_answer none high low =
      by_cases (T? (P.admits k l))
      (λ t. let e : Eligible P k l = (three.by_call.0, three.by_lot.1, t) in
      let admitted = T_true (P.admits k l) t in
      let (natural, signed) = sums_fit_iff e in
      by_cases (dec_lt (P.cost i l + P.cost k j) (P.cost i j + P.cost k l))
      (λ h. high e (λ fits. omega (arith, natural fits)) (sym (quadruple_too_high P (pair i j) k l admitted h)))
      (λ h. low e (signed (omega arith)) (sym (quadruple_holds P (pair i j) k l admitted (omega arith)))))
      (λ t. none (λ e. t e.2) (sym (quadruple_not_eligible P (pair i j) k l (T_false (P.admits k l) t))))

  told : (r : Quadruple) → stated_quadruple i j k l r ≡ answer → Told book i j k l r
  told Holds says = by_answer (λ _ e. absurd (not_both (sym says) e)) (λ _ _ e. absurd (not_both (sym says) e)) (λ kl fits _. (kl, fits))
  told NotEligible says = by_answer (λ never _. never)
      (λ _ _ e. let z : ◌≡◌ {A = ℕ} 11 12 = cc in absurd (omega arith)) (λ _ _ e. absurd (not_both e (sym says)))
  told TooHigh says = by_answer (λ _ e. let z : ◌≡◌ {A = ℕ} 11 12 = cc in absurd (omega arith)) (λ kl unfit _. (kl, unfit))
      (λ _ _ e. absurd (not_both e (sym says)))

pub request3 : Request3
request3 = record {
  told = told;
  in_book = λ book (n, reads) i j e. (cost_inside (book_read book n reads) i j e, cost_in_book_lem book i j);
}
