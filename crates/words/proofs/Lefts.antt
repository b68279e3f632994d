-- A pair taken out of a list of words: it is not left, and what else is left is what was.
use mathlib.Core.Path.{◌≡◌, sym, ◌∙◌, ap, subst⁻¹}
use mathlib.Core.Logic.{◌⊎◌, inl, inr, ⊎_elim, by_cases}
use mathlib.Core.Bool.{true, false, and-true, and-false, true≢false}
use mathlib.Core.List.{List}
use Prim.Native.Nat.{ℕ, ◌<◌}
use native.Mathlib.Decide.{ℕ_discrete}
use lib.ListN.{length, set, length-set}
use lib.Seq.{get_or-set_same, get_or-set_other}
use Rattle.transport.specs.Problem.{Problem}
use Rattle.transport.specs.Greedy.{pair}
use Rattle.transport.specs.Finder.{without}
use Rattle.transport.proofs.Laws.Tests.{T_true, T_false, same, same→eq, same_of_eq}
use Rattle.transport.proofs.Laws.Sets.{Agree}
use Rattle.specification.specs.Book.{bit}
use Rattle.words.specs.Lefts.{is_left, TakenFrom}

-- the pair or another
pub same_pair : (a l i j : ℕ) → ((a ≡ i) × (l ≡ j)) ⊎ ((a ≡ i) × (l ≡ j) → ⊥)
same_pair a l i j = by_cases (ℕ_discrete a i)
    (λ y. by_cases (ℕ_discrete l j) (λ z. inl (y, z)) (λ z. inr (λ both. z both.1)))
    (λ y. inr (λ both. y both.0))

-- a store of the lot's word without the call
pub taken_set : {i j : ℕ} (w : ℕ) (before : List ℕ) → i < length before → bit w j ≡ false → ((l : ℕ) → (l ≡ j → ⊥) → bit w l ≡ is_left before i l)
    → TakenFrom i j before (set before i w)
taken_set {i} w before h out kept = let own = get_or-set_same before i w 0 h in
    record { out = rw own out; kept = λ l d. rw own (kept l d); others = λ k d. get_or-set_other before i k w 0 d; long = length-set before i w }

module _ {i j : ℕ} {before after : List ℕ} (q : TakenFrom i j before after) where
  pub gone : (a l : ℕ) → (a ≡ i) × (l ≡ j) → is_left after a l ≡ false
  gone a l (y, z) = rw (y, z) q.out

  pub stays : (a l : ℕ) → ((a ≡ i) × (l ≡ j) → ⊥) → is_left after a l ≡ is_left before a l
  stays a l d = by_cases (ℕ_discrete a i)
      (λ y. subst⁻¹ (λ (g : ℕ). is_left after g l ≡ is_left before g l) y (q.kept l (λ z. d (y, z))))
      (λ y. ap (λ (w : ℕ). bit w l) (q.others a y))

  pub fewer : (a l : ℕ) → is_left after a l ≡ true → is_left before a l ≡ true
  fewer a l e = ⊎_elim (λ z. absurd (true≢false (sym e ∙ gone a l z))) (λ d. sym (stays a l d) ∙ e) (same_pair a l i j)

  -- it is the finder's set without the pair
  pub gone_agrees : (P : Problem) → Agree P (without (is_left before) (pair i j)) (is_left after)
  gone_agrees P a l ha hl = ⊎_elim
      (λ z. rw (T_true (same a l (pair i j)) (same_of_eq a l (pair i j) z.0 z.1)) (and-false (is_left before a l) ∙ sym (gone a l z)))
      (λ d. rw (T_false (same a l (pair i j)) (λ t. d (same→eq a l (pair i j) t))) (and-true (is_left before a l) ∙ sym (stays a l d)))
      (same_pair a l i j)
