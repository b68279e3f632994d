-- A reply is refused exactly by some causes, by the first that applies: closed under a test, `◌>>=◌` and steps in turn, so that the causes of a
-- reader are read off its steps, a line for each.
use mathlib.Core.Path.{◌≡◌, refl, sym}
use mathlib.Core.Logic.{◌⊎◌, inl, inr, ⊎_elim, ◌↔◌}
use mathlib.Core.Bool.{Bool, true, false}
use mathlib.Core.List.{List}
use Prim.Native.Nat.{ℕ, zero, suc, ◌+◌, ◌≤◌, ◌<◌}
use native.Mathlib.Omega.{arith}
use lib.Dec.{T}
use Rattle.transport.proofs.Laws.Tests.{below_suc}
use Rattle.specification.specs.Reply.{Reply, gives, refuses, ◌>>=◌, refuse_if}
use Rattle.specification.specs.Check.{in_turn}
use Rattle.specification.specs.Refused.{Causes, cause, None, ◌then◌, in_turn_of}
use Rattle.specification.proofs.Replies.{not_both}

abbrev pub Exactly : {A : Type 0} → Reply A → Causes → Type 0
Exactly r C = (k : ℕ) (vs : List ℕ) → (r ≡ refuses k vs) ↔ C k vs

-- causes that say the same
pub exactly_same : {A : Type 0} {r : Reply A} {C : Causes} (D : Causes) → Exactly r C → ((k : ℕ) (vs : List ℕ) → C k vs ↔ D k vs) → Exactly r D
exactly_same D exact same k vs = (λ e. (same k vs).0 ((exact k vs).0 e), λ d. (exact k vs).1 ((same k vs).1 d))

-- where a value is given, none applies
pub given_none : {A : Type 0} {r : Reply A} {C : Causes} {a : A} → Exactly r C → r ≡ gives a → None C
given_none exact e k vs c = not_both e ((exact k vs).1 c)

-- and a value is given where none applies
pub accepted_exactly : {C : Causes} (r : Reply (Unit {0})) → Exactly r C → (r ≡ gives tt) ↔ None C
accepted_exactly (gives tt) exact = (given_none exact, λ _. refl)
accepted_exactly (refuses k vs) exact = (given_none exact, λ none. absurd (none k vs ((exact k vs).0 refl)))

-- a reply of nothing but a value
pub exactly_nothing : {A : Type 0} {a : A} {C : Causes} → None C → Exactly (gives a) C
exactly_nothing none k vs = (λ e. absurd (not_both refl e), λ c. absurd (none k vs c))

-- a test
pub exactly_if : {H : Type 0} (b : Bool) (number : ℕ) (values : List ℕ) → T b ↔ H → Exactly (refuse_if b number values) (cause number values H)
exactly_if true number values means k vs = (λ e. (cc, cc, means.0 tt), λ (n, v, _). rw (n, v) refl)
exactly_if false number values means k vs = (λ e. absurd (not_both refl e), λ (_, _, h). absurd (means.1 h))

-- refusals of two types of reply
same_refusal : {A B : Type 0} {n k : ℕ} {ws vs : List ℕ} → ◌≡◌ {A = Reply A} (refuses n ws) (refuses k vs)
    → ◌≡◌ {A = Reply B} (refuses n ws) (refuses k vs)
same_refusal {A} {B} {n} {k} {ws} {vs} e = let number : n ≡ k = cc in let values : ws ≡ vs = cc in rw (number, values) refl

-- one step, and then the next
pub exactly_then : {A B : Type 0} {C : Causes} (D : Causes) (r : Reply A) (f : A → Reply B) → Exactly r C
    → ((a : A) → r ≡ gives a → Exactly (f a) D) → Exactly (r >>= f) (C then D)
exactly_then D (gives a) f first next k vs = (
  λ e. inr (given_none first refl, (next a refl k vs).0 e),
  λ c. ⊎_elim (λ now. absurd (not_both refl ((first k vs).1 now))) (λ (_, later). (next a refl k vs).1 later) c,
)
exactly_then D (refuses n ws) f first next k vs = (
  λ e. inl ((first k vs).0 (same_refusal e)),
  λ c. ⊎_elim (λ now. same_refusal ((first k vs).1 now)) (λ (none, _). absurd (none n ws ((first n ws).0 refl))) c,
)

-- a last step that only gives
pub exactly_gives : {A B : Type 0} {C : Causes} (r : Reply A) (f : A → B) → Exactly r C → Exactly (r >>= λ a. gives (f a)) C
exactly_gives (gives a) f exact k vs = (λ e. absurd (not_both refl e), λ c. absurd (not_both refl ((exact k vs).1 c)))
exactly_gives (refuses n ws) f exact k vs = (λ e. (exact k vs).0 (same_refusal e), λ c. same_refusal ((exact k vs).1 c))

-- steps in turn
module _ (C : ℕ → Causes) (f : ℕ → Reply (Unit {0})) where
  abbrev From : ℕ → ℕ → Causes
  From from left k vs = (i : ℕ) × (from ≤ i) × (i < from + left) × ((g : ℕ) → from ≤ g → g < i → None (C g)) × C i k vs

  exactly_from : (left from : ℕ) → ((i : ℕ) → i < from + left → Exactly (f i) (C i)) → Exactly (in_turn left from f) (From from left)
  unfolding in_turn
  exactly_from zero from each = exactly_nothing (λ k vs (i, low, high, _, _). omega arith)
  exactly_from (suc left) from each = exactly_same (From from (suc left))
      (exactly_then (From (suc from) left) (f from) _ (each from (omega arith))
      (λ _ _. exactly_from left (suc from) (λ i h. each i (omega arith))))
      (λ k vs. (to k vs, back k vs))
    where
      to : (k : ℕ) (vs : List ℕ) → ◌then◌ (C from) (From (suc from) left) k vs → From from (suc left) k vs
      to k vs (inl now) = (from, omega arith, omega arith, λ g low high. absurd (omega arith), now)
      to k vs (inr (none, (i, low, high, before, here))) = (
        i,
        omega arith,
        omega arith,
        λ g at below. ⊎_elim (λ (e : g ≡ from). rw e none) (λ later. before g (omega arith) below) (at_or_after g at),
        here,
      )
        where
          at_or_after : (g : ℕ) → from ≤ g → (g ≡ from) ⊎ (from < g)
          at_or_after g at = ⊎_elim (λ (e : from ≡ g). inl (sym e)) inr (below_suc (omega arith))

      back : (k : ℕ) (vs : List ℕ) → From from (suc left) k vs → ◌then◌ (C from) (From (suc from) left) k vs
      back k vs (i, low, high, before, here) = ⊎_elim
          (λ (e : from ≡ i). inl (rw e here))
          (λ later. inr (before from (omega arith) later, (i, omega arith, omega arith, λ g at below. before g (omega arith) below, here)))
          (below_suc (omega arith))

  pub exactly_turns : (n : ℕ) → ((i : ℕ) → i < n → Exactly (f i) (C i)) → Exactly (in_turn n 0 f) (in_turn_of n C)
  exactly_turns n each = exactly_same (in_turn_of n C) (exactly_from n 0 (λ i h. each i (omega arith)))
      (λ k vs. (
        λ (i, _, high, before, here). (i, omega arith, λ g below. before g (omega arith) below, here),
        λ (i, high, before, here). (i, omega arith, omega arith, λ g _ below. before g below, here),
      ))
