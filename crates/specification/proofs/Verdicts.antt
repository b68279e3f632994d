-- What a verdict says of GREEDY's last state: Full that nothing is left, Covered that no call lacks anything and some lot has units left, Short
-- that some call lacks units.
use mathlib.Core.Path.{◌≡◌, refl, sym}
use mathlib.Core.Logic.Iff
use mathlib.Core.Logic.{◌⊎◌, inl, inr, ⊎_elim, ◌↔◌}
use mathlib.Core.Bool.{Bool, true, false}
use Prim.Native.Nat.{ℕ, zero, suc, ◌≤◌, ◌<◌}
use native.Mathlib.Omega.{arith}
use lib.Dec.{T, eqb, eqb→eq}
use lib.IntN.{ℤ}
use lib.Signed.{◌≤ℤ◌}
use Rattle.transport.specs.Problem.{Problem, units, Allocation, Meets, MeetsCalls}
use Rattle.transport.specs.Greedy.{State}
use Rattle.transport.specs.Signed.{signed_cost}
use Rattle.transport.proofs.Laws.Searches.{every_says, every_of, every_fails}
use Rattle.transport.proofs.Greedy.Given.{Spent, NoneLacks}
use Rattle.specification.specs.Reply.{full, covered, short}
use Rattle.specification.specs.Run.{all_zero, verdict_by, verdict_of, outcome}
use Rattle.specification.specs.Demands.{Best}

-- no two verdicts are the same
full_not_covered : full ≡ covered → ⊥
full_not_covered e = let z : ◌≡◌ {A = ℕ} 0 1 = cc in omega arith

pub short_not_full : short ≡ full → ⊥
short_not_full e = let z : ◌≡◌ {A = ℕ} 0 1 = cc in omega arith

pub short_not_covered : short ≡ covered → ⊥
short_not_covered e = let z : ◌≡◌ {A = ℕ} 0 1 = cc in omega arith

-- the verdict by its two tests, of the calls and of the lots
record ByTests (calls lots : Bool) : Type 0 where
  full_is : (verdict_by calls lots ≡ full) ↔ (T calls × T lots)
  covered_is : (verdict_by calls lots ≡ covered) ↔ (T calls × (T lots → ⊥))
  short_is : (verdict_by calls lots ≡ short) ↔ (T calls → ⊥)
  met_is : ((verdict_by calls lots ≡ full) ⊎ (verdict_by calls lots ≡ covered)) ↔ T calls

by_tests : (calls lots : Bool) → ByTests calls lots
by_tests true true = record {
  full_is = (λ e. (tt, tt), λ t. refl);
  covered_is = (λ e. absurd (full_not_covered e), λ (_, n). absurd (n tt));
  short_is = (λ e. absurd (short_not_full (sym e)), λ n. absurd (n tt));
  met_is = (λ e. tt, λ t. inl refl);
}
by_tests true false = record {
  full_is = (λ e. absurd (full_not_covered (sym e)), λ (_, t). absurd t);
  covered_is = (λ e. (tt, λ t. t), λ t. refl);
  short_is = (λ e. absurd (short_not_covered (sym e)), λ n. absurd (n tt));
  met_is = (λ e. tt, λ t. inr refl);
}
by_tests false lots = record {
  full_is = (λ e. absurd (short_not_full e), λ (t, _). absurd t);
  covered_is = (λ e. absurd (short_not_covered e), λ (t, _). absurd t);
  short_is = (λ e t. t, λ n. refl);
  met_is = (⊎_elim (λ e. absurd (short_not_full e)) (λ e. absurd (short_not_covered e)), λ t. absurd t);
}

all_zero_iff : (n : ℕ) (f : ℕ → ℕ) → T (all_zero n f) ↔ ((k : ℕ) → k < n → f k ≡ 0)
all_zero_iff n f = (λ t k h. eqb→eq (f k) 0 (every_says n _ t k h), λ zero. every_of n _ (λ k h. rw (zero k h) tt))

-- where not all are 0, one is above 0
not_all_zero_iff : (n : ℕ) (f : ℕ → ℕ) → (T (all_zero n f) → ⊥) ↔ ((k : ℕ) × (k < n) × (0 < f k))
not_all_zero_iff n f = (
  λ none. let (k, h, fails) = every_fails n _ none in (k, h, positive (f k) fails),
  λ (k, h, above) t. omega (arith, (all_zero_iff n f).0 t k h),
)
  where
    positive : (v : ℕ) → (T (eqb v 0) → ⊥) → 0 < v
    positive zero above = absurd (above tt)
    positive (suc v) above = omega arith

module _ (P : Problem) (s : State) where
  tests : ByTests (all_zero P.calls s.lacks) (all_zero P.lots s.left)
  tests = by_tests (all_zero P.calls s.lacks) (all_zero P.lots s.left)

  pub full_iff_spent : (verdict_of P s ≡ full) ↔ Spent P s
  full_iff_spent =
      let calls = all_zero_iff P.calls s.lacks in
      let lots = all_zero_iff P.lots s.left in (
        λ e. let (t, u) = tests.full_is.0 e in record { lot_spent = lots.0 u; call_spent = calls.0 t },
        λ spent. tests.full_is.1 (calls.1 spent.call_spent, lots.1 spent.lot_spent),
      )

  pub covered_iff : (verdict_of P s ≡ covered) ↔ (NoneLacks P s × ((i : ℕ) × (i < P.lots) × (0 < s.left i)))
  covered_iff =
      let calls = all_zero_iff P.calls s.lacks in
      let lots = not_all_zero_iff P.lots s.left in (
        λ e. let (t, u) = tests.covered_is.0 e in (calls.0 t, lots.0 u),
        λ (none, some). tests.covered_is.1 (calls.1 none, lots.1 some),
      )

  pub short_iff : (verdict_of P s ≡ short) ↔ ((j : ℕ) × (j < P.calls) × (0 < s.lacks j))
  short_iff = Iff.trans tests.short_is (not_all_zero_iff P.calls s.lacks)

  met_iff_none_lacks : ((verdict_of P s ≡ full) ⊎ (verdict_of P s ≡ covered)) ↔ NoneLacks P s
  met_iff_none_lacks = Iff.trans tests.met_is (all_zero_iff P.calls s.lacks)

-- so the verdict says of the allocations what the state that leaves nothing, or lacks nothing, does
pub best_of : (P : Problem) (c : ℕ → ℕ → ℤ) (a b : ℕ → ℕ) (s : State)
    → Spent P s ↔ ((x : ℕ → ℕ → ℕ) × Meets P a b x) → NoneLacks P s ↔ ((x : ℕ → ℕ → ℕ) × MeetsCalls P a b x)
    → ((x : ℕ → ℕ → ℕ) → Meets P a b x → signed_cost P c s.given ≤ℤ signed_cost P c x)
    → ((x : ℕ → ℕ → ℕ) → Allocation P a b x → units P x ≤ units P s.given) → Best P c a b (outcome P c s)
best_of P c a b s spends covers least most = record {
  full_iff = Iff.trans (full_iff_spent P s) spends;
  met_iff = Iff.trans (met_iff_none_lacks P s) covers;
  least_cost = least;
  greatest_units = most;
}
