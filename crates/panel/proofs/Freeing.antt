-- What the words say is the problem's: a pair that is left is free by the words exactly where it can be taken, so the lowest such pair is the
-- next (`next_of_pair`, `none_of_nothing`). For each lot that still has its call, the gap there is to be the least of those at the calls left.
use mathlib.Core.Path.{◌≡◌, refl}
use mathlib.Core.Logic.{by_cases}
use mathlib.Core.Bool.{true}
use mathlib.Core.List.{List}
use mathlib.Core.Option.{some, none}
use Prim.Native.Nat.{ℕ, suc, ◌*◌, ◌+◌, ◌-◌, ◌≤◌, ◌<◌}
use native.Mathlib.Decide.{ℕ_discrete}
use native.Mathlib.Omega.{arith}
use borrow.Author.Tests.{lt-ltb, ne_eqb}
use Rattle.transport.specs.Problem.{Problem}
use Rattle.transport.specs.Greedy.{pair}
use Rattle.transport.specs.Finder.{next}
use Rattle.transport.proofs.Laws.Tests.{T_true, T_of}
use Rattle.transport.proofs.Laws.Sets.{Remains}
use Rattle.transport.proofs.Orders.Monge.{Fits}
use Rattle.transport.proofs.Finder.Free.{Takeable, next_is}
use Rattle.specification.specs.Costs.{cost_top}
use Rattle.slacks.specs.Slacks.{Capped}
use Rattle.words.specs.Lefts.{is_left}
use Rattle.panel_table.specs.Filling.{slack_at}
use Rattle.panel_table.specs.Gaps.{gap_of}
use Rattle.panel.specs.Search.{problem_in, AllLeast, Frees, FirstFree, Left}

module _ (slacks : List ℕ) (n m : ℕ) (capped : Capped slacks) where
  abbrev P : Problem
  P = problem_in slacks n m

  gap_none : (i k l : ℕ) → slack_at slacks k l ≡ 0 → gap_of slacks i k l ≡ 0
  gap_none i k l e = rw e refl

  gap_some : (i k l : ℕ) → (slack_at slacks k l ≡ 0 → ⊥) → gap_of slacks i k l ≡ suc cost_top - slack_at slacks i l + slack_at slacks k l
  gap_some i k l h = rw (ne_eqb (slack_at slacks k l) 0 h) refl

  -- (i, j) fits with (k, l) exactly where its gap over lot k is no more than the one at l
  module _ (i j k l : ℕ) (hk : k < n) (hl : l < m) (kj : slack_at slacks k j ≡ 0 → ⊥) where
    fits_of : gap_of slacks i k j ≤ gap_of slacks i k l → Fits P i j k l
    fits_of le = by_cases (ℕ_discrete (slack_at slacks k l) 0)
        (λ e. absurd (kj (omega (arith, le, gap_none i k l e, gap_some i k j kj))))
        (λ h. record {
          admitted = rw (lt-ltb k n hk, lt-ltb l m hl, ne_eqb (slack_at slacks k l) 0 h) tt;
          no_dearer = omega (arith, le, gap_some i k l h, gap_some i k j kj, capped (8 * j + i), capped (8 * l + k), capped (8 * l + i), capped (8 * j + k));
        })

    gap_of_lem : Fits P i j k l → gap_of slacks i k j ≤ gap_of slacks i k l
    gap_of_lem f = by_cases (ℕ_discrete (slack_at slacks k l) 0)
        (λ e. absurd (rw (lt-ltb k n hk, lt-ltb l m hl, e) at f.admitted))
        (λ h. omega (arith, f.no_dearer, gap_some i k l h, gap_some i k j kj, capped (8 * j + i), capped (8 * l + k), capped (8 * l + i), capped (8 * j + k)))

  module _ (few : (n ≤ 8) × (m ≤ 8)) (lefts least : List ℕ) (left : Left slacks n m lefts) (words : AllLeast slacks n lefts least) where
    in_problem : (i j : ℕ) → is_left lefts i j ≡ true → Remains P (is_left lefts) i j
    in_problem i j e = let (hi, hj, _) = left.inside i j e in (hi, hj, T_of e)

    is_left_lem : {i j : ℕ} → Remains P (is_left lefts) i j → is_left lefts i j ≡ true
    is_left_lem {i} {j} r = T_true (is_left lefts i j) r.2

    takeable_of : (i j : ℕ) → Frees lefts least 8 i j → Takeable P (is_left lefts) i j
    takeable_of i j f = record {
      remains = in_problem i j f.on;
      unhindered = λ k l il kj.
          let k_in : k < 8 = omega (arith, kj.0, few.0) in
          let j_in : j < 8 = omega (arith, kj.1, few.1) in
          let l_in : l < 8 = omega (arith, il.1, few.1) in
          fits_of i j k l kj.0 il.1 (left.inside k j (is_left_lem kj)).2
          ((words.each i k il.0 k_in).least j l j_in l_in f.on (is_left_lem il) (f.passed k k_in (is_left_lem kj)));
    }

    frees_of : (i j : ℕ) → Takeable P (is_left lefts) i j → Frees lefts least 8 i j
    frees_of i j t = record {
      on = is_left_lem t.remains;
      passed = λ k hk held.
          let kj = in_problem k j held in
          (words.each i k t.remains.0 hk).all j (omega (arith, t.remains.1, few.1)) (is_left_lem t.remains) (λ h hh on.
          let ih = in_problem i h on in
          gap_of_lem i j k h kj.0 ih.1 (left.inside k j held).2 (t.unhindered k h ih kj));
    }

    pub next_of_pair : (i j : ℕ) → FirstFree lefts least i j → next P (is_left lefts) ≡ some (pair i j)
    next_of_pair i j f = next_is P (is_left lefts) (some (pair i j)) (record {
      taken = takeable_of i j f.frees;
      no_lower_lot = λ a l lt t. f.no_lower_lot a l lt (frees_of a l t);
      no_lower_call = λ l lt t. f.no_lower_call l lt (frees_of i l t);
    })

    pub none_of_nothing : ((i j : ℕ) → i < n → Frees lefts least 8 i j → ⊥) → next P (is_left lefts) ≡ none
    none_of_nothing h = next_is P (is_left lefts) none (λ i j t. h i j t.remains.0 (frees_of i j t))
