-- The enlarged problem of the run with an idle call, as the finder meets it: problems that agree have enlarged problems that agree, and
-- the idle call adds a pair for each lot.
use mathlib.Core.Path.{◌≡◌, refl, sym, ◌∙◌, ap, ap₂}
use mathlib.Core.Logic.{⊎_elim, by_cases}
use mathlib.Core.Bool.{◌||◌}
use Prim.Native.Nat.{ℕ, suc, ◌+◌, ◌<◌}
use native.Mathlib.Decide.{ℕ_discrete}
use native.Mathlib.Omega.{arith}
use lib.Dec.{eqb}
use Rattle.transport.specs.Problem.{Problem, Eligible, sum}
use Rattle.transport.specs.Greedy.{put}
use Rattle.transport.specs.Finder.{size}
use Rattle.transport.specs.Idle.{with_idle}
use Rattle.transport.proofs.Laws.Tests.{below_suc, eqb_true, eqb_false, counted_of}
use Rattle.transport.proofs.Laws.Sums.{sum_cong, sum_sucs, put_same, put_other}
use Rattle.transport.proofs.Laws.Sets.{ones}
use Rattle.transport.proofs.Greedy.Idle.{idle_pair, pair_real}
use Rattle.transport.proofs.Finder.Same.{Same}

pub idle_same : {P Q : Problem} (s : Same P Q) (b c : ℕ) → b + s.more ≡ c + s.more' → Same (with_idle b P) (with_idle c Q)
idle_same {P} {Q} s b c same =
    record { lots = s.lots; calls = ap suc s.calls; admits = admits; more = s.more; more' = s.more'; cost = cost }
  where
    admits : (i j : ℕ) → i < P.lots → j < suc P.calls → (with_idle b P).admits i j ≡ (with_idle c Q).admits i j
    admits i j hi hj = ⊎_elim
        (λ (e : j ≡ P.calls). rw (ap (eqb j) (sym e) ∙ eqb_true j, ap (eqb j) (sym (e ∙ s.calls)) ∙ eqb_true j) refl)
        (λ (l : j < P.calls). ap₂ ◌||◌ (ap (eqb j) s.calls) (s.admits i j hi l))
        (below_suc hj)

    cost : (i j : ℕ) → Eligible (with_idle b P) i j → (with_idle b P).cost i j + s.more ≡ (with_idle c Q).cost i j + s.more'
    cost i j e = by_cases (ℕ_discrete j P.calls)
        (λ (own : j ≡ P.calls). ap (λ n. n + s.more) (ap (put (P.cost i) P.calls b) own ∙ put_same (P.cost i) P.calls b)
        ∙ same
        ∙ sym (ap (λ n. n + s.more') (ap (put (Q.cost i) Q.calls c) (own ∙ s.calls) ∙ put_same (Q.cost i) Q.calls c)))
        (λ ne. ap (λ n. n + s.more) (put_other (P.cost i) P.calls b j ne)
        ∙ s.cost i j (pair_real b P i j ne e)
        ∙ sym (ap (λ n. n + s.more') (put_other (Q.cost i) Q.calls c j (λ q. ne (q ∙ sym s.calls)))))

pub idle_size : (base : ℕ) (P : Problem) → size (with_idle base P) ≡ size P + P.lots
unfolding sum
idle_size base P = sum_sucs P.lots _ _ (λ i hi. omega (
  arith,
  counted_of ((with_idle base P).admits i P.calls) 1 (idle_pair base P i hi).2,
  sum_cong P.calls (ones (with_idle base P).admits i) (ones P.admits i)
      (λ j h. rw (eqb_false j P.calls (λ e. omega arith))),
))
