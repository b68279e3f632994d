-- Laws of the idle call: a table of slacks with the slack of a cost of 0 for each lot at call m states the enlarged problem, and the lots' words
-- with call m are those of that table.
use Rattle.std.proofs.Common.{◌≡◌, ℕ, suc, ◌+◌, ◌-◌, ◌*◌, ◌<◌, ◌≤◌, true, List, length, get_or, set, sym, refl, ap, ◌∙◌, ⊎_elim, add-one, arith, length-set, get_or-set_other, get_or-set_same, rules, below_more}
use mathlib.Core.Logic.{by_cases}
use native.Mathlib.Decide.{ℕ_discrete, dec_lt}
use Rattle.transport.specs.Idle.{with_idle}
use Rattle.transport.proofs.Laws.Tests.{below_suc, eqb_true, eqb_false}
use Rattle.transport.proofs.Laws.Sums.{put_is}
use Rattle.transport.proofs.Finder.Same.{Same}
use Rattle.specification.specs.Costs.{cost_limit, cost_top}
use Rattle.words.specs.Words.{IncludingIf}
use Rattle.book.specs.Table.{entry}
use Rattle.slacks.specs.Slacks.{by_slacks, Capped, Slacks, Eligible}
use Rattle.slacks.specs.Filling.{Filled}
use Rattle.slacks.proofs.BySlacks.{admits_is, capped_set}
use Rattle.slacks.proofs.Entering.{filled_none, filled_more}

-- the lots before lot i have call m: the slack of a cost of 0, and a place in their words
pub record Idled (m i : ℕ) (before after words words' : List ℕ) : Type 0 where
  pub own : (k : ℕ) → k < i → entry after k m ≡ suc cost_limit
  pub others : (k j : ℕ) → j < 32 → (j ≡ m → ⊥) → entry after k j ≡ entry before k j
  pub capped : Capped after
  pub long : length after ≡ 1024
  pub included : Filled (λ k word. IncludingIf true (get_or words k 0) m word) i words words'

module _ {before words : List ℕ} {n m : ℕ} (s : Slacks before n m) (w : Eligible before n m words) (few : m < 32) where
  pub idled_none : Idled m 0 before before words words
  idled_none = record { own = λ k h. absurd (omega arith); others = λ k j h ne. refl; capped = s.capped; long = s.long; included = filled_none refl }

  module _ {i : ℕ} {after words' : List ℕ} (d : Idled m i before after words words') where
    pub idled_more : (v : ℕ) → i < n → IncludingIf true (get_or words' i 0) m v
        → Idled m (i + 1) before (set after (32 * i + m) (suc cost_limit)) words (set words' i v)
    idled_more v hi inc = let at = 32 * i + m in let inside : at < length after = omega (arith, s.lots_few, d.long) in record {
      own = below_more _ _
          (λ k l. get_or-set_other after at (32 * k + m) (suc cost_limit) 0 (λ e. omega arith) ∙ d.own k l)
          (get_or-set_same after at (suc cost_limit) 0 inside);
      others = λ k j h ne. get_or-set_other after at (32 * k + j) (suc cost_limit) 0 (λ e. ne (omega arith)) ∙ d.others k j h ne;
      capped = capped_set after at (suc cost_limit) d.capped (omega arith) inside;
      long = length-set after at (suc cost_limit) ∙ d.long;
      included = filled_more d.included v (omega (arith, s.lots_few, w.long)) (rw (d.included.ahead i (omega arith)) at inc);
    }

  module _ {after words' : List ℕ} (d : Idled m n before after words words') where
    pub idle_slacks : Slacks after n (m + 1)
    idle_slacks =
        let beyond : (i j : ℕ) → i < n → m + 1 ≤ j → j < 32 → entry after i j ≡ 0 = λ i j hi hm hj. d.others i j hj (λ e. omega arith) ∙ s.beyond i j hi (omega arith) hj in
        search rules

    pub idle_words : Eligible after n (m + 1) words'
    idle_words = record {
      each = λ i j hi hj. let inc = d.included.passed i hi in by_cases (ℕ_discrete j m)
          (λ e. rw (e, d.own i hi) inc.own)
          (λ ne. rw (d.others i j (omega arith) ne) (inc.others j ne ∙ w.each i j hi (omega arith)));
      inside = λ i j t. by_cases (dec_lt i n)
          (λ hi. (hi, by_cases (ℕ_discrete j m) (λ e. omega arith) (λ ne. omega (arith, w.inside i j (sym ((d.included.passed i hi).others j ne) ∙ t)))))
          (λ h. absurd (h (w.inside i j (rw (d.included.ahead i (omega arith)) at t)).0));
      long = d.included.long ∙ w.long;
    }

    pub idle_states : Same (with_idle cost_limit (by_slacks before n m)) (by_slacks after n (m + 1))
    idle_states = record {
      lots = refl;
      calls = sym (add-one m);
      admits = λ i j hi hj. sym (admits_is after n (m + 1) i j hi (omega arith) ∙ ⊎_elim
          (λ (e : j ≡ m). rw (e, eqb_true m, d.own i hi) refl)
          (λ (l : j < m). rw (eqb_false j m (λ e. omega arith), d.others i j (omega arith) (λ e. omega arith)) (sym (admits_is before n m i j hi l)))
          (below_suc hj));
      more = 0;
      more' = 0;
      cost = λ i j (hi, hj, t). ap (λ (x : ℕ). x + 0) (put_is ((by_slacks before n m).cost i) m cost_limit j (suc cost_top - entry after i j)
          (λ e. rw (e, d.own i hi) refl)
          (λ ne. rw (d.others i j (omega arith) ne) refl));
    }
