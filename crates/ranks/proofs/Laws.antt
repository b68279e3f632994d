-- Laws of ranks. Where the gaps of a table of costs are filled and neighbours by the ranks fit, the problem is ranked, as transport has it
-- (`ranked_of`). Numbers as they are can be ranks too (`plain_numbered`).
use Rattle.std.proofs.Common.{◌≡◌, ℕ, suc, ◌+◌, ◌*◌, ◌<◌, ◌≤◌, true, T, List, get_or, take, drop, sym, ◌∙◌, subst, ap, ap₂, arith, rules, eq-eqb, ne_eqb}
use mathlib.Core.Logic.{by_cases}
use native.Mathlib.Decide.{ℕ_discrete, dec_lt}
use lib.ListN.{get_or-eq_default}
use Rattle.std.proofs.lemmas.List.{get_or-take, get_or-drop}
use Rattle.transport.specs.Problem.{Problem, Eligible}
use Rattle.transport.proofs.Laws.Tests.{T_of}
use Rattle.transport.proofs.Finder.Ranks.{monge_of_neighbours, Renames, rank_apart, Ranked, crossed_of_filled}
use Rattle.specification.specs.Costs.{cost_top}
use Rattle.book.specs.Table.{entry}
use Rattle.slacks.specs.Slacks.{by_slacks, Slacks}
use Rattle.slacks.proofs.BySlacks.{remains_says, admits_is}
use Rattle.ranks.specs.Numbered.{Numbered, Plain, compared_of, Compared, Low, cost_by, AllFit}

-- a cost is no more than that of a gap
cost_le : (slack : ℕ) → compared_of true slack ≤ 2 * suc cost_top
cost_le slack = by_cases (ℕ_discrete slack 0) (λ e. rw (eq-eqb slack 0 e) (omega arith)) (λ d. rw (ne_eqb slack 0 d) (omega arith))

pub low_of : {slacks costs : List ℕ} → Compared true slacks costs → Low costs
low_of {slacks} {costs} f x = by_cases (dec_lt x 1024)
    (λ h. omega (arith, f.each x h, cost_le (get_or slacks x 0)))
    (λ o. omega (arith, get_or-eq_default {A = ℕ} costs 0 {n = x} (omega (arith, f.long))))

-- numbers as they are
plain_renames : {n : ℕ} {own : ℕ → ℕ} → n ≤ 32 → ((x : ℕ) → x < 32 → own x ≡ x) → Renames n own own
plain_renames few same = record {
  rank_below = λ i h. omega (arith, same i (omega arith));
  at_below = λ p h. omega (arith, same p (omega arith));
  at_rank = λ i h. rw (same i (omega arith)) (same i (omega arith));
  rank_at = λ p h. rw (same p (omega arith)) (same p (omega arith));
}

-- what a part of a list has
pub part_at : (lines : List ℕ) (from n k x : ℕ) → k ≡ n → x < n → get_or (take k (drop from lines)) x 0 ≡ get_or lines (from + x) 0
part_at lines from n k x e h = get_or-take k (drop from lines) x 0 (omega arith) ∙ get_or-drop from lines x 0

-- numbers that are the same are named anew as those are
pub renames_same : {n k : ℕ} {own own' name name' : ℕ → ℕ} → Renames k own name → k ≡ n → ((x : ℕ) → x < n → own x ≡ own' x)
    → ((x : ℕ) → x < n → name x ≡ name' x) → Renames n own' name'
renames_same {n} {k} {own} {own'} {name} {name'} r e ranks names = record {
  rank_below = below;
  at_below = below';
  at_rank = λ i h. sym (names (own' i) (below i h)) ∙ ap name (sym (ranks i h)) ∙ r.at_rank i (omega arith);
  rank_at = λ p h. sym (ranks (name' p) (below' p h)) ∙ ap own (sym (names p h)) ∙ r.rank_at p (omega arith);
}
  where
    below : (i : ℕ) → i < n → own' i < n
    below i h = omega (arith, ranks i h, r.rank_below i (omega arith))

    below' : (p : ℕ) → p < n → name' p < n
    below' p h = omega (arith, names p h, r.at_below p (omega arith))

module _ {slacks : List ℕ} {n m : ℕ} (s : Slacks slacks n m) where
  -- each line has its own number
  pub plain_numbered : {lines : List ℕ} → Plain lines → Numbered n m lines lines
  plain_numbered {lines} plain =
      let lots = plain_renames {own = λ x. get_or lines x 0} s.lots_few (λ x h. omega (arith, plain x (omega arith))) in
      let calls = plain_renames {own = λ x. get_or lines (32 + x) 0} s.calls_few (λ x h. omega (arith, plain (32 + x) (omega arith))) in
      search rules

  module _ {costs : List ℕ} (f : Compared true slacks costs) where
    abbrev P : Problem
    P = by_slacks slacks n m

    -- an eligible pair has its cost, which is at most the limit, and another that of a gap
    own : (i j : ℕ) → Eligible P i j → (entry costs i j ≡ P.cost i j) × (P.cost i j ≤ cost_top)
    own i j (hi, hj, t) =
        let has = remains_says slacks i j (subst T (admits_is slacks n m i j hi hj) t) in
        (f.each (32 * i + j) (omega (arith, s.lots_few, s.calls_few)) ∙ rw (ne_eqb (entry slacks i j) 0 (λ e. omega arith)), omega arith)

    gap : (i j k l x y : ℕ) → i < n → j < m → (T (P.admits i j) → ⊥) → Eligible P k l → Eligible P x y → P.cost k l + P.cost x y < entry costs i j
    gap i j k l x y hi hj none kl xy = by_cases (ℕ_discrete (entry slacks i j) 0)
        (λ e. let is : entry costs i j ≡ 2 * suc cost_top = f.each (32 * i + j) (omega (arith, s.lots_few, s.calls_few)) ∙ rw (eq-eqb (entry slacks i j) 0 e) in
        omega (arith, (own k l kl).1, (own x y xy).1))
        (λ d. absurd (none (T_of (admits_is slacks n m i j hi hj ∙ rw (ne_eqb (entry slacks i j) 0 d)))))

    -- ranks by which all neighbours fit
    pub ranked_of : {names ranks : List ℕ} → Numbered n m names ranks → AllFit costs names n m
        → Ranked P (λ i. get_or ranks i 0) (λ j. get_or ranks (32 + j) 0)
    ranked_of {names} {ranks} r fit = record {
      lots_apart = rank_apart r.lots_named;
      calls_apart = rank_apart r.calls_named;
      monge = λ i k j l il kj h g. crossed_of_filled (entry costs) (λ i j e. (own i j e).0) gap i k j l il kj
          (rw (at i j il.0 kj.1, at k l kj.0 il.1, at i l il.0 il.1, at k j kj.0 kj.1) at (
          monge_of_neighbours (cost_by costs names) n m (λ p q h g. fit p h q g) (get_or ranks i 0) (get_or ranks k 0)
          (get_or ranks (32 + j) 0) (get_or ranks (32 + l) 0) h (r.lots_named.rank_below k kj.0) g (r.calls_named.rank_below l il.1)));
    }
      where
        at : (i j : ℕ) → i < n → j < m → cost_by costs names (get_or ranks i 0) (get_or ranks (32 + j) 0) ≡ entry costs i j
        at i j hi hj = ap₂ (entry costs) (r.lots_named.at_rank i hi) (r.calls_named.at_rank j hj)
