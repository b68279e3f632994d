-- What the search keeps at first: all eligible pairs are left, none is marked, and each lot is to be asked.
use mathlib.Core.Path.{◌≡◌, sym, ◌∙◌, ap}
use mathlib.Core.Logic.{by_cases}
use mathlib.Core.Bool.{Bool, true, false, cond, and-true, true≢false}
use mathlib.Core.List.{List}
use Prim.Native.Nat.{ℕ, suc, ◌+◌, ◌*◌, ◌≤◌, ◌<◌}
use native.Mathlib.Decide.{dec_lt}
use native.Mathlib.Omega.{arith}
use borrow.Author.Tests.{eq-eqb, eqb-true, not-true, not-false}
use lib.Dec.{eqb}
use lib.ListN.{get_or, replicate, length-replicate, get_or-eq_default}
use Rattle.specification.specs.Costs.{cost_top}
use Rattle.specification.specs.Book.{bit}
use Rattle.book.specs.Table.{entry}
use Rattle.slacks.specs.Slacks.{by_slacks}
use Rattle.slacks.proofs.BySlacks.{zeros_at, admits_is, size_few}
use Rattle.slacks.proofs.Going.{Going, going_start}
use Rattle.transport.specs.Finder.{size}
use Rattle.words.specs.Words.{Below}
use Rattle.words.specs.Lefts.{is_left}
use Rattle.words.proofs.Sets.{bit_none, bit_all}
use Rattle.ranks.specs.Numbered.{Compared}
use Rattle.lines.specs.Lines.{Lined, Ended}
use Rattle.lines.specs.declared.Left.{Left}
use Rattle.trial.specs.declared.table.Given.{Given}
use Rattle.trial.specs.Tables.{Table}
use Rattle.trial.specs.Testing.{Raised}
use Rattle.search.specs.declared.marks.Half.{Half}
use Rattle.search.specs.Marks.{HalfOf, Asked, TakenMarks, Standing}

-- no mark stands at first
abbrev pub no_marks : Half
no_marks = record { waits = replicate 32 0; marks = replicate 32 0 }

half_first : {ranked : Bool} {slacks lefts nears fars : List ℕ} → HalfOf ranked slacks lefts nears fars no_marks
half_first = record {
  hindered = λ i j on e. absurd (true≢false (sym e ∙ clear i j));
  waits_are = record { waiting = λ i j e. absurd (true≢false (sym e ∙ clear i j)); long = length-replicate {A = ℕ} 32 0; waits_long = length-replicate {A = ℕ} 32 0 };
}
  where
    clear : (i j : ℕ) → is_left (replicate 32 0) i j ≡ false
    clear i j = ap (λ (w : ℕ). bit w j) (zeros_at 32 i) ∙ bit_none j

-- no pair is taken at first
pub taken_first : {eligible : List ℕ} → TakenMarks eligible eligible (replicate 1024 0)
taken_first {eligible} = record {
  each = λ i j hi hj. rw (eq-eqb _ 0 (zeros_at 1024 (32 * i + j))) (sym (and-true (is_left eligible i j)));
  long = length-replicate {A = ℕ} 1024 0;
}

module _ (given : Given) {lots calls : ℕ} (t : Table given.slacks.now lots calls given.eligible.now given.ranking.now) where
  -- a pair that is not eligible has no slack
  no_slack : (i l : ℕ) → i < lots → l < 32 → is_left given.eligible.now i l ≡ false → entry given.slacks.now i l ≡ 0
  no_slack i l hi hl e = by_cases (dec_lt l calls)
      (λ b. eqb-true (entry given.slacks.now i l) 0 (not-false (eqb (entry given.slacks.now i l) 0) (sym (t.eligible_are.each i l hi b) ∙ e)))
      (λ b. t.slacks_are.beyond i l hi (omega arith) hl)

  raised_first : {compared : List ℕ} → Compared false given.slacks.now compared → Raised given.slacks.now given.eligible.now compared
  raised_first {compared} f = record {
    on = λ i l hi hl e.
        let (hi, hj) = t.eligible_are.inside i l e in
        f.each (32 * i + l) (omega arith) ∙ rw (not-true (eqb (entry given.slacks.now i l) 0) (sym (t.eligible_are.each i l hi hj) ∙ e));
    gone = λ i j l on hl e.
        let hi = (t.eligible_are.inside i j on).0 in
        f.each (32 * i + l) (omega (arith, t.slacks_are.lots_few)) ∙ rw (eq-eqb (entry given.slacks.now i l) 0 (no_slack i l hi hl e));
    low = λ x. by_cases (dec_lt x 1024)
        (λ lt. omega (arith, f.each x lt, raised_le (eqb (get_or given.slacks.now x 0) 0) (get_or given.slacks.now x 0), t.slacks_are.capped x))
        (λ o. omega (arith, get_or-eq_default {A = ℕ} compared 0 {n = x} (omega (arith, f.long))));
  }
    where
      raised_le : (b : Bool) (v : ℕ) → cond b 0 (v + suc cost_top) ≤ v + suc cost_top
      raised_le b v = elim b as (λ k. cond k 0 (v + suc cost_top) ≤ v + suc cost_top) [ true ↦ omega arith | false ↦ omega arith ]

  module _ {left : Left} {compared : List ℕ} (all : left.lefts ≡ given.eligible.now) (lined : Lined given.ranking.now left) (ended : Ended given.ranking.now left)
      (f : Compared given.ranking.now.ranked given.slacks.now compared) where
    pub standing_first : (to_ask : ℕ) → Standing given (record {
      left = left;
      passed = replicate 1024 0;
      taken = replicate 1024 0;
      low = no_marks;
      high = no_marks;
      to_ask = to_ask;
    }) compared
    standing_first to_ask = record {
      kept = record {
        among = λ i j e. rw all at e;
        lined = lined;
        ended = ended;
        raised_is = λ e. rw all (raised_first (rw e at f));
        costs_are = λ e. rw e at f;
        lefts_long = rw all t.eligible_are.long;
        compared_long = f.long;
      };
      passed_is = record {
        each = λ i j p hi hj lt. absurd (omega (arith, zeros_at 1024 (32 * i + j)));
        long = length-replicate {A = ℕ} 1024 0;
      };
      marks = record { low_half = half_first; high_half = half_first };
    }

  pub asked_first : {some : ℕ} {low high : Half} → Below 4294967295 lots some → Asked given.eligible.now low high some
  asked_first w = record {
    each = λ i j on off.
        let hi = (t.eligible_are.inside i j on).0 in
        absurd (true≢false (sym (bit_all 32 i (omega (arith, t.slacks_are.lots_few))) ∙ sym (w.lower i hi) ∙ off));
  }

  pub going_first : (pairs : List ℕ) (total : ℕ) → total ≡ size (by_slacks given.slacks.now lots calls) → Going (by_slacks given.slacks.now lots calls) (is_left given.eligible.now) pairs 0 total
  going_first pairs total e = going_start (by_slacks given.slacks.now lots calls) (is_left given.eligible.now)
      (λ i j hi hj. admits_is given.slacks.now lots calls i j hi hj ∙ sym (t.eligible_are.each i j hi hj)) pairs total e (omega (arith, size_few t.slacks_are))
