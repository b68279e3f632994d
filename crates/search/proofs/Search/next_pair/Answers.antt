-- `search::Search::next_pair` meets its contract: the first lot with a free pair has the lowest (`pair_first`), and without one there is none.
use Rattle.std.proofs.Common.{◌≡◌, ℕ, refl, sym, ◌∙◌, ap, true≢false}
use mathlib.Core.Logic.{by_cases}
use native.Mathlib.Decide.{ℕ_discrete}
use Rattle.specification.specs.Book.{bit}
use Rattle.words.specs.Words.{LowestIn}
use Rattle.words.proofs.Sets.{bit_none}
use Rattle.search.specs.Marks.{Asked}
use Rattle.search.proofs.Passing.{left_few}
use Rattle.search.proofs.Trials.{none_first, pair_first, asked_next}
use Rattle.search.proofs.Search.next_pair.Goals as goal

pub returns-in-Some-first-clause-next_is : goal.returns-in-Some-first-clause-next_is
returns-in-Some-first-clause-next_is c =
    let (was, _, _, coming) = c.loop-i.invariant in
    let (lowest, few, _) = c.in-Some.ensures.steps in
    let told = c.in-Some-first.ensures in
    let after = c.first_call-first.new.self in
    let low : LowestIn c.loop-i.self.to_ask c.in-Some.i = record { is_in = coming _ ∙ lowest.is_in; none_below = λ k h. coming k ∙ lowest.none_below k h } in
    let asked : Asked after.left.lefts after.low after.high c.loop-i.self.to_ask =
    asked_next (rw told.unchanged.left was) told.first_is.0 (λ a d. refl) (λ off. absurd (true≢false (sym low.is_in ∙ off))) in
    (pair_first told.standing.marks asked low few told.first_is, rw told.to_ask asked, rw told.to_ask low.is_in)

pub loop-i-preserved : goal.loop-i-preserved
loop-i-preserved c =
    let (was, _, same, coming) = c.loop-i.invariant in
    let (_, _, gone) = c.in-Some.ensures.steps in
    let told = c.in_default.ensures in
    let out = c.without-self.ensures in
    let kept : (a : ℕ) → bit c.first_call-first.new.self.to_ask a ≡ bit c.loop-i.self.to_ask a = λ a. ap (λ (w : ℕ). bit w a) told.to_ask in (
      asked_next (rw told.unchanged.left was) told.first_is (λ a d. out.others a d ∙ kept a) (λ _ l on. (left_few told.standing.kept _ l on).1),
      record { kept = told.standing.kept; passed_is = told.standing.passed_is; marks = told.standing.marks },
      record { left = told.unchanged.left ∙ same.left; taken = told.unchanged.taken ∙ same.taken },
      λ a. by_cases (ℕ_discrete a c.in-Some.i)
          (λ (e : a ≡ c.in-Some.i). rw e (out.out ∙ sym gone.out))
          (λ d. out.others a d ∙ kept a ∙ coming a ∙ sym (gone.others a d)),
    )

pub returns-clause-next_is : goal.returns-clause-next_is
returns-clause-next_is c =
    none_first c.loop-i.invariant.1.marks c.loop-i.invariant.0 (λ a. c.loop-i.invariant.3 a ∙ ap (λ (w : ℕ). bit w a) c.in-None.ensures.steps.0 ∙ bit_none a)
