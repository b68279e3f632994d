-- `walk::gaps::Gaps::lower_row` meets its contract: one call more.
use Rattle.std.proofs.Common.{◌≡◌, ℕ, ◌+◌, ◌<◌, ◌||◌, eqb, ltb, ◌∙◌, arith, le-ltb, lt-ltb}
use Rattle.std.proofs.lemmas.List.{get_or-take}
use mathlib.Core.Logic.{by_cases}
use mathlib.Core.Bool.{or-true, or-false}
use native.Mathlib.Decide.{ℕ_discrete, dec_lt}
use Rattle.transport.proofs.Laws.Tests.{eqb_true, eqb_false}
use Rattle.walk.proofs.Lowering.{lowered_more}
use Rattle.walk.proofs.gaps.Gaps.lower_row.Goals as goal

below_next : (o l : ℕ) → ltb o (l + 1) ≡ (ltb o l || eqb o l)
below_next o l = by_cases (ℕ_discrete o l)
    (λ (e : o ≡ l). rw (e, eqb_true l, or-true (ltb l l)) (lt-ltb l (l + 1) (omega arith)))
    (λ ne. rw (eqb_false o l ne, or-false (ltb o l)) (by_cases (dec_lt o l)
    (λ h. rw (lt-ltb o l h) (lt-ltb o (l + 1) (omega arith)))
    (λ h. rw (le-ltb o l (omega arith)) (le-ltb o (l + 1) (omega arith)))))

pub loop-l-preserved : goal.loop-l-preserved
loop-l-preserved c =
    let l = c.loop-l.l in
    let costs = c.args.costs.now in
    let below : l < costs.calls = omega arith in
    let here : l < 32 = omega (arith, costs.few_calls) in
    lowered_more _ _ _ _ c.requires.call_in l here (le-ltb l l (omega arith)) _ _ c.loop-l.self.capped.long c.loop-l.invariant _ _ _ _
    (get_or-take costs.calls costs.singles l 0 below ∙ costs.singled.is l here) c.gap.ensures c.lower-fits.ensures (λ o. ltb o (l + 1)) (λ o ho. below_next o l)
