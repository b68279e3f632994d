-- `walk::gaps::Gaps::lower_set` meets its contract: one call of the word more.
use Rattle.std.proofs.Common.{◌≡◌, ℕ, ◌+◌, ◌*◌, ◌<◌, arith, true, not, ◌&&◌, ◌||◌, eqb, sym, ap, ◌∙◌}
use mathlib.Core.Logic.{by_cases}
use mathlib.Core.Bool.{and-true, and-false, or-false}
use native.Mathlib.Decide.{ℕ_discrete}
use Rattle.transport.proofs.Laws.Tests.{eqb_true, eqb_false}
use Rattle.specification.specs.Book.{bit}
use Rattle.rows.proofs.Bits.{one_shifted}
use Rattle.words.specs.Words.{LowestIn, Without}
use Rattle.words.proofs.Sets.{bit_none}
use Rattle.words.proofs.Changes.{was_in}
use Rattle.book.specs.Table.{entry}
use Rattle.walk.specs.Gaps.{gap_over, CostStands}
use Rattle.walk.proofs.Lowering.{lowered_more, lowered_same}
use Rattle.walk.proofs.gaps.Gaps.lower_set.Goals as goal

-- of the calls of a word, those that are not left are one more
one_more : (word left l after : ℕ) → LowestIn left l → Without left l after → bit word l ≡ true → (o : ℕ)
    → (bit word o && not (bit after o)) ≡ (bit word o && not (bit left o) || eqb o l)
one_more word left l after low gone own o = by_cases (ℕ_discrete o l)
    (λ (e : o ≡ l). rw (e, eqb_true l, gone.out, low.is_in, own))
    (λ ne. rw (eqb_false o l ne, gone.others o ne) (sym (or-false (bit word o && not (bit left o)))))

pub loop-l-preserved : goal.loop-l-preserved
loop-l-preserved c =
    let (low, few, gone) = c.in-Some.ensures.steps in
    let l = c.in-Some.l in
    let own = c.loop-l.invariant.0 l low.is_in in (
      λ o e. c.loop-l.invariant.0 o (was_in gone o e),
      lowered_more _ _ _ _ c.requires.call_in l few (rw low.is_in (and-false (bit c.args.word l))) _ _ c.loop-l.self.capped.long
          c.loop-l.invariant.1 _ _ _ _ (one_shifted l few)
          (c.gap.ensures ∙ ap (gap_over c.args.costs.now.book.now c.args.own) (c.from-at.ensures ∙ c.entry_at.ensures 0)) c.lower-fits.ensures
          (λ o. bit c.args.word o && not (bit c.next.new.self.left o)) (λ o h. one_more _ _ l _ low gone own o),
    )

pub returns : goal.returns
returns c =
    let (none, _) = c.in-None.ensures.steps in
    lowered_same _ _ _ _ _ (λ o h. rw (none, bit_none o) (and-true (bit c.args.word o))) _ _ c.loop-l.invariant.1

pub gap-requires : goal.gap-requires
gap-requires c =
    let (low, few, gone) = c.in-Some.ensures.steps in
    let k = 32 * c.args.i.0 + c.in-Some.l in
    let inside : k < 1024 = omega (arith, c.requires.lot_in) in
    let tabled = c.args.costs.now.tabled in
    let cost : CostStands c.args.costs.now.book.now (entry c.args.costs.now.offsets.now c.args.i.0 c.in-Some.l) = record { within = tabled.within k inside; cheap = tabled.cheap k inside (c.requires.has c.in-Some.l few (c.loop-l.invariant.0 c.in-Some.l low.is_in)) } in
    rw (c.from-at.ensures, c.entry_at.ensures 0) (cost, c.requires.own_cheap)
