-- `trial::misfits` meets its contract. Numbers below 2 ^ 31 are themselves as signed numbers.
use Rattle.std.proofs.Common.{◌≡◌, true≢false, sym, ap₂, ◌∙◌, ◌+◌, ◌-◌, ◌*◌, ◌<◌, ◌^◌, ℤ, w32, to_z, of_z, arith}
use borrow.Author.Count.{below_more}
use borrow.Author.Rules.{sfits_of}
use borrow.Author.Tests.{ltb-true, ltb-false}
use lib.Signed.{mag, lt_z}
use mir.Facts.{to_z-of_z}
use mir.ValLaws.{to_z_pos}
use Rattle.trial.proofs.misfits.Goals as goal
use Rattle.trial.proofs.misfits.Goals.{then-cast_signed, else-cast_signed}

read_back : {z : ℤ} → mag z < 2 ^ 31 → to_z w32 (of_z w32 z) ≡ z
read_back few = to_z-of_z {w = w32} (sfits_of few)

pub loop-l-init : goal.loop-l-init
loop-l-init c =
    let own = c.requires.3 (32 * c.args.lot.0 + c.args.call.0) in
    let held = c.requires.3 (32 * c.args.other.0 + c.args.call.0) in
    (omega arith, omega arith, record { none = λ e l h. absurd (omega arith); some = λ e. absurd (true≢false (sym e)) })

pub loop-l-preserved : goal.loop-l-preserved
loop-l-preserved c =
    let (own_is, own_few, m) = c.loop-l.invariant in
    let slack = c.requires.3 (32 * c.args.other.0 + c.loop-l.l) in
    let raised = c.requires.4 (32 * c.args.lot.0 + c.loop-l.l) in
    let other = c.entry_at-in-loop-l.result + (c.entry_at.result + 2000001 - c.entry_at-2.result) in
    let left = c.entry_at-in-loop-l-2.result in
    let slack_is = c.entry_at-in-loop-l.ensures 0 in
    let raised_is = c.entry_at-in-loop-l-2.ensures 0 in
    let below = ap₂ lt_z (read_back c.cast_signed.type_inv ∙ c.cast_signed.ensures ∙ to_z_pos w32 other (omega arith))
    (read_back c.cast_signed-in-loop-l.type_inv ∙ c.cast_signed-in-loop-l.ensures ∙ to_z_pos w32 left (omega arith)) in (
      own_is,
      own_few,
      elim c.if-cast_signed.branch [
        | then-cast_signed w ↦ rw w.found-is (record {
          none = λ z. absurd (true≢false (sym w.if-cast_signed.true ∙ z));
          some = λ z. (c.loop-l.l, omega arith, omega (arith, ltb-true other left (sym below ∙ w.if-cast_signed.true)));
        })
        | else-cast_signed w ↦ rw w.found-is (record {
          none = λ z. below_more _ _ (m.none z) (omega (arith, ltb-false other left (sym below ∙ w.if-cast_signed.false)));
          some = m.some;
        })
      ],
    )

pub returns : goal.returns
returns c = let e : c.loop-l.l ≡ 32 = omega arith in rw e at c.loop-l.invariant.2
