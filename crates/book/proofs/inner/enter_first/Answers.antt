use Rattle.std.proofs.Common.{arith, ◌≡◌, ◌≤◌, ◌+◌, ◌*◌, ◌-◌, ◌∙◌}
use borrow.Rule.Slice.PartMut.{mid_len, put_same}
use lib.Count.{ones, ones-le}
use lib.ListN.{length-set}
use Rattle.rows.proofs.Bits.{bit_first, bit_after}
use Rattle.book.proofs.Entering.{put_set, entered_none, entered_set, entered_all}
use Rattle.book.proofs.inner.enter_first.Goals as goal

pub loop-entry-init : goal.loop-entry-init
loop-entry-init c =
    let base = 32 * c.args.lot.0 in
    let few : ones c.args.word ≤ 32 = ones-le 32 _ c.ranges.word.fits in
    let count : base + c.count.result - base ≡ ones c.args.word = omega (arith, c.count.ensures) in
    record {
      long = mid_len base (base + c.count.result) _ (omega (arith, c.told-table, c.count.ensures)) ∙ count;
      next_is = omega arith;
      entered = rw (count, put_same base (ones c.args.word) c.args.table.now) (entered_none _ _ _ _ c.told-table);
    }

pub overflow_add-next : goal.overflow_add-next
overflow_add-next c =
    let few : ones c.args.word ≤ 32 = ones-le 32 _ c.ranges.word.fits in
    omega (arith, c.loop-entry.invariant.next_is, c.loop-entry.invariant.long)

pub loop-entry-preserved : goal.loop-entry-preserved
loop-entry-preserved c =
    let l = c.loop-entry in
    let few : ones c.args.word ≤ 32 = ones-le 32 _ c.ranges.word.fits in
    record {
      long = simp length-set l.invariant.long;
      next_is = omega arith;
      entered =
          rw (put_set (32 * c.args.lot.0) (ones c.args.word) c.args.table.now l.entry-items l.entry-index l.next (omega (arith, c.told-table)) (omega arith))
          (entered_set _ _ _ _ _ l.invariant.entered c.requires.0 (omega arith) (bit_first _ c.requires.2 l.entry-index (omega arith)));
    }

pub returns : goal.returns
returns c =
    let base = 32 * c.args.lot.0 in
    let count : base + c.count.result - base ≡ ones c.args.word = omega (arith, c.count.ensures) in
    rw count (entered_all _ _ _ _ _ c.loop-entry.invariant.entered (λ k h h'. bit_after _ c.requires.2 k (omega arith)))
