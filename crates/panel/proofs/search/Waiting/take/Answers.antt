-- `panel::search::Waiting::take`: a byte has room for the word of a call below 8; the calls that are eligible and not marked are those left but this.
use mathlib.Core.Path.{◌≡◌, ◌∙◌}
use Prim.Native.Nat.{ℕ, ◌*◌, ◌%◌, ◌^◌, ◌<◌}
use native.Mathlib.Nat.{one-mul}
use native.Mathlib.Omega.{arith}
use borrow.Author.Rules.{rules}
use lib.Dec.{lit<}
use lib.ListN.{length}
use lib.Pow.{shl_exact}
use lib.Seq.{get_or-set_same}
use Rattle.words.proofs.Lefts.{taken_set}
use Rattle.panel.proofs.Words.{own_put, mark_put, left_by_marks}
use Rattle.panel.proofs.search.Waiting.take.Goals as goal

mark_is : (j : ℕ) → j < 8 → 1 * 2 ^ j % 256 ≡ 2 ^ j
mark_is j h = shl_exact 1 j 8 (lit< tt) (omega arith) ∙ one-mul _

pub taken_calls-requires : goal.taken_calls-requires
taken_calls-requires c =
    let asked = c.requires in
    (asked.lot_in, rw (mark_is c.args.call.0 asked.call_in) (own_put asked.marks asked.lot_in asked.call_in c.args.lot.0 asked.lot_in))

pub returns : goal.returns
returns c =
    let asked = c.requires in
    let is = mark_is c.args.call.0 asked.call_in in
    let lefts = c.args.self.now.lefts in
    let i-in : c.args.lot.0 < length lefts = search rules in
    let (off, kept) = left_by_marks asked.marks asked.lot_in asked.call_in asked.eligible_in asked.lefts_in (rw is at c.taken_calls.ensures)
    c.minus-left.ensures in
    let out = taken_set _ lefts i-in off kept in
    record {
      out = out;
      marks = rw is (mark_put asked.marks asked.lot_in asked.call_in out);
      renewed = rw (get_or-set_same lefts c.args.lot.0 c.minus-left.result 0 i-in) c.renew.ensures;
    }
