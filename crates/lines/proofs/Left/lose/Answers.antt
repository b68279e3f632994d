-- `lines::Left::lose` meets its contract: what is left and both lines lose the pair (`lost`).
use Rattle.std.proofs.Common.{arith}
use native.Mathlib.Nat.{zero-add}
use Rattle.words.proofs.Lefts.{taken_set}
use Rattle.lines.proofs.Laws.{taken_line, lost}
use Rattle.lines.proofs.Left.lose.Goals as goal

pub without-row-requires : goal.without-row-requires
without-row-requires c =
    let p = c.requires in
    omega (arith, p.lined.0.within _ _ (p.lined.0.row _ _ p.is_left.2).is_on)

pub returns : goal.returns
returns c =
    let a = c.args in
    let p = c.requires in
    let taken = taken_set _ a.self.now.lefts (omega arith) c.without.ensures.out c.without.ensures.others in
    let (out, (lined, (ended, (nears, fars)))) =
    lost a.call.0 p.lined.0 p.lined.1 (omega arith) p.is_left.2 taken c.set.ensures c.set-2.ensures
    (taken_line c.set.ensures (rw c.from.ensures at c.without-row.ensures))
    (taken_line c.set-2.ensures (rw (zero-add a.lot.0, ← c.from-2.ensures) c.without-column.ensures)) in
    record { taken_from = out; lined = lined; ended = ended; nears_kept = nears; fars_kept = fars }
