-- `text::pair_lines` meets its contract: a turn appends what the definition does for the entry at hand.
use Rattle.std.proofs.Common.{arith, ◌*◌, append-nil, append_assoc}
use lib.Seq.{get_or-take}
use Rattle.specification.specs.Text.{pair_lines}
use Rattle.text.proofs.Lines.{line_skipped, line_added}
use Rattle.text.proofs.pair_lines.Goals as goal

pub loop-k-init : goal.loop-k-init
unfolding pair_lines
loop-k-init c = grind (arith, append-nil)

pub loop-k-preserved : goal.loop-k-preserved
loop-k-preserved c =
    let entry = get_or-take (c.args.counts.lots * c.args.counts.calls) c.args.flow.now c.loop-k.k 0 (omega arith) in
    grind (arith, append_assoc, line_added c.args.counts.calls c.args.flow.now c.loop-k.k, line_skipped c.args.counts.calls c.args.flow.now c.loop-k.k, entry)
