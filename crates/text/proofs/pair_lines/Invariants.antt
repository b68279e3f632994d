-- The invariant of `text::pair_lines`: the lines of the entries passed have been appended, in at most `pair_most` bytes each.
use Rattle.std.proofs.Common.{◌≡◌, ◌++◌, ◌+◌, ◌*◌, ◌≤◌, length}
use Rattle.specification.specs.Text.{pair_lines}
use Rattle.text.specs.Lengths.{pair_most}
use Rattle.text.proofs.pair_lines.Given as goal

abbrev pub invariant-loop-k : goal.invariant-loop-k
invariant-loop-k l =
    (l.text ≡ l.initial.text ++ pair_lines l.m l.flow l.k)
    × (length l.text ≤ length l.initial.text + pair_most * l.k)
