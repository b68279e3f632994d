-- `lines::column_of`: the word has the lots passed that have the call.
use Rattle.std.proofs.Common.{ℕ}
use Rattle.words.specs.Words.{Begins}
use Rattle.words.specs.Lefts.{is_left}
use Rattle.lines.proofs.column_of.Given as goal

abbrev pub invariant-loop-i : goal.invariant-loop-i
invariant-loop-i l = Begins (λ (x : ℕ). is_left l.lefts x l.call.0) l.i l.word
