-- `panel::search::Waiting::taken_calls`: the word has the calls passed that are marked.
use Rattle.words.specs.Words.{Begins}
use Rattle.panel.specs.Search.{is_taken}
use Rattle.panel.proofs.search.Waiting.taken_calls.Given as goal

abbrev pub invariant-loop-mark : goal.invariant-loop-mark
invariant-loop-mark l = Begins (is_taken l.self.taken l.fn.lot.0) l.mark-index l.calls
