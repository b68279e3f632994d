-- The ticket panel's finding and running in one call (document 02, request 6), "beside the present one".
use Rattle.std.specs.Prelude.{Bool, ◌||◌, List, [], ℕ, ltb}
use Rattle.specification.specs.Reply.{Reply, gives, refuse_if, ◌>>=◌, afterwards, Size, Outcome}
use Rattle.specification.specs.Book.{read_head}
use Rattle.specification.specs.Find.{find_and_run, find_and_run_flow}

-- "Traders' ticket panels show at most 8 lots and 8 calls"
abbrev pub above_eight : ℕ → Bool
above_eight n = ltb 8 n

-- "20 when n or m is above 8, placed directly after 4"; the reply is n and m
unfoldable pub read_panel : List ℕ → Reply Size
read_panel book = do
  n ← read_head book
  _ ← refuse_if (above_eight n.lots || above_eight n.calls) 20 []
  gives n

-- "Within eight by eight both reply and write alike on all inputs": the reply
unfoldable pub find_and_run_panel : List ℕ → List ℕ → List ℕ → Reply Outcome
find_and_run_panel book amounts flow = do
  _ ← read_panel book
  find_and_run book amounts flow

-- and the flow buffer afterwards
unfoldable pub find_and_run_panel_flow : List ℕ → List ℕ → List ℕ → List ℕ
find_and_run_panel_flow book amounts flow = afterwards (read_panel book) flow (λ _. find_and_run_flow book amounts flow)
