-- What rendering an answer means, and the room that a text has.
use Rattle.std.specs.Prelude.{◌≡◌, List, [], ◌∷◌, ◌++◌, ℕ, ◌+◌, ◌*◌, ◌≤◌, ℤ, length, Result}
use Rattle.transport.specs.Problem.{Problem}
use Rattle.specification.specs.declared.Counts.{Counts}
use Rattle.specification.specs.declared.Placed.{Placed}
use Rattle.specification.specs.declared.Refusal.{Refusal}
use Rattle.specification.specs.Reply.{stated_placed}
use Rattle.specification.specs.Text.{decimal, decimalℤ, line, pair_lines, text_of}
use Rattle.text.specs.Lengths.{text_most}

-- there is room for the piece after the text
abbrev pub HasRoom : List ℕ → List ℕ → Type 0
HasRoom text piece = length text + length piece ≤ text_most

-- an answer that is no refusal, with its verdict's word
abbrev pub answer_text : List ℕ → ℕ → ℤ → Counts → List ℕ → List ℕ
answer_text verdict units cost c flow = line verdict (decimal units ∷ decimalℤ cost ∷ []) ++ pair_lines c.calls flow (c.lots * c.calls)

-- counts of lots and of calls
abbrev pub AtMost32 : Counts → Type 0
AtMost32 c = (c.lots ≤ 32) × (c.calls ≤ 32)

-- the bytes are document 01's text of the answer, for every problem of so many lots and calls
abbrev pub Renders : Result Placed Refusal → Counts → List ℕ → List ℕ → Type 0
Renders answer c flow text = (P : Problem) → P.lots ≡ c.lots → P.calls ≡ c.calls → text ≡ text_of (stated_placed answer) P flow
