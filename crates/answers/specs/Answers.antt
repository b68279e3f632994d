-- What a call hands back to C: a reply in six numbers.
use Rattle.std.specs.Prelude.{List, [], ◌∷◌, ℕ, suc, ◌-◌, ℤ, pos, negsuc, get_or}
use Rattle.specification.specs.Reply.{Reply, gives, refuses, Size, Verdict, full, covered, short, Outcome}
use Rattle.specification.specs.Book.{PairCost, costs, not_eligible, outside}
use Rattle.answers.specs.declared.Answer.{Answer}

-- four values, 0 for each that a list of fewer does not have
abbrev pub four_of : List ℕ → List ℕ
four_of vs = get_or vs 0 0 ∷ get_or vs 1 0 ∷ get_or vs 2 0 ∷ get_or vs 3 0 ∷ []

-- a number, a verdict, and up to four values
abbrev pub answer : ℕ → ℕ → List ℕ → Answer
answer number verdict vs = record { number = number; verdict = verdict; values = four_of vs }

-- a refusal is its number and values; what is given is said by `told`
unfoldable pub answer_of : {A : Type 0} → (A → Answer) → Reply A → Answer
answer_of told (gives a) = told a
answer_of told (refuses k vs) = answer k 0 vs

-- n and m
abbrev pub counts : Size → Answer
counts size = answer 0 0 (size.lots ∷ size.calls ∷ [])

-- a cost as 64 bits, two's complement: 2 ^ 64 is added to one below zero (document 02, request 4)
abbrev pub bits_of : ℤ → ℕ
bits_of (pos n) = n
bits_of (negsuc n) = 18446744073709551616 - suc n

-- 1 and the cost of an eligible pair; 0 and 0 of one that is not eligible or not in the book
abbrev pub cost_of : PairCost → Answer
cost_of (costs cost) = answer 0 0 (1 ∷ bits_of cost ∷ [])
cost_of not_eligible = answer 0 0 (0 ∷ 0 ∷ [])
cost_of outside = answer 0 0 (0 ∷ 0 ∷ [])

-- a count of pairs, or a file's length
abbrev pub number : ℕ → Answer
number n = answer 0 0 (n ∷ [])

-- Full is 1 and Short is 2; Covered, which came later (document 02, request 1), is 3
abbrev pub verdict_number : Verdict → ℕ
verdict_number full = 1
verdict_number covered = 3
verdict_number short = 2

-- units and cost
abbrev pub placed : Outcome → Answer
placed o = answer 0 (verdict_number o.verdict) (o.units ∷ bits_of o.cost ∷ [])
