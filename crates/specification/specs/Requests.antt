-- What the change requests (document 02) promise beside the demands, as types. Above each part stands the sentence it is. A request
-- that changes what document 01 has is in the definitions and the demands themselves: request 1 in `Ran` and `Verdicts`, request 4 in
-- `held_cost` and `costs_of`, by which every cost and every least cost is stated, and request 7 in `lot_amount`, by which every amount of a
-- lot is. Requests 5, 7 and 8 have pages of their own, `EmptyDesk`, `Reserves` and `DayChanges`; what the new numbers mean, and what is refused
-- before what, is in `Refused`, and of request 8 on its page.
use Rattle.std.specs.Prelude.{◌≡◌, ◌↔◌, List, [], ℕ, ◌+◌, ◌*◌, ◌≤◌, ◌<◌, ltb, length, ℤ, pos, neg_ℤ, ◌-ℤ◌, ◌≤ℤ◌}
use Rattle.std.specs.Int.{w32}
use Rattle.std.proofs.Common.{to_z}
use Rattle.transport.specs.Problem.{Eligible, units, total_cost, Allocation, MeetsCalls}
use Rattle.transport.specs.Greedy.{pair}
use Rattle.transport.specs.Signed.{signed_cost, SignedFit, Lifts}
use Rattle.specification.specs.declared.Quadruple.{Quadruple}
use Rattle.specification.specs.declared.Quadruple.TheVariants as quadruple
use Rattle.specification.specs.Reply.{gives, refuses, Outcome, stated_quadruple}
use Rattle.specification.specs.Bytes.{u32_at}
use Rattle.specification.specs.Costs.{twos_complement, held_cost, cost_base, cost_outside}
use Rattle.specification.specs.Book.{row_cost, book_version, row_at, cost_start, problem_of, costs_of}
use Rattle.specification.specs.Amounts.{lot_amount, call_amount}
use Rattle.specification.specs.Check.{check_quadruple}
use Rattle.specification.specs.Find.{find_and_run, find_and_run_flow}
use Rattle.specification.specs.Idle.{find_and_run_idle}
use Rattle.specification.specs.Panel.{find_and_run_panel, find_and_run_panel_flow}
use Rattle.specification.specs.Demands.{Readable}

-- Request 2: of a run with an idle call, beside what holds of all runs (`Ran`, `Best`)
pub record Request2 : Type 0 where
  -- "no allocation that meets every real call costs less", "under either version" (request 4)
  pub least_cost : (book amounts flow : List ℕ) (o : Outcome) → find_and_run_idle book amounts flow ≡ gives o
      → (x : ℕ → ℕ → ℕ) → MeetsCalls (problem_of book) (lot_amount amounts) (call_amount book amounts) x
      → o.cost ≤ℤ signed_cost (problem_of book) (costs_of book) x

-- Request 3: the test of one quadruple, the pair (i, j) with lot k and call l. "any three eligible pairs (i, j), (i, l), (k, j) of a readable
-- book": k may be i, and l may be j
pub record ThreeEligible (book : List ℕ) (i j k l : ℕ) : Type 0 where
  pub readable : Readable book
  pub own : Eligible (problem_of book) i j
  pub by_lot : Eligible (problem_of book) i l
  pub by_call : Eligible (problem_of book) k j

-- a cost "where the book holds" it: the number in four of its bytes
abbrev pub cost_in_book : List ℕ → ℕ → ℕ → ℤ
cost_in_book book i j = held_cost (book_version book) (u32_at book (cost_start book i j))

-- "the cost sums are as the check asks": cost(i, j) + cost(k, l) ≤ cost(i, l) + cost(k, j) (document 01)
abbrev pub SumsFit : List ℕ → ℕ → ℕ → ℕ → ℕ → Type 0
SumsFit book i j k l = SignedFit (cost_in_book book) i j k l

-- "Its answer .. says .. whether (k, l) is eligible and the cost sums are as the check asks": each of the three, which exclude each other
abbrev pub Told : List ℕ → ℕ → ℕ → ℕ → ℕ → Quadruple → Type 0
Told book i j k l quadruple.Holds = Eligible (problem_of book) k l × SumsFit book i j k l
Told book i j k l quadruple.NotEligible = Eligible (problem_of book) k l → ⊥
Told book i j k l quadruple.TooHigh = Eligible (problem_of book) k l × (SumsFit book i j k l → ⊥)

pub record Request3 : Type 0 where
  -- an answer r that states what the check says of the quadruple, as that of `test_quadruple` does
  pub told : (book : List ℕ) (i j k l : ℕ) → ThreeEligible book i j k l
      → (r : Quadruple) → stated_quadruple i j k l r ≡ check_quadruple (problem_of book) (pair i j) k l → Told book i j k l r
  -- the four bytes of an eligible pair's cost stand in the book, and hold its cost
  pub in_book : (book : List ℕ) → Readable book → (i j : ℕ) → Eligible (problem_of book) i j
      → (cost_start book i j + 4 ≤ length book) × (cost_in_book book i j ≡ costs_of book i j)

-- Request 4: rebates from book version 2
pub record Request4 : Type 0 where
  -- "two's complement" is the machine's own reading of 32 bits
  pub by_twos_complement : (held : ℕ) → held < 4294967296 → twos_complement held ≡ to_z w32 held
  -- "In version 2 a cost is signed, two's complement, from -1,000,000 to 1,000,000"
  pub version_2 : (book : List ℕ) → Readable book → book_version book ≡ 2 → (i j : ℕ) → Eligible (problem_of book) i j
      → (costs_of book i j ≡ twos_complement (row_cost (row_at book i) j))
      × ((neg_ℤ (pos 1000000) ≤ℤ costs_of book i j) × (costs_of book i j ≤ℤ pos 1000000))
  -- "Version 1 books read as they always have": a cost is the number that the book holds, from 0 to 1,000,000
  pub version_1 : (book : List ℕ) → Readable book → book_version book ≡ 1 → (i j : ℕ) → Eligible (problem_of book) i j
      → (costs_of book i j ≡ pos (row_cost (row_at book i) j)) × ((problem_of book).cost i j ≡ row_cost (row_at book i) j)
      × (row_cost (row_at book i) j ≤ 1000000)
  -- outside is what is above 1,000,000
  pub version_1_outside : (held : ℕ) → cost_outside 1 held ≡ ltb 1000000 held
  -- "by one argument over both": under either version the problem's costs are the signed ones with the base added,
  pub lifts : (book : List ℕ) → Readable book → Lifts (cost_base (book_version book)) (problem_of book) (costs_of book)
  -- so the cost of an allocation is the problem's less the base for each unit,
  pub cost_is : (book : List ℕ) → Readable book → (a b : ℕ → ℕ) (x : ℕ → ℕ → ℕ) → Allocation (problem_of book) a b x
      → signed_cost (problem_of book) (costs_of book) x
      ≡ pos (total_cost (problem_of book) x) -ℤ pos (cost_base (book_version book) * units (problem_of book) x)
  -- and of allocations with as many units the one that costs less by the problem costs less
  pub same_order : (book : List ℕ) → Readable book → (a b a' b' : ℕ → ℕ) (x y : ℕ → ℕ → ℕ)
      → Allocation (problem_of book) a b x → Allocation (problem_of book) a' b' y → units (problem_of book) x ≡ units (problem_of book) y
      → (signed_cost (problem_of book) (costs_of book) x ≤ℤ signed_cost (problem_of book) (costs_of book) y)
      ↔ (total_cost (problem_of book) x ≤ total_cost (problem_of book) y)

-- Request 6. The ticket panel's call replies and writes as the present one does
pub record Alike (book amounts flow : List ℕ) : Type 0 where
  pub reply : find_and_run_panel book amounts flow ≡ find_and_run book amounts flow
  pub writes : find_and_run_panel_flow book amounts flow ≡ find_and_run_flow book amounts flow

pub record Request6 : Type 0 where
  -- "Within eight by eight both reply and write alike on all inputs": on each input whose reply is not 20, as within eight by eight it never is (`run_causes`)
  pub alike : (book amounts flow : List ℕ) → (find_and_run_panel book amounts flow ≡ refuses 20 [] → ⊥) → Alike book amounts flow
