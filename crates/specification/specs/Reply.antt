-- Replies in document 01's own terms, and what an entry point's answer, a `Result`, says in them. "When an answer is an enum, a definition
-- states this paper's number and values for each of its cases, and the promises use this definition": `stated`, `told` and `stated_placed`.
use Rattle.std.specs.Prelude.{◌≡◌, List, [], ◌∷◌, ◌++◌, flat_map, Bool, true, false, ℕ, ℤ, Result, Ok, Err}
use Rattle.std.specs.Fmt.{decimal}
use Rattle.specification.specs.declared.Refusal.{Refusal}
use Rattle.specification.specs.declared.Refusal.TheVariants as refusal
use Rattle.specification.specs.declared.Placed.{Placed}
use Rattle.specification.specs.declared.Placed.TheVariants as placed
use Rattle.specification.specs.declared.Quadruple.{Quadruple}
use Rattle.specification.specs.declared.Quadruple.TheVariants as quadruple
use Rattle.specification.specs.declared.Counts.{Counts}

-- n and m
abbrev pub Size : Type 0
Size = Counts

-- a value, or a refusal: its number in the table under "Refused", and the values returned with it
pub data Reply (A : Type 0) : Type 0 where
  gives : A → Reply A
  refuses : ℕ → List ℕ → Reply A

infixl 20 ◌>>=◌
-- "A refused book stops the work": so does every refusal; a value goes on to what comes next
abbrev pub ◌>>=◌ : {A B : Type 0} → Reply A → (A → Reply B) → Reply B
gives a >>= f = f a
refuses k vs >>= f = refuses k vs

-- a buffer afterwards: "Left as it was" where the reply is a refusal, else what is written for the value
abbrev pub afterwards : {A : Type 0} → Reply A → List ℕ → (A → List ℕ) → List ℕ
afterwards (gives a) old written = written a
afterwards (refuses k vs) old written = old

-- refused with this number and these values where the test holds
abbrev pub refuse_if : Bool → ℕ → List ℕ → Reply (Unit {0})
refuse_if true k vs = refuses k vs
refuse_if false k vs = gives tt

-- a line of the table under "Refused": a cause's number, and the values returned with it
pub record Line : Type 0 where
  pub number : ℕ
  pub values : List ℕ

-- a line, from its number and values
abbrev line : ℕ → List ℕ → Line
line k vs = record { number = k; values = vs }

-- the table under "Refused", its columns "Number" and "Returned"
abbrev pub stated : Refusal → Line
stated refusal.UnderSeven = line 1 []
stated refusal.MarkDiffers = line 2 []
stated refusal.VersionNotOne = line 3 []
stated refusal.CountOutside = line 4 []
stated (refusal.BitOutside lot) = line 5 (lot.0 ∷ [])
stated refusal.EndsEarly = line 6 []
stated (refusal.CostTooHigh lot call) = line 7 (lot.0 ∷ call.0 ∷ [])
stated refusal.BytesAfter = line 8 []
stated (refusal.PairNotEligible place) = line 9 (place ∷ [])
stated (refusal.PairMetBefore place) = line 10 (place ∷ [])
stated (refusal.CrossNotEligible i j k l) = line 11 (i.0 ∷ j.0 ∷ k.0 ∷ l.0 ∷ [])
stated (refusal.CrossSumTooHigh i j k l) = line 12 (i.0 ∷ j.0 ∷ k.0 ∷ l.0 ∷ [])
stated refusal.NoOrder = line 13 []
stated refusal.PairMissing = line 14 []
stated refusal.CountsDiffer = line 15 []
stated refusal.AmountTooHigh = line 16 []
stated refusal.BufferTooShort = line 17 []
stated refusal.CallsExceedLots = line 18 []
stated refusal.NoIdleCall = line 19 []
stated refusal.AboveEight = line 20 []
stated refusal.ReserveExceedsLot = line 21 []

-- what is printed of a cause: its number, and each value after a space, in decimal
abbrev pub cause_text : Refusal → List ℕ
cause_text r = decimal (stated r).number ++ flat_map (λ v. 32 ∷ decimal v) (stated r).values

-- refused for this cause
abbrev pub refused : {A : Type 0} → Refusal → Reply A
refused r = refuses (stated r).number (stated r).values

-- it is never refused by this number
abbrev pub Never : ℕ → {A : Type 0} → Reply A → Type 0
Never k r = (vs : List ℕ) → r ≡ refuses k vs → ⊥

-- the "three verdicts" of a run (document 02, request 1)
pub data Verdict : Type 0 where
  full covered short : Verdict

-- a run's answer: its verdict, (units, cost)
pub record Outcome : Type 0 where
  pub verdict : Verdict
  pub units : ℕ
  pub cost : ℤ

-- a value, as f states it, or the refusal
abbrev pub told_as : {A B : Type 0} → (A → B) → Result A Refusal → Reply B
told_as f (Ok a) = gives (f a)
told_as f (Err r) = refused r

-- n and m, an order's count of pairs, a file's length, or that a part of a reading passes: the value itself
abbrev pub told : {A : Type 0} → Result A Refusal → Reply A
told = told_as (λ a. a)

-- Full (units, cost), Covered (units, cost) or Short (units, cost)
abbrev pub outcome_of : Placed → Outcome
outcome_of (placed.Full u c) = record { verdict = full; units = u; cost = c }
outcome_of (placed.Covered u c) = record { verdict = covered; units = u; cost = c }
outcome_of (placed.Short u c) = record { verdict = short; units = u; cost = c }

abbrev pub stated_placed : Result Placed Refusal → Reply Outcome
stated_placed = told_as outcome_of

-- the test of (i, j) with lot k and call l passes, or is the check's 11 or 12 (document 02, request 3)
abbrev pub stated_quadruple : ℕ → ℕ → ℕ → ℕ → Quadruple → Reply (Unit {0})
stated_quadruple i j k l quadruple.Holds = gives tt
stated_quadruple i j k l quadruple.NotEligible = refuses 11 (i ∷ j ∷ k ∷ l ∷ [])
stated_quadruple i j k l quadruple.TooHigh = refuses 12 (i ∷ j ∷ k ∷ l ∷ [])
