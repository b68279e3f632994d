-- What is left of what is searched, and what is told of a pair that is tried. A pair is hindered in one or two halves, low and high. By ranks
-- the low half is that it does not fit with the last lot of its call at the first call of its lot, and the high half with the first lot at
-- the last call. Without ranks it is hindered in the low half, and what hinders it may be anywhere.
use Rattle.std.specs.Prelude.{◌≡◌, Bool, true, false, cond, not, ◌&&◌, ◌||◌, List, ℕ, ◌+◌, ◌<◌, length, get_or, Option, Some, None}
use Rattle.specification.specs.Book.{bit}
use Rattle.book.specs.Table.{entry}
use Rattle.words.specs.Lefts.{is_left}
use Rattle.ranks.specs.Numbered.{Compared}
use Rattle.lines.specs.declared.Left.{Left}
use Rattle.lines.specs.Lines.{Lined, Ended}
use Rattle.trial.specs.declared.table.Given.{Given}
use Rattle.trial.specs.declared.Hindered.{Hindered}
use Rattle.trial.specs.Testing.{LetsPass, Passes, Hinders, Raised}

-- what is left, in words, by lines with their ends, and in what trials compare: with ranks the costs of all pairs, without the raised slacks of those left
pub record Kept (given : Given) (left : Left) (compared : List ℕ) : Type 0 where
  pub among : (i j : ℕ) → is_left left.lefts i j ≡ true → is_left given.eligible.now i j ≡ true
  pub lined : Lined given.ranking.now left
  pub ended : Ended given.ranking.now left
  pub raised_is : given.ranking.now.ranked ≡ false → Raised given.slacks.now left.lefts compared
  pub costs_are : given.ranking.now.ranked ≡ true → Compared true given.slacks.now compared
  pub lefts_long : length left.lefts ≡ 32
  pub compared_long : length compared ≡ 1024

-- the lots of the ranks below its number let a pair pass
pub record Passed (given : Given) (lefts passed : List ℕ) : Type 0 where
  pub each : (i j p : ℕ) → i < 32 → j < 32 → p < entry passed i j → LetsPass given.slacks.now lefts i j (get_or given.ranking.now.names p 0)
  pub long : length passed ≡ 1024

-- (i, j) is hindered; by ranks, at the far end of its call and the near end of its lot
pub record HinderedIn (ranked : Bool) (slacks lefts nears fars : List ℕ) (i j : ℕ) : Type 0 where
  pub lot : ℕ
  pub call : ℕ
  pub by_it : Hinders slacks lefts i j lot call
  pub cornered : ranked ≡ true → (lot ≡ get_or fars (32 + j) 0) × (call ≡ get_or nears i 0)

-- in the halves that are told, at least one; for the high half near and far are exchanged
pub record Halves (ranked : Bool) (slacks : List ℕ) (left : Left) (i j : ℕ) (told : Hindered) : Type 0 where
  pub low_told : told.low ≡ true → HinderedIn ranked slacks left.lefts left.nears left.fars i j
  pub high_told : told.high ≡ true → HinderedIn ranked slacks left.lefts left.fars left.nears i j
  pub told_in : (told.low || told.high) ≡ true

-- what is told by the tests at the two corners
abbrev pub corners_tell : Bool → Bool → Option Hindered
corners_tell low high = cond (low && high) None (Some (record { low = not low; high = not high }))

-- what a trial of (i, j) answers: that nothing hinders it, or what does
abbrev pub TrialOf : Given → Left → ℕ → ℕ → Option Hindered → Type 0
TrialOf given left i j None = Passes given.slacks.now left.lefts i j
TrialOf given left i j (Some told) = Halves given.ranking.now.ranked given.slacks.now left i j told

-- what is asked of the caller that tries (i, j): it is left, and what is kept stands
pub record Trying (given : Given) (left : Left) (compared : List ℕ) (i j : ℕ) : Type 0 where
  pub kept : Kept given left compared
  pub is_left_lem : is_left left.lefts i j ≡ true

-- the ranks of the lots that are to be asked about (i, j): they are on the line of call j, and each other lot that has it lets the pair pass
pub record ToAsk (given : Given) (left : Left) (i j lots : ℕ) : Type 0 where
  pub passed : (k : ℕ) → is_left left.lefts k j ≡ true → bit lots (get_or given.ranking.now.ranks k 0) ≡ false
      → LetsPass given.slacks.now left.lefts i j k
  pub on_column : (p : ℕ) → bit lots p ≡ true → is_left left.lines (32 + j) p ≡ true
