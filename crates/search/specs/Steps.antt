-- What the steps of the search answer and change.
use Rattle.std.specs.Prelude.{◌≡◌, Bool, true, false, cond, not, ◌&&◌, ◌||◌, List, ℕ, ◌+◌, ◌*◌, ◌<◌, eqb, length, get_or, set, Option, Some, None}
use Rattle.specification.specs.Book.{bit}
use Rattle.specification.specs.declared.Lot.{Lot}
use Rattle.specification.specs.declared.Call.{Call}
use Rattle.book.specs.Table.{entry}
use Rattle.words.specs.Words.{Either}
use Rattle.words.specs.Lefts.{is_left, TakenFrom}
use Rattle.ranks.specs.declared.Ranking.{Ranking}
use Rattle.lines.specs.Lines.{Lined, Ended, EndsKept}
use Rattle.trial.specs.declared.table.Given.{Given}
use Rattle.trial.specs.Testing.{Passes}
use Rattle.search.specs.declared.marks.Half.{Half}
use Rattle.search.specs.declared.Search.{Search}
use Rattle.search.specs.Marks.{Waiting, marked, Asked}

-- lot i is asked: of its pairs that are left, those below a call are marked, and the marks of the other lots are as they were
pub record AskedBelow (lefts : List ℕ) (i end : ℕ) (low low' high high' : Half) : Type 0 where
  pub own : (l : ℕ) → l < end → is_left lefts i l ≡ true → marked low' high' i l ≡ true
  pub others : (k l : ℕ) → (k ≡ i → ⊥) → marked low' high' k l ≡ marked low high k l

-- number j is put into word i of a list, where the test holds
pub record PutIf (test : Bool) (i j : ℕ) (words words' : List ℕ) : Type 0 where
  pub each : (a l : ℕ) → is_left words' a l ≡ ((eqb a i && (eqb l j && test)) || is_left words a l)
  pub long : length words' ≡ length words

-- the lowest call whose pair with lot i can be taken, the pairs before it being marked; or that there is none, and all are marked
abbrev pub FirstIs : Given → ℕ → Search → Search → Option Call → Type 0
FirstIs given i search search' None = AskedBelow search'.left.lefts i 32 search.low search'.low search.high search'.high
FirstIs given i search search' (Some call) =
    AskedBelow search'.left.lefts i call.0 search.low search'.low search.high search'.high
    × Passes given.slacks.now search'.left.lefts i call.0 × (call.0 < 32)

-- (i, j) is the lowest pair that can be taken
pub record FirstPair (slacks lefts : List ℕ) (i j : ℕ) : Type 0 where
  pub lot_in : i < 32
  pub call_in : j < 32
  pub passes : Passes slacks lefts i j
  pub no_lower_lot : (a l : ℕ) → a < i → Passes slacks lefts a l → ⊥
  pub no_lower_call : (l : ℕ) → l < j → Passes slacks lefts i l → ⊥

-- the lowest pair that can be taken, its lot among those that are still to be asked; or that there is none
abbrev pub NextIs : Given → Search → Option (Lot × Call) → Type 0
NextIs given search None = (i j : ℕ) → Passes given.slacks.now search.left.lefts i j → ⊥
NextIs given search (Some next) =
    FirstPair given.slacks.now search.left.lefts next.0.0 next.1.0
    × Asked search.left.lefts search.low search.high search.to_ask × (bit search.to_ask next.0.0 ≡ true)

-- whether what hinders pairs at the end of a line may be gone with x
pub record MayGo (ranked : Bool) (end x : ℕ) (r : Bool) : Type 0 where
  pub stays : r ≡ false → (ranked ≡ true) × (end ≡ x → ⊥)

-- the marks with call j of some lots are taken back; those of them are asked again that have none with it in the other half, and whose pair is not taken
pub record Released (j : ℕ) (some : ℕ → Bool) (taken other marks marks' : List ℕ) (again : ℕ) : Type 0 where
  pub cleared : (k l : ℕ) → is_left marks' k l ≡ (not (eqb l j && some k) && is_left marks k l)
  pub again_are : (k : ℕ) → bit again k ≡ (some k && (not (is_left other k j) && eqb (entry taken k j) 0))
  pub long : length marks' ≡ length marks

-- the marks of a half are fewer, and their lots wait: one of lot i stays only where j does not end its row, and one with call j where i does not
-- end its column, by ranks; a lot but i that lost a mark, and is not to be asked for it, has one in the other half, or its pair is taken
pub record Unmarked (ranked : Bool) (i j row column : ℕ) (taken : List ℕ) (other half half' : Half) (again : ℕ) : Type 0 where
  pub fewer : (k l : ℕ) → is_left half'.marks k l ≡ true → is_left half.marks k l ≡ true
  pub row_stays : (l : ℕ) → is_left half'.marks i l ≡ true → (ranked ≡ true) × (row ≡ j → ⊥)
  pub column_stays : (k : ℕ) → is_left half'.marks k j ≡ true → (ranked ≡ true) × (column ≡ i → ⊥)
  pub waits_are : Waiting half'
  pub asked : (k l : ℕ) → (k ≡ i → ⊥) → bit again k ≡ false → entry taken k l ≡ 0 → is_left half.marks k l ≡ true → marked half' other k l ≡ true

-- (i, j) is taken: it is lost, its raised slack, without ranks, is 0, it is marked as taken, and the marks of hindered pairs that may be gone with it are
-- taken back, in either half; lots are to be asked for these, beside those that were
pub record Taken (ranking : Ranking) (i j : ℕ) (search search' : Search) (compared compared' : List ℕ) : Type 0 where
  pub from_lot : TakenFrom i j search.left.lefts search'.left.lefts
  pub lined : Lined ranking search'.left
  pub ended : Ended ranking search'.left
  pub nears_kept : EndsKept i j search'.left.lefts search.left.nears search'.left.nears
  pub fars_kept : EndsKept i j search'.left.lefts search.left.fars search'.left.fars
  pub lowered : compared' ≡ cond ranking.ranked compared (set compared (32 * i + j) 0)
  pub passed_kept : search'.passed ≡ search.passed
  pub mark_put : search'.taken ≡ set search.taken (32 * i + j) 1
  pub low_again : ℕ
  pub high_again : ℕ
  pub again : ℕ
  pub low_unmarked : Unmarked ranking.ranked i j (get_or search.left.nears i 0) (get_or search.left.fars (32 + j) 0)
      search'.taken search.high search.low search'.low low_again
  pub high_unmarked : Unmarked ranking.ranked i j (get_or search.left.fars i 0) (get_or search.left.nears (32 + j) 0)
      search'.taken search'.low search.high search'.high high_again
  pub asked_again : Either low_again high_again again
  pub asked : Either search.to_ask again search'.to_ask
