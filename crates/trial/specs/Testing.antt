-- When a pair can be taken, by the slacks and the words of what is left, and what hinders it.
use Rattle.std.specs.Prelude.{◌≡◌, Bool, true, false, List, ℕ, suc, ◌+◌, ◌*◌, ◌≤◌, ◌<◌, get_or}
use Rattle.specification.specs.Costs.{cost_top}
use Rattle.book.specs.Table.{entry}
use Rattle.slacks.specs.Slacks.{remains}
use Rattle.words.specs.Lefts.{is_left}

-- (i, j) fits with (k, l): that pair has slack, and the slacks of these two are no less than those of (i, l) and (k, j), so that their costs are
-- no more
pub record Fitting (slacks : List ℕ) (i j k l : ℕ) : Type 0 where
  pub has_slack : remains slacks k l ≡ true
  pub no_dearer : entry slacks i l + entry slacks k j ≤ entry slacks i j + entry slacks k l

-- lot k lets (i, j) pass
pub record LetsPass (slacks lefts : List ℕ) (i j k : ℕ) : Type 0 where
  pub fits : is_left lefts k j ≡ true → (l : ℕ) → is_left lefts i l ≡ true → Fitting slacks i j k l

-- (i, j) can be taken: it is left, and each lot lets it pass
pub record Passes (slacks lefts : List ℕ) (i j : ℕ) : Type 0 where
  pub on : is_left lefts i j ≡ true
  pub passed : (k : ℕ) → LetsPass slacks lefts i j k

-- (k, l) hinders (i, j): (k, j) and (i, l) are left, and it does not fit
pub record Hinders (slacks lefts : List ℕ) (i j k l : ℕ) : Type 0 where
  pub held : is_left lefts k j ≡ true
  pub left : is_left lefts i l ≡ true
  pub unfit : Fitting slacks i j k l → ⊥

-- the slacks of the pairs left stand raised above all others, and 0 for each other pair of a lot to which something is left
pub record Raised (slacks lefts raised : List ℕ) : Type 0 where
  pub on : (i l : ℕ) → i < 32 → l < 32 → is_left lefts i l ≡ true → entry raised i l ≡ entry slacks i l + suc cost_top
  pub gone : (i j l : ℕ) → is_left lefts i j ≡ true → l < 32 → is_left lefts i l ≡ false → entry raised i l ≡ 0
  pub low : (x : ℕ) → get_or raised x 0 ≤ 2 * suc cost_top

-- whether it is found that by the raised slacks (i, j) does not fit with lot k, at one of the first calls
pub record Misfits (slacks raised : List ℕ) (i j k count : ℕ) (found : Bool) : Type 0 where
  pub none : found ≡ false → (l : ℕ) → l < count → entry raised i l + entry slacks k j ≤ entry slacks k l + (entry slacks i j + suc cost_top)
  pub some : found ≡ true → (l : ℕ) × (l < 32) × (entry slacks k l + (entry slacks i j + suc cost_top) < entry raised i l + entry slacks k j)
