-- What is left lies among the lots and calls of the table, and has slack; a lot that still has a call is on its line.
use mathlib.Core.Path.{◌≡◌, sym, ◌∙◌}
use mathlib.Core.Logic.{∥∥₁_elim}
use mathlib.Core.Bool.{true}
use mathlib.Core.List.{List}
use Prim.Native.Nat.{ℕ, ◌+◌, ◌*◌, ◌≤◌, ◌<◌}
use native.Mathlib.Nat.{zero-add}
use native.Mathlib.Omega.{arith}
use denote.Struct.Props.{props}
use lib.ListN.{get_or}
use Rattle.book.specs.Table.{entry}
use Rattle.slacks.specs.Slacks.{remains, Capped}
use Rattle.words.specs.Lefts.{is_left}
use Rattle.trial.specs.declared.table.Given.{Given}
use Rattle.lines.specs.declared.Left.{Left}
use Rattle.trial.specs.Tables.{Tabled}
use Rattle.trial.specs.Left.{Trying}

module _ {given : Given} {left : Left} {compared : List ℕ} {i j : ℕ} (t : Trying given left compared i j) where
  pub capped : Capped given.slacks.now
  capped = ∥∥₁_elim given.tabled (hlevel props) (λ d. d.table.slacks_are.capped)

  pub cap : (k l : ℕ) → entry given.slacks.now k l ≤ 2000001
  cap k l = capped (32 * k + l)

  pub left_in : (d : Tabled given.slacks.now given.eligible.now given.ranking.now) (k l : ℕ) → is_left left.lefts k l ≡ true → (k < d.lots) × (l < d.calls)
  left_in d k l e = d.table.eligible_are.inside k l (t.kept.among k l e)

  pub left_few : (k l : ℕ) → is_left left.lefts k l ≡ true → (k < 32) × (l < 32)
  left_few k l e = ∥∥₁_elim given.tabled (hlevel props) (λ d.
      let (hk, hl) = left_in d k l e in
      let r = d.table.slacks_are in
      (omega (arith, r.lots_few), omega (arith, r.calls_few)))

  pub own_few : (i < 32) × (j < 32)
  own_few = left_few i j t.is_left_lem

  pub has_slack : (k l : ℕ) → is_left left.lefts k l ≡ true → remains given.slacks.now k l ≡ true
  has_slack k l e = ∥∥₁_elim given.tabled (hlevel props) (λ d.
      let (hk, hl) = left_in d k l e in sym (d.table.eligible_are.each k l hk hl) ∙ t.kept.among k l e)

  pub on_line : (k : ℕ) → is_left left.lefts k j ≡ true → (is_left left.lines (32 + j) (get_or given.ranking.now.ranks k 0) ≡ true) × (get_or given.ranking.now.names (get_or given.ranking.now.ranks k 0) 0 ≡ k)
  on_line k e = let o = t.kept.lined.column k j e in (simp zero-add at o.is_on, simp zero-add at o.named)

  pub rank_few : get_or given.ranking.now.ranks i 0 < 32
  rank_few = t.kept.lined.within (32 + j) (get_or given.ranking.now.ranks i 0) (on_line i t.is_left_lem).0
