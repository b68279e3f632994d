-- `panel::search::take_all`: a turn takes the lowest free pair, with room, which is added, or without (`kept_room`, `kept_no_room`). Where none is
-- free there is no order (`kept_stop`), and after all turns there is one (`kept_done`).
use mathlib.Core.Path.{◌≡◌, refl, subst}
use mathlib.Core.List.{List}
use Prim.Native.Nat.{ℕ, ◌+◌, ◌*◌, ◌-◌, ◌≤◌, ◌<◌}
use native.Mathlib.Nat.{mul-le-mul}
use native.Mathlib.Omega.{arith}
use lib.Arith.{digits_lt}
use lib.ListN.{get_or}
use Rattle.remaining.specs.declared.Remaining.{Remaining}
use Rattle.remaining.proofs.States.{no_sums}
use Rattle.panel_table.specs.declared.filling.Table.{Table}
use Rattle.panel_table.specs.Filling.{slack_at}
use Rattle.panel.specs.declared.search.Taken.{Taken}
use Rattle.panel.specs.Search.{FirstFree, NextIs, Searching}
use Rattle.panel.proofs.Taking.{Kept, total_few, kept_falls, kept_first, kept_stop, kept_done, kept_room, kept_no_room}
use Rattle.panel.proofs.search.take_all.Goals as goal
use Rattle.panel.proofs.search.take_all.Goals.{then-room-gt0, else-room-gt0}

module _ {table : Table} {n m total : ℕ} {before : Remaining 8} (asked : Searching table n m total before) {count : ℕ} {lefts least : List ℕ}
    {state : Taken} {units : List ℕ} (k : Kept table.slacks n m total before count lefts least state units) where
  few_turns : count < total → count < 64
  few_turns h = omega (arith, total_few _ _ _ _ _ asked)

  -- a pair was found
  module _ {i j : ℕ} (free : FirstFree lefts least i j) where
    inside : (i < n) × (j < m) × (slack_at table.slacks i j ≡ 0 → ⊥)
    inside = k.left.inside i j free.frees.on

    in_8 : (i < 8) × (j < 8)
    in_8 = (omega (arith, inside.0, asked.lots_few), omega (arith, inside.1, asked.calls_few))

    entry_in : i * m + j < 64
    entry_in = omega (arith, digits_lt inside.0 inside.1, mul-le-mul asked.lots_few asked.calls_few)

    left_fits : get_or state.remaining.lots i 0 < 4294967296
    left_fits = omega (arith, kept_falls k i inside.0, asked.fits i inside.0)

    worth : (x : ℕ) → x ≤ get_or state.remaining.lots i 0 → x * (2000001 - slack_at table.slacks i j) ≤ 4294967296 * 2000001
    worth x h = mul-le-mul {n₁ = x} {n₂ = 4294967296} {m₂ = 2000001} (omega (arith, left_fits)) (omega arith)

pub loop-turn-init : goal.loop-turn-init
loop-turn-init c =
    let all = c.all-waiting.ensures in
    record {
      kept = rw (all.lefts_are, c.requires.1, no_sums _ c.default.ensures) (kept_first _ _ _ _ _ c.requires.0 _ (rw all.lefts_are at all.words));
      marks = all.marks;
    }

pub returns-in_err-lot : goal.returns-in_err-lot
returns-in_err-lot c =
    let k = c.loop-turn.invariant.kept in
    let none = subst (NextIs _ _ _) c.in_err-lot.was c.next.ensures in
    rw (kept_stop _ _ _ _ _ c.requires.0 _ _ _ _ _ k c.loop-turn-test.true none) c.from_residual.ensures

pub overflow_cast-units : goal.overflow_cast-units
overflow_cast-units c =
    let free = subst (NextIs _ _ _) c.in_ok-lot.was c.next.ensures in
    omega (arith, left_fits c.requires.0 c.loop-turn.invariant.kept free)

pub overflow_add-state : goal.overflow_add-state
overflow_add-state c =
    let k = c.loop-turn.invariant.kept in
    let free = subst (NextIs _ _ _) c.in_ok-lot.was c.next.ensures in
    omega (arith, left_fits c.requires.0 k free, k.units_bound, few_turns c.requires.0 k c.loop-turn-test.true)

pub overflow_mul-state : goal.overflow_mul-state
overflow_mul-state c =
    let free = subst (NextIs _ _ _) c.in_ok-lot.was c.next.ensures in
    rw (c.from.ensures, c.slack_at-cost.ensures) (omega (arith, worth c.requires.0 c.loop-turn.invariant.kept free c.room-room.result (omega arith)))

pub overflow_add-state-then-room-gt0 : goal.overflow_add-state-then-room-gt0
overflow_add-state-then-room-gt0 c =
    let k = c.loop-turn.invariant.kept in
    let free = subst (NextIs _ _ _) c.in_ok-lot.was c.next.ensures in
    rw (c.from.ensures, c.slack_at-cost.ensures) (omega (
      arith,
      worth c.requires.0 k free c.room-room.result (omega arith),
      k.lifted_bound,
      few_turns c.requires.0 k c.loop-turn-test.true,
    ))

pub loop-turn-preserved : goal.loop-turn-preserved
loop-turn-preserved c =
    let asked = c.requires.0 in
    let k = c.loop-turn.invariant.kept in
    let more = c.loop-turn-test.true in
    let free = subst (NextIs _ _ _) c.in_ok-lot.was c.next.ensures in
    let took = c.take.ensures in
    elim c.if-room-gt0.branch [
      | then-room-gt0 w ↦ rw (w.units-is, w.state-is, w.from.ensures, w.slack_at-cost.ensures) (record {
        kept = kept_room _ _ _ _ _ asked _ _ _ _ _ k _ _ free _ _ _ took.out refl took.renewed _ _ w.give-state.ensures c.room-room.ensures more
            (omega (arith, left_fits asked k free));
        marks = took.marks;
      })
      | else-room-gt0 w ↦ rw (w.units-is, w.state-is) (record {
        kept = kept_no_room _ _ _ _ _ asked _ _ _ _ _ k _ _ free _ _ _ took.out refl took.renewed (omega arith) more;
        marks = took.marks;
      })
    ]

pub returns : goal.returns
returns c =
    let k = c.loop-turn.invariant.kept in
    let few = total_few _ _ _ _ _ c.requires.0 in
    let e : c.loop-turn.turn ≡ c.args.table.now.total = omega arith in
    rw (kept_done _ _ _ _ _ c.requires.0 _ _ _ _ _ k (omega arith)) (
      c.loop-turn.state,
      refl,
      omega (arith, k.units_bound, few),
      omega (arith, k.lifted_bound, few),
      k.no_idle,
      λ a b h. (k.shows a b h).gives,
    )
