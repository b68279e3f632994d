-- `slacks::filling::enter_set` meets its contract. A turn passes over the clear bits before the lowest call that is left, and enters that call.
use Rattle.std.proofs.Common.{◌≡◌, ℕ, ◌+◌, ◌<◌, List, arith}
use Rattle.specification.specs.Book.{row_word, row_at, book_lots}
use Rattle.words.specs.Words.{LowestIn, Without}
use Rattle.words.specs.Numbers.{LeftFrom}
use Rattle.words.proofs.OneByOne.{left_none, left_next, left_more}
use Rattle.slacks.specs.Filling.{Reached}
use Rattle.slacks.proofs.Entering.{AtCost, lot_within, at_cost, reached_to, reached_all}
use Rattle.slacks.proofs.filling.enter_set.Goals as goal

next_cost : {book slacks : List ℕ} {i next word left x after : ℕ} → i < book_lots book → word ≡ row_word (row_at book i)
    → ((j : ℕ) × LeftFrom word j left × Reached book i j next slacks) → LowestIn left x × (x < 32) × Without left x after
    → AtCost book i x next slacks × LeftFrom word (x + 1) after
next_cost lot_in word_is (j, l, r) (low, few, gone) =
    let from = left_next l low few gone in
    let to = reached_to r lot_in (rw word_is at from) in
    (at_cost to lot_in (rw word_is at (from.is_set few)), left_more l low few gone)

pub overflow_add-next : goal.overflow_add-next
overflow_add-next c = let known = lot_within c.requires.0 c.requires.1 in record { fits = omega arith }

pub cost_at-requires : goal.cost_at-requires
cost_at-requires c = (next_cost c.requires.1 c.requires.2 c.loop-j.invariant c.in-Some.ensures.steps).0.fits

pub slack_of-requires : goal.slack_of-requires
slack_of-requires c = rw c.cost_at.ensures (next_cost c.requires.1 c.requires.2 c.loop-j.invariant c.in-Some.ensures.steps).0.low

pub bounds-slacks-lot : goal.bounds-slacks-lot
bounds-slacks-lot c = (next_cost c.requires.1 c.requires.2 c.loop-j.invariant c.in-Some.ensures.steps).0.inside

pub overflow_add-next-in-loop-j : goal.overflow_add-next-in-loop-j
overflow_add-next-in-loop-j c =
    let known = next_cost c.requires.1 c.requires.2 c.loop-j.invariant c.in-Some.ensures.steps in
    record { fits = omega (arith, known.0.short) }

pub loop-j-preserved : goal.loop-j-preserved
loop-j-preserved c =
    let (cost, left) = next_cost c.requires.1 c.requires.2 c.loop-j.invariant c.in-Some.ensures.steps in
    (c.in-Some.j + 1, left, rw (c.slack_of.ensures, c.cost_at.ensures) cost.entered)

pub returns : goal.returns
returns c =
    let (j, l, r) = c.loop-j.invariant in
    let to = reached_to r c.requires.1 (rw c.requires.2 at (left_none l c.in-None.ensures.steps.0 r.bounded)) in
    reached_all to c.requires.1 (lot_within c.requires.0 c.requires.1).1
