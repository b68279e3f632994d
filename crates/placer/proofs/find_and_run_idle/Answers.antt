-- After the amounts the two totals say whether 18 comes, the count of calls whether 19 does, and else `find_then_run` of the enlarged book,
-- with the idle call's amount in the array, is what is asked (`idle_is`).
use Rattle.std.proofs.Common.{◌≡◌, ℕ, ◌-◌, ◌*◌, ◌≤◌, List, length, take, refl, sym, ◌∙◌, ap₂, arith, rules}
use Rattle.std.specs.List as list
use Rattle.specification.specs.Reply.{gives}
use Rattle.remaining.specs.declared.Remaining.{Remaining}
use Rattle.remaining.specs.States.{Loaded}
use Rattle.remaining.proofs.Lists.{sum_fits}
use Rattle.std.proofs.lemmas.Result.{err_from_is_err_and}
use Rattle.transport.specs.Idle.{idle_amount}
use Rattle.specification.specs.Book.{problem_of}
use Rattle.specification.specs.Amounts.{lot_amount, call_amount, read_amounts}
use Rattle.specification.specs.Idle.{lots_total, calls_total, found_to_run_idle, find_and_run_idle, find_and_run_idle_flow}
use Rattle.book.specs.declared.Book.{Book}
use Rattle.book.proofs.Readable.{read_is}
use Rattle.remaining.proofs.Loading.{sizes_within, can_load, lots_fit, calls_fit, totals_are}
use Rattle.placer.proofs.Placing.{refused_by_18, refused_by_19, idle_is, idle_held}
use Rattle.placer.proofs.find_and_run_idle.Goals as goal

pub returns-in_err-book : goal.returns-in_err-book
unfolding find_and_run_idle found_to_run_idle find_and_run_idle_flow
returns-in_err-book c =
    let p = err_from_is_err_and c.from_residual.result c.from_residual.ensures.1 in
    let refused = sym c.in_err-book.ensures.counts in
    record { result_value = rw (p.1, p.2) (simp refused refl); flow_after = simp refused refl }

pub load-real-requires : goal.load-real-requires
load-real-requires c =
    let b = c.in_ok-book.book in
    let read = sym (rw (← c.in_ok-book.ensures.bytes) at c.in_ok-book.ensures.counts) in
    let (lots, calls, reserved) = can_load _ _ b.readable c.args.amounts.now read in
    (omega arith, (omega arith, lots, calls, reserved))

-- the book and the amounts are read, and loaded
module _ (b : Book) (amounts : List ℕ) (read : gives b.counts ≡ read_amounts b.bytes.now amounts) (r : Remaining 32)
    (loaded : Loaded amounts b.counts.lots b.counts.calls r) (full : (length r.lots ≡ 32) × (length r.calls ≡ 32)) where
  in_front : (b.counts.lots ≤ length r.lots) × (b.counts.calls ≤ length r.calls)
  in_front = let (lots, calls) = sizes_within _ _ b.readable in (omega (arith, lots, full.0), omega (arith, calls, full.1))

  stock_fits : list.sum (take b.counts.lots r.lots) ≤ 4294967296 * b.counts.lots
  stock_fits = sum_fits r.lots _ in_front.0 (lots_fit _ _ b.readable amounts (sym read) loaded)

  wanted_fits : list.sum (take b.counts.calls r.calls) ≤ 4294967296 * b.counts.calls
  wanted_fits = sum_fits r.calls _ in_front.1 (calls_fit _ _ b.readable amounts (sym read) loaded)

  totals : (list.sum (take b.counts.lots r.lots) ≡ lots_total b.bytes.now amounts) × (list.sum (take b.counts.calls r.calls) ≡ calls_total b.bytes.now amounts)
  totals = totals_are _ _ b.readable amounts (sym read) in_front.0 in_front.1 loaded

pub shared_ref_as_front-total : goal.shared_ref_as_front-total
shared_ref_as_front-total c = (sizes_within _ _ c.in_ok-book.book.readable).0

pub shared_ref_as_front-total-2 : goal.shared_ref_as_front-total-2
shared_ref_as_front-total-2 c = (sizes_within _ _ c.in_ok-book.book.readable).1

pub total-stock-requires : goal.total-stock-requires
total-stock-requires c =
    let b = c.in_ok-book.book in
    let read = rw (← c.in_ok-book.ensures.bytes) at c.in_ok-book.ensures.counts in
    omega (arith, sizes_within _ _ b.readable, stock_fits b _ read _ c.load-real.ensures (search rules))

pub total-wanted-requires : goal.total-wanted-requires
total-wanted-requires c =
    let b = c.in_ok-book.book in
    let read = rw (← c.in_ok-book.ensures.bytes) at c.in_ok-book.ensures.counts in
    omega (arith, sizes_within _ _ b.readable, wanted_fits b _ read _ c.load-real.ensures (search rules))

pub returns-then-stock-wanted : goal.returns-then-stock-wanted
returns-then-stock-wanted c =
    let b = c.in_ok-book.book in
    let read = rw (← c.in_ok-book.ensures.bytes) at c.in_ok-book.ensures.counts in
    let are = totals b _ read _ c.load-real.ensures (search rules) in
    let (answer, flow) = refused_by_18 _ _ c.args.flow.now _ (sym read)
    (omega (arith, c.total-stock.ensures ∙ are.0, c.total-wanted.ensures ∙ are.1, c.if-stock-wanted.true)) in
    rw (← c.in_ok-book.ensures.bytes) (record { result_value = answer; flow_after = flow })

pub returns-then-calls-eq32 : goal.returns-then-calls-eq32
returns-then-calls-eq32 c =
    let b = c.in_ok-book.book in
    let read = rw (← c.in_ok-book.ensures.bytes) at c.in_ok-book.ensures.counts in
    let are = totals b _ read _ c.load-real.ensures (search rules) in
    let (answer, flow) = refused_by_19 _ _ c.args.flow.now _ (sym read)
    (omega (arith, c.total-stock.ensures ∙ are.0, c.total-wanted.ensures ∙ are.1, c.if-stock-wanted.false))
    (omega (arith, (read_is _ _ b.readable).calls_is, c.if-calls-eq32.true)) in
    rw (← c.in_ok-book.ensures.bytes) (record { result_value = answer; flow_after = flow })

pub find_then_run-requires : goal.find_then_run-requires
find_then_run-requires c =
    let b = c.in_ok-book.book in
    let read = rw (← c.in_ok-book.ensures.bytes) at c.in_ok-book.ensures.counts in
    let within = sizes_within _ _ b.readable in
    let held = c.with_idle-enlarged.ensures b.counts.lots _ _ c.load-real.ensures in
    record { room = λ _. omega arith; fits = lots_fit _ _ b.readable c.args.amounts.now (sym read) held }

pub returns : goal.returns
returns c =
    let b = c.in_ok-book.book in
    let book = b.bytes.now in
    let amounts = c.args.amounts.now in
    let read = rw (← c.in_ok-book.ensures.bytes) at c.in_ok-book.ensures.counts in
    let are = totals b _ read _ c.load-real.ensures (search rules) in
    let spare : c.total-stock.result - c.total-wanted.result ≡ idle_amount (problem_of book) (lot_amount amounts) (call_amount book amounts) =
    ap₂ ◌-◌ (c.total-stock.ensures ∙ are.0) (c.total-wanted.ensures ∙ are.1) in
    let held = idle_held _ _ c.args.flow.now _ (sym read) b.readable c.load-real.ensures c.with_idle-enlarged.ensures spare in
    let placed = c.find_then_run.ensures _ _ held in
    let same = idle_is _ _ c.args.flow.now _ (sym read)
    (omega (arith, c.total-stock.ensures ∙ are.0, c.total-wanted.ensures ∙ are.1, c.if-stock-wanted.false))
    (λ e. omega (arith, (read_is _ _ b.readable).calls_is, c.if-calls-eq32.false)) in
    rw (← c.in_ok-book.ensures.bytes) (record { result_value = placed.0 ∙ sym same.0; flow_after = placed.1 ∙ sym same.1 })
