-- `lines::Left::fill` meets its contract: each line is set in its turn (`Firsts`), so all lines have what is eligible (`lined_first`).
use Rattle.std.proofs.Common.{◌≡◌, refl, sym, ◌∙◌, ◌+◌, arith}
use Rattle.lines.proofs.Laws.{set_then, lots_from, ranks_from, by_rank_as, FirstLine, lined_first}
use Rattle.lines.proofs.Left.fill.Goals as goal

pub by_rank-row-requires : goal.by_rank-row-requires
by_rank-row-requires c =
    let (k, plain) = c.requires.numbered in
    (omega arith, ranks_from (omega arith) refl k.calls_few k.calls_named plain, λ j e. (c.requires.inside _ j e).1)

pub by_rank-column-requires : goal.by_rank-column-requires
by_rank-column-requires c =
    let (k, plain) = c.requires.numbered in
    (omega arith, ranks_from (omega arith) refl k.lots_few (lots_from k) plain, λ i e. (c.requires.inside i _ (sym (c.column_of.ensures i) ∙ e)).0)

pub loop-x-preserved : goal.loop-x-preserved
loop-x-preserved c =
    let l = c.loop-x in
    let f = l.invariant in
    let one = c.set.ensures in
    let last = c.set-in-loop-x.ensures in
    record {
      few = omega arith;
      rows = λ a h. set_then last (FirstLine _ 32 _ _) a (λ y. absurd (omega arith)) (λ d. set_then one (FirstLine _ 32 _ _) a
          (λ y. rw y (record { by_rank = c.by_rank-row.ensures; ends = one.own_ends })) (λ o. f.rows a (omega arith)));
      columns = λ k h. set_then last (FirstLine _ 0 _ _) (32 + k)
          (λ y. let e : k ≡ l.x = omega arith in
          rw e (record { by_rank = by_rank_as c.column_of.ensures c.by_rank-column.ensures; ends = last.own_ends }))
          (λ d. set_then one (FirstLine _ 0 _ _) (32 + k) (λ y. absurd (omega arith)) (λ o. f.columns k (omega arith)));
      lefts_are = last.lefts_kept ∙ one.lefts_kept ∙ f.lefts_are;
      long = omega (arith, last.long, one.long, f.long);
    }

pub returns-clause-lined : goal.returns-clause-lined
returns-clause-lined c =
    let e : c.loop-x.x ≡ 32 = omega arith in
    let inv = c.loop-x.invariant in
    lined_first c.requires.numbered.0 (rw (← inv.lefts_are) at c.requires.inside) (rw (e, ← inv.lefts_are) at inv)
