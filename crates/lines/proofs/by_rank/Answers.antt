-- `lines::by_rank` meets its contract, by its cases (`by_rank_plain`, `by_rank_all`, `passed_all`).
use Rattle.std.proofs.Common.{◌<◌}
use mathlib.Core.Path.{subst⁻¹}
use Rattle.words.specs.Words.{Below}
use Rattle.lines.proofs.Laws.{by_rank_plain, by_rank_all, passed_more, passed_all}
use Rattle.lines.proofs.by_rank.Goals as goal
use Rattle.lines.proofs.by_rank.Goals.{then-not-ranking-via-then-not-ranking, then-not-ranking-via-else-not-ranking+then-word-below}

pub returns-then-not-ranking : goal.returns-then-not-ranking
returns-then-not-ranking c =
    let p = c.requires in
    elim c.then-not-ranking.branch [
      | then-not-ranking-via-then-not-ranking w ↦ by_rank_plain p.1 p.2 w.if-not-ranking.true
      | then-not-ranking-via-else-not-ranking+then-word-below w ↦
          by_rank_all p.1 p.2 (subst⁻¹ (Below 4294967295 _) w.if-word-below.true w.below.ensures)
    ]

pub loop-x-preserved : goal.loop-x-preserved
loop-x-preserved c =
    let (low, _, gone) = c.in-Some.ensures.steps in
    let few : c.in-Some.x < c.args.count = c.requires.2 _ (c.loop-x.invariant.among _ low.is_in) in
    passed_more c.loop-x.invariant few low.is_in gone c.from.ensures c.including-line.ensures

pub returns : goal.returns
returns c = passed_all c.loop-x.invariant c.in-None.ensures.steps.0
