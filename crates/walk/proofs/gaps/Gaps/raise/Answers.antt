-- `walk::gaps::Gaps::raise` meets its contract.
use Rattle.std.proofs.Common.{ℕ, replicate, ap, ◌∙◌}
use Rattle.walk.specs.Gaps.{gap_top}
use Rattle.walk.proofs.gaps.Gaps.raise.Goals as goal

pub returns : goal.returns
returns c = c.fill.ensures.after (λ y e. e) ∙ ap (λ (k : ℕ). replicate k gap_top) c.args.self.now.capped.long
