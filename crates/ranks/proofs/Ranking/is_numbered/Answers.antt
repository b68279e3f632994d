-- What is checked of the parts of the lists holds of the lists.
use Rattle.std.proofs.Common.{arith}
use Rattle.std.proofs.lemmas.Grind.{common_steps}
use Rattle.std.proofs.lemmas.List.{get_or-take}
use Rattle.ranks.proofs.Laws.{part_at, renames_same}
use Rattle.ranks.proofs.Ranking.is_numbered.Goals as goal

pub returns-then-renames : goal.returns-then-renames
returns-then-renames c e = record {
  lots_few = c.requires.0;
  calls_few = c.requires.1;
  lots_named = renames_same (c.renames.ensures c.if-renames.true) (grind (arith, common_steps)) (λ x h. get_or-take _ _ x 0 h) (λ x h. get_or-take _ _ x 0 h);
  calls_named = renames_same (c.renames-then-renames.ensures e) (grind (arith, common_steps)) (λ x h. part_at c.args.self.now.ranks 32 c.args.m _ x (omega arith) h)
      (λ x h. part_at c.args.self.now.names 32 c.args.m _ x (omega arith) h);
}
