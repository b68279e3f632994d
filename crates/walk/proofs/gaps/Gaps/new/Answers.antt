-- `walk::gaps::Gaps::new`: none of the zeros is above the highest gap.
use Rattle.walk.proofs.Arrays.{capped_zeros}
use Rattle.walk.proofs.gaps.Gaps.new.Goals as goal

pub invariant_of-result : goal.invariant_of-result
invariant_of-result c = record { capped = capped_zeros }
