-- A table of zeros, of no lots and calls.
use Rattle.std.proofs.Common.{refl, sym, ◌∙◌, true≢false, arith}
use Rattle.transport.specs.Problem as problem
use Rattle.words.proofs.Sets.{bit_none}
use Rattle.slacks.proofs.BySlacks.{zeros_at, capped_zeros}
use Rattle.slacks.proofs.filling.SlackTable.empty.Goals as goal

pub invariant_of-result : goal.invariant_of-result
unfolding problem.sum
invariant_of-result c = record {
  are = record { lots_few = omega arith; calls_few = omega arith; capped = capped_zeros 1024; beyond = λ i j hi hm hj. absurd (omega arith); long = refl };
  eligible = record {
    each = λ i j hi hj. absurd (omega arith);
    inside = λ i j t. absurd (true≢false (sym t ∙ rw (zeros_at 32 i) (bit_none j)));
    long = refl;
  };
  counted = refl;
}
