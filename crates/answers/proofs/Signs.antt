-- A cost as 64 bits is the machine's own: a caller that reads them as a signed number has the cost.
use mathlib.Core.Path.{◌≡◌, refl, sym, ◌∙◌, ap}
use Prim.Native.Nat.{◌*◌, ◌≤◌}
use native.Mathlib.Omega.{arith}
use lib.IntN.{ℤ, pos, negsuc}
use lib.Signed.{mag}
use mir.Syntax.{w64}
use mir.Val.{SFits, of_z, to_z}
use mir.Facts.{to_z-of_z}
use Rattle.specification.specs.Costs.{cost_limit}
use Rattle.specification.specs.Amounts.{amount_limit}
use Rattle.specification.proofs.Bounds.{pair_cost_within, run_within, find_and_run_within, idle_within}
use Rattle.specification.proofs.Panels.{panel_given}
use Rattle.answers.specs.Answers.{bits_of, answer_of}
use Rattle.answers.specs.Signed.{SignedForC}

machine_bits : (z : ℤ) → of_z w64 z ≡ bits_of z
machine_bits (pos n) = refl
machine_bits (negsuc n) = refl

read_back : (z : ℤ) → SFits w64 z → to_z w64 (bits_of z) ≡ z
read_back z fits = ap (to_z w64) (sym (machine_bits z)) ∙ to_z-of_z fits

-- the costs of runs and of pairs fit
fits : (z : ℤ) → mag z ≤ 32 * amount_limit * cost_limit → SFits w64 z
fits z low = record { sfits = omega arith }

pub signed_for_c : SignedForC
unfolding answer_of
signed_for_c = record {
  pair = λ book lot call cost e. rw e (read_back cost (fits cost (omega (arith, pair_cost_within book lot call cost e))));
  run = λ book order amounts flow o e. rw e (read_back o.cost (fits o.cost (run_within book order amounts flow o e).1));
  by_find_and_run = λ book amounts flow o e. rw e (read_back o.cost (fits o.cost (find_and_run_within book amounts flow o e).1));
  by_find_and_run_idle = λ book amounts flow o e. rw e (read_back o.cost (fits o.cost (idle_within book amounts flow o e).1));
  by_find_and_run_panel = λ book amounts flow o e.
      rw e (read_back o.cost (fits o.cost (find_and_run_within book amounts flow o (panel_given book amounts flow o e).0).1));
}
