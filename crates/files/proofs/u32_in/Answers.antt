use Rattle.std.proofs.Common.{arith}
use Rattle.specification.specs.Bytes.{u16_at, u32_at}
use Rattle.files.proofs.u32_in.Goals as goal

pub returns : goal.returns
unfolding u32_at u16_at
returns c = grind arith
