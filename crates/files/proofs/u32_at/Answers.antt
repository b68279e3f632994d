use Rattle.std.proofs.Common.{sym, arith}
use Rattle.specification.specs.Bytes.{u16_at, u32_at}
use Rattle.specification.proofs.Numbers.{u32_past}
use Rattle.files.proofs.u32_at.Goals as goal

pub returns-then-s-at : goal.returns-then-s-at
unfolding u32_at u16_at
returns-then-s-at c = sym (u32_past _ _ c.if-s-at.true)

pub returns : goal.returns
unfolding u32_at u16_at
returns c = grind arith
