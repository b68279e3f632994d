use Rattle.std.proofs.Common.{sym, arith}
use Rattle.specification.specs.Bytes.{u16_at}
use Rattle.specification.proofs.Numbers.{u16_past}
use Rattle.files.proofs.u16_at.Goals as goal

pub returns-then-s-at : goal.returns-then-s-at
unfolding u16_at
returns-then-s-at c = sym (u16_past _ _ c.if-s-at.true)

pub returns : goal.returns
unfolding u16_at
returns c = grind arith
