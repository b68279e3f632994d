use Rattle.std.proofs.Common.{arith}
use Rattle.specification.specs.Bytes.{read_opening}
use Rattle.files.proofs.Openings.{marked_is}
use Rattle.files.proofs.read_opening.Goals as goal

pub returns-then-file-lt7 : goal.returns-then-file-lt7
unfolding read_opening
returns-then-file-lt7 c = grind arith

pub returns-then-not-starts_with : goal.returns-then-not-starts_with
unfolding read_opening
returns-then-not-starts_with c = grind (arith, marked_is c.args.mark.now c.args.file.now c.told-mark c.if-file-lt7.false)

pub returns-then-version-eq0 : goal.returns-then-version-eq0
unfolding read_opening
returns-then-version-eq0 c = grind (arith, marked_is c.args.mark.now c.args.file.now c.told-mark c.if-file-lt7.false)

pub returns : goal.returns
unfolding read_opening
returns c = grind (arith, marked_is c.args.mark.now c.args.file.now c.told-mark c.if-file-lt7.false)
