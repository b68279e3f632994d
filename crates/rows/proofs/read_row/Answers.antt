use Rattle.std.proofs.Common.{arith}
use Rattle.specification.specs.Book.{read_row}
use Rattle.rows.proofs.read_row.Goals as goal

pub returns-then-row-lt4 : goal.returns-then-row-lt4
unfolding read_row
returns-then-row-lt4 c = grind arith

pub returns-then-reaches : goal.returns-then-reaches
unfolding read_row
returns-then-reaches c = grind arith

pub returns-then-row-size : goal.returns-then-row-size
unfolding read_row
returns-then-row-size c = grind arith

pub returns : goal.returns
unfolding read_row
returns c = grind arith
