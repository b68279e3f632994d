-- `text::fields::Text::put` keeps the zeros after the text.
use Rattle.std.proofs.Common.{arith, ap, ◌∙◌, ◌+◌, length}
use lib.Seq.{drop-set-lt, length-take-le}
use Rattle.std.proofs.lemmas.List.{length-set}
use Rattle.text.proofs.Zeros.{zeros_later}
use Rattle.text.proofs.fields.Text.put.Goals as goal

pub invariant_of-self : goal.invariant_of-self
invariant_of-self c =
    let t = c.self.inside in (
      omega (arith, c.requires, ap length c.self.view_is, c.self.invariant.0, length-take-le t.len t.bytes (omega arith)),
      length-set t.bytes t.len _ ∙ c.self.invariant.1,
      drop-set-lt (t.len + 1) t.bytes t.len _ (omega arith) ∙ zeros_later t.len 1 _ t.bytes c.self.invariant.2,
    )
