-- `text::fields::Text::word` keeps the zeros after the text.
use Rattle.std.proofs.Common.{arith, ap, ◌∙◌, ◌+◌, length}
use Rattle.std.proofs.lemmas.Slice.{drop-put_mid}
use borrow.Rule.Slice.PartMut.{same_len_mid}
use lib.Seq.{length-take-le}
use Rattle.text.proofs.Zeros.{zeros_later}
use Rattle.text.proofs.fields.Text.word.Goals as goal

pub invariant_of-self : goal.invariant_of-self
invariant_of-self c =
    let t = c.self.inside in
    let long = length c.args.word.now in (
      omega (arith, c.requires, ap length c.self.view_is, c.self.invariant.0, length-take-le t.len t.bytes (omega arith)),
      same_len_mid t.len _ t.bytes _ c.copy_from_slice.ensures.len ∙ c.self.invariant.1,
      drop-put_mid t.len _ t.bytes _ (t.len + long) (omega arith) (omega arith) (omega arith) ∙ zeros_later t.len long _ t.bytes c.self.invariant.2,
    )
