-- The measure of `text::fields::Text::number` is n.
use Rattle.text.proofs.fields.Text.+number.Given as goal

abbrev pub decreases-number : goal.decreases-number
decreases-number l = l.n
