-- After the first line the text still fits: that line is no longer than the first line may be (`first_line_length`).
use Rattle.std.proofs.Common.{◌≡◌, List, [], ◌∷◌, ◌++◌, ℕ, ℤ, append_assoc, arith}
use mir.Facts.{to_z-of_z}
use Rattle.specification.specs.Text.{decimal, decimalℤ, line}
use Rattle.text.proofs.Lines.{first_line_length}
use Rattle.text.proofs.answer_text.Goals as goal

-- what is appended to no text one by one is the first line
first_line : (word : List ℕ) (units : ℕ) (cost : ℤ) {t1 t2 t3 t4 t5 t6 : List ℕ} → t1 ≡ [] → t2 ≡ t1 ++ word → t3 ≡ t2 ++ 32 ∷ decimal units
    → t4 ≡ t3 ++ 32 ∷ [] → t5 ≡ t4 ++ decimalℤ cost → t6 ≡ t5 ++ 10 ∷ [] → t6 ≡ line word (decimal units ∷ decimalℤ cost ∷ [])
unfolding line
first_line word units cost e1 e2 e3 e4 e5 e6 = simp (e6, e5, e4, e3, e2, e1, append_assoc)

pub pair_lines-requires : goal.pair_lines-requires
pair_lines-requires c =
    let signed = rw (to_z-of_z c.ranges.cost) at c.signed_number.ensures in
    let first = first_line c.args.verdict.now c.args.units c.args.cost c.new-text.ensures c.word.ensures c.field.ensures c.put.ensures signed c.end_line.ensures in
    (c.requires.0, omega (arith, rw (← first) at (first_line_length c.args.verdict.now c.args.units c.args.cost c.requires.1 c.ranges.units.fits c.ranges.cost)))
