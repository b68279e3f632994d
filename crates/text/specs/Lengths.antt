-- How many bytes each piece of a text has at most.
use Rattle.std.specs.Prelude.{ℕ, ◌+◌, ◌*◌}

-- the first line of an answer, the line of a pair, the lines of 1,024 pairs, and the whole text
abbrev pub first_most : ℕ
first_most = 50

abbrev pub pair_most : ℕ
pair_most = 17

abbrev pub pairs_most : ℕ
pairs_most = pair_most * 1024

abbrev pub text_most : ℕ
text_most = first_most + pairs_most
