-- Little-endian numbers in a list of bytes, and the seven bytes that open each file (document 01, "The three files").
use Rattle.std.specs.Prelude.{List, [], ◌∷◌, Bool, not, ◌&&◌, ◌||◌, ℕ, ◌+◌, ◌*◌, length, get_or, ltb, eqb}
use Rattle.specification.specs.Reply.{Reply, refuse_if, ◌>>=◌}

-- the byte at an offset; past the end 0. No field of an accepted file lies there: 1 or 6 is refused first
abbrev pub byte_at : List ℕ → ℕ → ℕ
byte_at s at = get_or s at 0

-- "Integers are little-endian": 16 bits
unfoldable pub u16_at : List ℕ → ℕ → ℕ
u16_at s at = byte_at s at + 256 * byte_at s (at + 1)

-- 32 bits, the lower half first
unfoldable pub u32_at : List ℕ → ℕ → ℕ
u32_at s at = u16_at s at + 65536 * u16_at s (at + 2)

-- the "three-letter ASCII mark" of a book, CLB
abbrev pub book_mark : List ℕ
book_mark = 67 ∷ 76 ∷ 66 ∷ []

-- of an order, CLO
abbrev pub order_mark : List ℕ
order_mark = 67 ∷ 76 ∷ 79 ∷ []

-- of amounts, CLA
abbrev pub amounts_mark : List ℕ
amounts_mark = 67 ∷ 76 ∷ 65 ∷ []

-- the first three bytes are the mark
abbrev pub marked : List ℕ → List ℕ → Bool
marked mark s = eqb (byte_at s 0) (byte_at mark 0) && (eqb (byte_at s 1) (byte_at mark 1) && eqb (byte_at s 2) (byte_at mark 2))

-- the version of a file is not one from 1 to the newest of its kind
abbrev pub version_outside : ℕ → List ℕ → Bool
version_outside newest s = eqb (u16_at s 3) 0 || ltb newest (u16_at s 3)

-- 1, 2, 3: under 7 bytes, the mark differs, another version
unfoldable pub read_opening : List ℕ → ℕ → List ℕ → Reply (Unit {0})
read_opening mark newest s = do
  _ ← refuse_if (ltb (length s) 7) 1 []
  _ ← refuse_if (not (marked mark s)) 2 []
  refuse_if (version_outside newest s) 3 []
