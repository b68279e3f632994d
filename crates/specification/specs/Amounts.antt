-- The amounts file (document 01, "The three files" and "Refused"; document 02, request 7, "Stock reserved by the desk").
use Rattle.std.specs.Prelude.{List, [], Bool, cond, not, ◌&&◌, ℕ, ◌+◌, ◌*◌, ◌-◌, length, ltb, leb, eqb}
use Rattle.transport.specs.Finder.{every}
use Rattle.specification.specs.Reply.{Reply, gives, refuse_if, ◌>>=◌, Size}
use Rattle.specification.specs.Bytes.{byte_at, u16_at, u32_at, amounts_mark, read_opening}
use Rattle.specification.specs.Book.{read_book, book_lots}

-- "Amounts are whole units, 0 to 1,000,000,000"
abbrev pub amount_limit : ℕ
amount_limit = 1000000000

-- the bytes of the largest file: the opening, the amounts of 32 lots and 32 calls, and 32 reserves
abbrev pub largest_amounts : ℕ
largest_amounts = 7 + 4 * (32 + 32 + 32)

-- number k of the file: "n lot amounts and m call amounts, 32 bits each", and "n reserves, 32 bits each, after the call amounts"
abbrev pub amount_at : List ℕ → ℕ → ℕ
amount_at s k = u32_at s (7 + 4 * k)

-- "a 16-bit version", 1 or 2
abbrev pub amounts_version : List ℕ → ℕ
amounts_version s = u16_at s 3

-- "Amounts version 2 carries n reserves"
abbrev pub carries_reserves : List ℕ → Bool
carries_reserves s = eqb (amounts_version s) 2

-- the bytes of a file with these n and m, by its version
abbrev pub amounts_length : Size → List ℕ → ℕ
amounts_length size s = 7 + 4 * (size.lots + size.calls + cond (carries_reserves s) size.lots 0)

-- the reserve of lot i, behind as many amounts as the file's bytes 5 and 6 tell; "Version 1 means reserves of 0"
abbrev pub reserve_at : List ℕ → ℕ → ℕ
reserve_at s i = cond (carries_reserves s) (amount_at s (byte_at s 5 + byte_at s 6 + i)) 0

-- "A lot's amount, in every run and for idle stock too, is from here on what it holds less its reserve": of lot i
abbrev pub lot_amount : List ℕ → ℕ → ℕ
lot_amount s i = amount_at s i - reserve_at s i

-- of call j, after the amounts of the book's n lots
abbrev pub call_amount : List ℕ → List ℕ → ℕ → ℕ
call_amount book s j = amount_at s (book_lots book + j)

-- "Amounts: 1, 2, 3, 15, 6, 8, 16", with n and m of a readable book; the length is held against the book's n and m. "16 is for the lot and
-- call amounts as the file holds them, not for reserves. 21 when a reserve exceeds its lot, checked lot by lot after 16 has been checked for
-- all"
unfoldable pub read_amounts_of : Size → List ℕ → Reply Size
read_amounts_of size s = do
  _ ← read_opening amounts_mark 2 s
  _ ← refuse_if (not (eqb (byte_at s 5) size.lots && eqb (byte_at s 6) size.calls)) 15 []
  _ ← refuse_if (ltb (length s) (amounts_length size s)) 6 []
  _ ← refuse_if (ltb (amounts_length size s) (length s)) 8 []
  _ ← refuse_if (not (every (size.lots + size.calls) (λ k. leb (amount_at s k) amount_limit))) 16 []
  _ ← refuse_if (not (every size.lots (λ i. leb (reserve_at s i) (amount_at s i)))) 21 []
  gives size

-- amounts with their book: the book first, "A refused book stops the work before .. amounts are looked at"
unfoldable pub read_amounts : List ℕ → List ℕ → Reply Size
read_amounts book s = read_book book >>= λ size. read_amounts_of size s
