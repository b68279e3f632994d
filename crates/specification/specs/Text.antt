-- The printing program's text (document 01, "The printing program").
use Rattle.std.specs.Prelude.{List, [], ◌∷◌, ◌++◌, true, false, cond, ℕ, zero, suc, ◌+◌, ◌*◌, ◌-◌, ◌/◌, ◌%◌, take, replicate, get_or, ltb, eqb, ℤ, pos, negsuc}
use Rattle.transport.specs.Problem.{Problem}
use Rattle.specification.specs.Reply.{Reply, gives, refuses, Verdict, full, covered, short, Outcome}
use Rattle.specification.specs.Book.{largest_book, problem_of}
use Rattle.specification.specs.Amounts.{largest_amounts}
use Rattle.specification.specs.Find.{find_and_run, find_and_run_flow}

-- a number in decimal, of at most `most` digits
unfoldable pub digits : ℕ → ℕ → List ℕ
digits zero n = []
digits (suc most) n = elim (ltb n 10) [ true ↦ (48 + n) ∷ [] | false ↦ digits most (n / 10) ++ ((48 + n % 10) ∷ []) ]

-- "Decimal": no number printed has more than 17 digits
abbrev pub decimal : ℕ → List ℕ
decimal n = digits 20 n

-- the number that digits spell, read from the left, n being what stands before them
unfoldable pub read_digits : ℕ → List ℕ → ℕ
read_digits n [] = n
read_digits n (d ∷ more) = read_digits (10 * n + (d - 48)) more

-- "a cost below zero prints with a leading minus"
abbrev pub decimalℤ : ℤ → List ℕ
decimalℤ (pos n) = decimal n
decimalℤ (negsuc n) = 45 ∷ decimal (suc n)

-- "one space between fields, a newline after each line": a first field, and the rest
unfoldable pub line : List ℕ → List (List ℕ) → List ℕ
line field [] = field ++ (10 ∷ [])
line field (next ∷ more) = field ++ (32 ∷ line next more)

-- FULL, COVERED and SHORT in ASCII: "The first printed word follows" (document 02, request 1)
abbrev pub verdict_word : Verdict → List ℕ
verdict_word full = 70 ∷ 85 ∷ 76 ∷ 76 ∷ []
verdict_word covered = 67 ∷ 79 ∷ 86 ∷ 69 ∷ 82 ∷ 69 ∷ 68 ∷ []
verdict_word short = 83 ∷ 72 ∷ 79 ∷ 82 ∷ 84 ∷ []

-- REFUSED
abbrev pub refused_word : List ℕ
refused_word = 82 ∷ 69 ∷ 70 ∷ 85 ∷ 83 ∷ 69 ∷ 68 ∷ []

-- the line "lot, call, units" of entry k of a flow with m calls, "for each pair with units above 0"
abbrev pub pair_line : ℕ → List ℕ → ℕ → List ℕ
pair_line m flow k =
    cond (eqb (get_or flow k 0) 0) [] (line (decimal (k / m)) (decimal (k % m) ∷ decimal (get_or flow k 0) ∷ []))

-- the lines of the first n entries: "by lot rising and then call rising"
unfoldable pub pair_lines : ℕ → List ℕ → ℕ → List ℕ
pair_lines m flow zero = []
pair_lines m flow (suc n) = pair_lines m flow n ++ pair_line m flow n

-- "The first refusal prints REFUSED and its number. Otherwise line 1 is" the verdict, "units, cost", then the pairs
unfoldable pub text_of : Reply Outcome → Problem → List ℕ → List ℕ
text_of (refuses k vs) P flow = line refused_word (decimal k ∷ [])
text_of (gives o) P flow =
    line (verdict_word o.verdict) (decimal o.units ∷ decimalℤ o.cost ∷ []) ++ pair_lines P.calls flow (P.lots * P.calls)

-- how much it reads of a book and of amounts: "at most 4,232 .. bytes" and "up to 392 bytes" (document 02, request 7), one more than the
-- largest file has
abbrev pub book_most : ℕ
book_most = suc largest_book

abbrev pub amounts_most : ℕ
amounts_most = suc largest_amounts

-- what the program prints, from the contents of its two files, "an absent file counting as empty"; its flow buffer has 1,024 entries,
-- enough for every book
unfoldable pub printed : List ℕ → List ℕ → List ℕ
printed book_file amounts_file =
    let book : List ℕ = take book_most book_file in
    let amounts : List ℕ = take amounts_most amounts_file in
    let flow : List ℕ = replicate 1024 0 in
    text_of (find_and_run book amounts flow) (problem_of book) (find_and_run_flow book amounts flow)
