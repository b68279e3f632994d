-- The lines of a text: how long the first can be; and of the pairs, an entry with no units adds nothing to those of the entries before it, and one
-- with units its line.
use mathlib.Core.Path.{◌≡◌}
use mathlib.Core.List.{List, [], ◌∷◌, ◌++◌, append-nil}
use Prim.Native.Nat.{ℕ, ◌+◌, ◌/◌, ◌%◌, ◌^◌, ◌≤◌, ◌<◌}
use native.Mathlib.Numerals.{add-one}
use native.Mathlib.Omega.{arith}
use borrow.Author.Tests.{eq-eqb, ne_eqb}
use lib.IntN.{ℤ}
use lib.ListN.{get_or, length, length-append}
use mir.Syntax.{w64}
use mir.Val.{SFits}
use Rattle.specification.specs.Text.{decimal, decimalℤ, line, pair_lines}
use Rattle.text.specs.Lengths.{first_most}
use Rattle.text.proofs.Decimals.{twenty_digits, signed_digits}

pub first_line_length : (word : List ℕ) (units : ℕ) (cost : ℤ) → length word ≤ 7 → units < 2 ^ 64 → SFits w64 cost
    → length (line word (decimal units ∷ decimalℤ cost ∷ [])) ≤ first_most
unfolding line
first_line_length word units cost hw hu hc = simp length-append (omega (arith, twenty_digits units hu, signed_digits cost hc))

pub line_skipped : (m : ℕ) (flow : List ℕ) (k : ℕ) → get_or flow k 0 ≡ 0 → pair_lines m flow (k + 1) ≡ pair_lines m flow k
unfolding pair_lines
line_skipped m flow k none = rw (add-one, eq-eqb _ 0 none) (append-nil (pair_lines m flow k))

pub line_added : (m : ℕ) (flow : List ℕ) (k : ℕ) → (get_or flow k 0 ≡ 0 → ⊥)
    → pair_lines m flow (k + 1) ≡ pair_lines m flow k ++ line (decimal (k / m)) (decimal (k % m) ∷ decimal (get_or flow k 0) ∷ [])
unfolding pair_lines
line_added m flow k some = rw (add-one, ne_eqb _ 0 some)
