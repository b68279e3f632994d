-- Laws of the order file's bytes: the opening and the copy, and the pairs that bytes hold.
use mathlib.Core.Path.{◌≡◌, refl, sym, ◌∙◌, ap}
use mathlib.Core.List.{List, [], ◌∷◌, ◌++◌}
use Rattle.std.proofs.Common.{Option, Some, None}
use mathlib.Core.Option.{some, none}
use mathlib.Core.Option as math
use Prim.Native.Nat.{ℕ, zero, suc, ◌+◌, ◌*◌, ◌/◌, ◌%◌, ◌≤◌}
use native.Mathlib.Omega.{arith}
use borrow.Author.Tests.{le-ltb}
use borrow.Rule.Slice.PartMut.{put_mid}
use lib.ListN.{length, take, drop, take-append-drop}
use lib.Seq.{drop-drop}
use Rattle.transport.specs.Problem.{Problem}
use Rattle.transport.specs.Greedy.{Pair}
use Rattle.transport.specs.Finder.{size, find}
use Rattle.transport.proofs.Orders.Length.{order_length_lem}
use Rattle.transport.proofs.Finder.Find.{find_is_order}
use Rattle.specification.specs.Bytes.{order_mark}
use Rattle.files.specs.Files.{write_opening}
use Rattle.specification.specs.OrderFile.{pairs, pair_bytes, order_file}
use Rattle.slacks.specs.Found.{Finds}
use Rattle.finder.specs.Writing.{Orders}

-- the pairs that bytes hold
pairs_length : (n : ℕ) (s : List ℕ) → length (pairs n s) ≡ n
unfolding pairs
pairs_length zero s = refl
pairs_length (suc n) s = ap suc (pairs_length n (drop 2 s))

pairs_bytes : (n : ℕ) (s : List ℕ) → 2 * n ≤ length s → pair_bytes (pairs n s) ≡ take (2 * n) s
unfolding pairs pair_bytes
pairs_bytes zero s h = refl
pairs_bytes (suc n) [] h = absurd (omega arith)
pairs_bytes (suc n) (a ∷ []) h = absurd (omega arith)
pairs_bytes (suc n) (a ∷ b ∷ s) h =
    let e : 2 * suc n ≡ suc (suc (2 * n)) = omega arith in
    rw e (ap (λ (l : List ℕ). a ∷ b ∷ l) (pairs_bytes n s (omega arith)))

pairs_back : (S : List Pair) (t : List ℕ) → pairs (length S) (pair_bytes S ++ t) ≡ S
unfolding pairs pair_bytes
pairs_back [] t = refl
pairs_back (p ∷ S) t = ap (λ (U : List Pair). p ∷ U) (pairs_back S t)

pairs_found : (S : List Pair) (s : List ℕ) → take (2 * length S) s ≡ pair_bytes S → pairs (length S) s ≡ S
pairs_found S s e = ap (pairs (length S)) (sym (take-append-drop (2 * length S) s))
    ∙ ap (λ (l : List ℕ). pairs (length S) (l ++ drop (2 * length S) s)) e ∙ pairs_back S (drop (2 * length S) s)

-- the opening and the copy make the file: the copy is of the pairs' bytes, to the part after the opening
pub file_written : (count : ℕ) (src before mid part : List ℕ) → count ≤ 1024 → 2 * count ≤ length src → 7 ≤ length before
    → mid ≡ write_opening order_mark count before → part ≡ take (2 * count) src
    → put_mid 7 (2 * count) mid part ≡ order_file (pairs count src) ++ drop (7 + 2 * count) before
file_written count src before mid part few h seven opened copied =
    let high : count / 256 % 256 ≡ count / 256 = omega arith in
    rw (copied, opened, le-ltb (length before) 7 seven, high, pairs_length, pairs_bytes, ← drop-drop) refl

-- the whole answer, where the search's own is known; an order has as many pairs as are eligible
pub counts_found : (P : Problem) (o : math.Option (List Pair)) (r : Option ℕ) (count : ℕ) (bytes : List ℕ) → find P ≡ o → r ≡ Some count → Finds o r bytes
    → count ≡ size P
counts_found P none r count bytes q e f = let z : ◌≡◌ {A = ℕ} 0 1 = cc in absurd (omega arith)
counts_found P (some S) r count bytes q e f = let c : count ≡ length S = cc in c ∙ order_length_lem (find_is_order P S q)

pub orders_found : (o : math.Option (List Pair)) (r : Option ℕ) (count : ℕ) (bytes before after : List ℕ) → r ≡ Some count → Finds o r bytes
    → after ≡ order_file (pairs count bytes) ++ drop (7 + 2 * count) before → Orders o (Some count) before after
orders_found none r count bytes before after q f e = let z : ◌≡◌ {A = ℕ} 0 1 = cc in absurd (omega arith)
orders_found (some S) r count bytes before after q f e =
    let c : count ≡ length S = cc in
    (ap Some c, e ∙ rw c (ap (λ (U : List Pair). order_file U ++ drop (7 + 2 * length S) before) (pairs_found S bytes f.1)))

pub orders_none : (o : math.Option (List Pair)) (r : Option ℕ) (bytes before : List ℕ) → r ≡ None → Finds o r bytes
    → Orders o None before before
orders_none none r bytes before q f = (refl, refl)
orders_none (some S) r bytes before q f = let z : ◌≡◌ {A = ℕ} 0 1 = cc in absurd (omega arith)
