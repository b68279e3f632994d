-- Laws of the table of offsets: its entries as a lot's calls are entered one by one.
use mathlib.Core.Path.{◌≡◌, refl, sym, ◌∙◌}
use mathlib.Core.Bool.{true, false, cond, ◌&&◌, and-false}
use mathlib.Core.List.{List}
use mathlib.Core.Logic.{⊎_elim}
use Prim.Native.Nat.{ℕ, zero, suc, ◌+◌, ◌*◌, ◌-◌, ◌/◌, ◌%◌, ◌≤◌, ◌<◌}
use native.Mathlib.Omega.{arith}
use native.Mathlib.Decide.{ℕ_discrete}
use native.Mathlib.Nat.{mod-lt, add-zero}
use borrow.Author.Tests.{lt-ltb, le-ltb, eq-eqb, ne_eqb}
use lib.Dec.{ltb, eqb, lit<}
use lib.ListN.{length, take, get_or, set, length-set}
use lib.Seq.{get_or-set_same, get_or-set_other, length-take-le, set-append_left}
use borrow.Rule.Slice.PartMut.{put_mid}
use Rattle.std.proofs.lemmas.List.{set-append_right}
use Rattle.files.proofs.Parts.{le_or_lt}
use Rattle.specification.specs.Book.{bit}
use Rattle.rows.specs.Words.{ones_below, SetFrom}
use Rattle.book.specs.Table.{with_row, WithRow}
use Rattle.rows.proofs.Bits.{ones_below_none, ones_below_set, ones_below_unset}

-- a write in a part of the table is one in the table
pub put_set : (a k : ℕ) (table part : List ℕ) (j v : ℕ) → a ≤ length table → j < length part
    → put_mid a k table (set part j v) ≡ set (put_mid a k table part) (a + j) v
put_set a k table part j v h l =
    let from : a + j - a ≡ j = omega arith in
    rw (set-append_right (take a table) _ a (a + j) v (length-take-le a table h) (omega arith), from, set-append_left part _ j v l) refl

ltb_next : (r j : ℕ) → (r ≡ j → ⊥) → ltb r (j + 1) ≡ ltb r j
ltb_next r j h =
    ⊎_elim (λ (g : j ≤ r). le-ltb r (j + 1) (omega arith) ∙ sym (le-ltb r j g))
    (λ (g : r < j). lt-ltb r (j + 1) (omega arith) ∙ sym (lt-ltb r j g)) (le_or_lt j r)

-- the table's entry k once lot i's calls below j are entered
abbrev part_row : List ℕ → ℕ → ℕ → ℕ → ℕ → ℕ → ℕ
part_row table word i at j k =
    cond (eqb (k / 32) i && (ltb (k % 32) j && bit word (k % 32))) (at + 4 * ones_below word (k % 32)) (get_or table k 0)

module _ (table : List ℕ) (word i at : ℕ) where
  part_none : (k : ℕ) → part_row table word i at 0 k ≡ get_or table k 0
  part_none k = simp (le-ltb (k % 32) 0 (omega arith), and-false)

  part_all : (k : ℕ) → part_row table word i at 32 k ≡ with_row table word i at k
  part_all k = simp (lt-ltb (k % 32) 32 (mod-lt k (lit< tt)))

  part_kept : (j k : ℕ) → (k % 32 ≡ j → k / 32 ≡ i → bit word j ≡ false)
      → part_row table word i at (j + 1) k ≡ part_row table word i at j k
  part_kept j k h = go (ℕ_discrete (k % 32) j) (ℕ_discrete (k / 32) i)
    where
      go : Dec (k % 32 ≡ j) → Dec (k / 32 ≡ i) → part_row table word i at (j + 1) k ≡ part_row table word i at j k
      go (no r) q = rw (ltb_next (k % 32) j r)
      go (yes r) (no q) = simp (ne_eqb (k / 32) i q)
      go (yes r) (yes q) = let e : bit word (k % 32) ≡ false = rw r (h r q) in simp (e, and-false)

  part_made : (j k : ℕ) → k % 32 ≡ j → k / 32 ≡ i → bit word j ≡ true → part_row table word i at (j + 1) k ≡ at + 4 * ones_below word j
  part_made j k r q b = simp (eq-eqb (k / 32) i q, r, lt-ltb j (j + 1) (omega arith), b)

  -- lot i's calls below j are entered, and `next` is the offset of the next cost
  pub record Entered (j : ℕ) (entered : List ℕ) (next : ℕ) : Type 0 where
    pub bounded : j ≤ 32
    pub long : length entered ≡ 1024
    pub next_is : next ≡ at + 4 * ones_below word j
    pub entries : (k : ℕ) → k < 1024 → get_or entered k 0 ≡ part_row table word i at j k

  pub entered_none : length table ≡ 1024 → Entered 0 table at
  entered_none l = record {
    bounded = omega arith;
    long = l;
    next_is = omega (arith, ones_below_none word);
    entries = λ k h. sym (part_none k);
  }

  pub entered_set : {j next : ℕ} (entered : List ℕ) → Entered j entered next → i < 32 → j < 32 → bit word j ≡ true
      → Entered (j + 1) (set entered (32 * i + j) next) (next + 4)
  entered_set {j} {next} entered E hi hj b = record {
    bounded = omega arith;
    long = length-set entered (32 * i + j) next ∙ E.long;
    next_is = omega (arith, E.next_is, ones_below_set word j b);
    entries = λ k h. go k h (ℕ_discrete k (32 * i + j));
  }
    where
      go : (k : ℕ) → k < 1024 → Dec (k ≡ 32 * i + j) → get_or (set entered (32 * i + j) next) k 0 ≡ part_row table word i at (j + 1) k
      go k h (yes e) =
          rw (part_made j k (omega arith) (omega arith) b, ← E.next_is, e)
          (get_or-set_same entered (32 * i + j) next 0 (omega (arith, E.long)))
      go k h (no n) =
          get_or-set_other entered (32 * i + j) k next 0 n ∙ E.entries k h ∙ sym (part_kept j k (λ r q. absurd (n (omega arith))))

  entered_unset : {j next : ℕ} (entered : List ℕ) → Entered j entered next → j < 32 → bit word j ≡ false → Entered (j + 1) entered next
  entered_unset {j} entered E hj b = record {
    bounded = omega arith;
    long = E.long;
    next_is = E.next_is ∙ omega (arith, ones_below_unset word j b);
    entries = λ k h. E.entries k h ∙ sym (part_kept j k (λ r q. b));
  }

  -- calls whose bits are clear are passed over
  entered_skip : (d : ℕ) {j next : ℕ} (entered : List ℕ) → Entered j entered next → j + d ≤ 32
      → ((k : ℕ) → j ≤ k → k < j + d → bit word k ≡ false) → Entered (j + d) entered next
  entered_skip zero {j} entered E h clear = rw (add-zero j) E
  entered_skip (suc d) {j} entered E h clear =
      let e : j + suc d ≡ j + 1 + d = omega arith in
      rw e (entered_skip d entered (entered_unset entered E (omega arith) (clear j (omega arith) (omega arith))) (omega arith)
      (λ k l l'. clear k (omega arith) (omega arith)))

  -- up to the next set bit
  pub entered_to : {j next r : ℕ} (entered : List ℕ) → Entered j entered next → j ≤ 32 → SetFrom word j r → Entered r entered next
  entered_to {j} {next} {r} entered E h from =
      let up : j + (r - j) ≡ r = omega (arith, from.not_below h) in
      rw up at (entered_skip (r - j) entered E (omega (arith, from.within)) (λ k l l'. from.clear k l (omega arith)))

  -- once the bits that are left are clear, all 32 calls are entered
  pub entered_all : {j next : ℕ} (entered : List ℕ) → Entered j entered next
      → ((k : ℕ) → j ≤ k → k < 32 → bit word k ≡ false) → WithRow table word i at entered
  entered_all {j} entered E clear =
      let d = 32 - j in
      let full : j + d ≡ 32 = omega (arith, E.bounded) in
      let whole = rw full at (entered_skip d entered E (omega arith) (λ k l l'. clear k l (omega arith))) in
      record { long = whole.long; entries = λ k h. whole.entries k h ∙ part_all k }
