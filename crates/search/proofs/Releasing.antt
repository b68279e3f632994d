-- The marks with a call taken back, lot by lot: those of the lots passed are, and no other.
use mathlib.Core.Path.{◌≡◌, refl, ap, ◌∙◌, subst, fun_ext}
use mathlib.Core.Logic.{by_cases}
use mathlib.Core.Bool.{Bool, true, not, ◌&&◌, ◌||◌, and-true, and-false, and-not_self, or-false}
use mathlib.Core.List.{List}
use Prim.Native.Nat.{ℕ, ◌<◌}
use native.Mathlib.Decide.{ℕ_discrete}
use borrow.Author.Tests.{eq-eqb, ne_eqb}
use lib.Dec.{eqb}
use lib.ListN.{length, get_or, set, length-set}
use lib.Seq.{get_or-set_same, get_or-set_other}
use Rattle.specification.specs.Book.{bit}
use Rattle.book.specs.Table.{entry}
use Rattle.words.specs.Words.{Without, IncludingIf}
use Rattle.words.specs.Lefts.{is_left}
use Rattle.words.proofs.Sets.{bit_none}
use Rattle.words.proofs.Changes.{was_in}
use Rattle.search.specs.Steps.{Released}

-- the lots of the word but those left are passed,
abbrev passed : ℕ → ℕ → ℕ → Bool
passed lots left k = bit lots k && not (bit left k)

-- and have their marks taken back
pub record Releasing (j lots left : ℕ) (taken other marks marks' : List ℕ) (again : ℕ) : Type 0 where
  pub among : (k : ℕ) → bit left k ≡ true → bit lots k ≡ true
  pub released : Released j (passed lots left) taken other marks marks' again

-- at first, after one lot more, and at last
module _ {j lots : ℕ} {taken other marks : List ℕ} where
  pub releasing_none : Releasing j lots lots taken other marks marks 0
  releasing_none = record {
    among = λ k e. e;
    released = record {
      cleared = λ k l. rw (and-not_self (bit lots k), and-false (eqb l j));
      again_are = λ k. rw (and-not_self (bit lots k)) (bit_none k);
      long = refl;
    };
  }

  module _ {marks' : List ℕ} {left again : ℕ} (r : Releasing j lots left taken other marks marks' again) where
    pub releasing_more : {k word left' again' : ℕ} {told : Bool} → k < length marks' → bit left k ≡ true → Without left k left' → Without (get_or marks' k 0) j word
        → told ≡ (not (is_left other k j) && eqb (entry taken k j) 0) → IncludingIf told again k again' → Releasing j lots left' taken other marks (set marks' k word) again'
    releasing_more {k} {word} {told = told} h b w v e i = let there = r.among k b in record {
      among = λ a z. r.among a (was_in w a z);
      released = record {
        cleared = λ a l. by_cases (ℕ_discrete a k)
            (λ z. rw (z, there, w.out, get_or-set_same marks' k word 0 h) (by_cases (ℕ_discrete l j)
            (λ y. rw (y, eq-eqb j j refl) v.out)
            (λ d. rw (ne_eqb l j d) (v.others l d ∙ r.released.cleared k l ∙ rw (ne_eqb l j d)))))
            (λ d. rw (w.others a d, get_or-set_other marks' k a word 0 d) (r.released.cleared a l));
        again_are = λ a. by_cases (ℕ_discrete a k)
            (λ z. rw (z, there, w.out) (i.own ∙ ap (λ (t : Bool). told || t) (r.released.again_are k ∙ rw (there, b)) ∙ or-false told ∙ e))
            (λ d. rw (w.others a d) (i.others a d ∙ r.released.again_are a));
        long = length-set marks' k word ∙ r.released.long;
      };
    }

    pub releasing_all : left ≡ 0 → Released j (bit lots) taken other marks marks' again
    releasing_all z = subst (λ (some : ℕ → Bool). Released j some taken other marks marks' again)
        (fun_ext (λ k. rw (z, bit_none k) (and-true (bit lots k)))) r.released
