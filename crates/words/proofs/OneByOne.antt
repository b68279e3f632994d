-- The numbers of a word one by one: the next is the lowest from where the last was, and with none left there is none.
use Rattle.std.proofs.Common.{◌≡◌, ℕ, ◌+◌, ◌<◌, ◌≤◌, true≢false, refl, sym, ap, ◌∙◌, arith}
use mathlib.Core.Logic.{by_cases}
use native.Mathlib.Decide.{ℕ_discrete, dec_lt}
use Rattle.specification.specs.Book.{bit}
use Rattle.rows.specs.Words.{SetFrom}
use Rattle.words.specs.Words.{LowestIn, Without}
use Rattle.words.specs.Numbers.{LeftFrom}
use Rattle.words.proofs.Sets.{bit_none}

pub left_all : (word : ℕ) → LeftFrom word 0 word
left_all word = record { before = λ k h. absurd (omega arith); on = λ k h. refl }

module _ {word j left : ℕ} (l : LeftFrom word j left) where
  pub left_none : left ≡ 0 → j ≤ 32 → SetFrom word j 32
  left_none e h = record {
    clear = λ k from below. sym (l.on k from) ∙ ap (λ (w : ℕ). bit w k) e ∙ bit_none k;
    is_set = λ few. absurd (omega arith);
    within = omega arith;
    not_below = λ _. h;
  }

  module _ {x after : ℕ} (low : LowestIn left x) (few : x < 32) (gone : Without left x after) where
    from_j : j ≤ x
    from_j = by_cases (dec_lt x j) (λ h. absurd (true≢false (sym low.is_in ∙ l.before x h))) (λ h. omega arith)

    pub left_next : SetFrom word j x
    left_next = record {
      clear = λ k from below. sym (l.on k from) ∙ low.none_below k below;
      is_set = λ _. sym (l.on x from_j) ∙ low.is_in;
      within = omega arith;
      not_below = λ _. from_j;
    }

    pub left_more : LeftFrom word (x + 1) after
    left_more = record {
      before = λ k h. by_cases (ℕ_discrete k x) (λ (e : k ≡ x). rw e gone.out)
          (λ ne. gone.others k ne ∙ low.none_below k (omega arith));
      on = λ k h. gone.others k (λ e. omega arith) ∙ l.on k (omega (arith, from_j));
    }
