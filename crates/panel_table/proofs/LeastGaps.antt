-- Laws of least gaps. Of the calls passed, the least gap is the highest number that is above none of theirs; the word has those that reach it.
-- Both stay so when one call more is passed, and once all calls left are passed they are what is wanted.
use mathlib.Core.Path.{◌≡◌, sym, ◌∙◌, ap, subst, subst⁻¹}
use mathlib.Core.Logic.{by_cases}
use mathlib.Core.Bool.{Bool, true, false, cond, true≢false}
use mathlib.Core.List.{List}
use Prim.Native.Nat.{ℕ, suc, ◌+◌, ◌*◌, ◌-◌, ◌≤◌, ◌<◌, min}
use native.Mathlib.Decide.{ℕ_discrete, dec_lt}
use native.Mathlib.Omega.{arith}
use borrow.Author.Count.{below_more}
use borrow.Author.Tests.{lt-ltb, le-ltb, eqb-true, eq-eqb, ne_eqb}
use lib.Dec.{eqb, ltb}
use lib.ListN.{length, get_or, set, length-set}
use lib.Seq.{get_or-set_same, get_or-set_other}
use Rattle.specification.specs.Costs.{cost_top}
use Rattle.specification.specs.Book.{bit}
use Rattle.slacks.specs.Slacks.{Capped}
use Rattle.words.specs.Words.{Below, Without}
use Rattle.words.proofs.Sets.{bit_none}
use Rattle.panel_table.specs.Gaps.{gap_out, gap_of, WithCall, Joined, LeastCalls, LeastRow}

-- the calls passed are those in `left` and not in `rest`: of their gaps `low` is the least, above all gaps where there are none, and the word has
-- those at which the gap is that
pub record Low (gap : ℕ → ℕ) (left rest low word : ℕ) : Type 0 where
  pub below : (l : ℕ) → bit left l ≡ true → bit rest l ≡ false → low ≤ gap l
  pub highest : (v : ℕ) → v ≤ gap_out → ((l : ℕ) → bit left l ≡ true → bit rest l ≡ false → v ≤ gap l) → v ≤ low
  pub reached : (l : ℕ) → bit left l ≡ true → bit rest l ≡ false → bit word l ≡ eqb (gap l) low
  pub none : (l : ℕ) → bit rest l ≡ true → bit word l ≡ false
  pub within : low ≤ gap_out

-- one call more is passed
module _ (gap : ℕ → ℕ) (left rest l after low word low' word' : ℕ) (h : Low gap left rest low word) (on_left : bit left l ≡ true)
    (on : bit rest l ≡ true) (w : Without rest l after) (e : low' ≡ min low (gap l))
    (r : WithCall word low (gap l) l word') where
  other : (a : ℕ) → bit rest a ≡ false → a ≡ l → ⊥
  other a off z = true≢false (sym on ∙ subst (λ (x : ℕ). bit rest x ≡ false) z off)

  others_kept : low ≤ gap l → cond (ltb (gap l) low) 0 word ≡ word
  others_kept le = rw (le-ltb (gap l) low le)

  others_out : gap l < low → cond (ltb (gap l) low) 0 word ≡ 0
  others_out lt = rw (lt-ltb (gap l) low lt)

  own : bit word' l ≡ eqb (gap l) low'
  own = r.own ∙ by_cases (dec_lt low (gap l))
      (λ lt. rw (lt-ltb low (gap l) lt, others_kept (omega arith)) (h.none l on ∙ sym (ne_eqb (gap l) low' (λ z. omega arith))))
      (λ o. rw (le-ltb low (gap l) (omega arith)) (sym (eq-eqb (gap l) low' (omega arith))))

  another : (a : ℕ) → (a ≡ l → ⊥) → bit left a ≡ true → bit rest a ≡ false → bit word' a ≡ eqb (gap a) low'
  another a d on_a off = r.others a d ∙ by_cases (dec_lt (gap l) low)
      (λ lt. rw (others_out lt) (bit_none a ∙ sym (ne_eqb (gap a) low' (λ z. omega (arith, h.below a on_a off)))))
      (λ o. let same : low' ≡ low = omega arith in rw (others_kept (omega arith), same) (h.reached a on_a off))

  none_later : (a : ℕ) → bit rest a ≡ true → bit (cond (ltb (gap l) low) 0 word) a ≡ false
  none_later a on_a = by_cases (dec_lt (gap l) low)
      (λ lt. rw (others_out lt) (bit_none a))
      (λ o. rw (others_kept (omega arith)) (h.none a on_a))

  low_next : Low gap left after low' word'
  low_next = record {
    below = λ a on_a off. by_cases (ℕ_discrete a l)
        (λ z. subst⁻¹ (λ (x : ℕ). low' ≤ gap x) z (omega arith))
        (λ d. omega (arith, h.below a on_a (sym (w.others a d) ∙ off)));
    highest = λ v hv f. omega (arith, h.highest v hv (λ a on_a off. f a on_a (w.others a (other a off) ∙ off)), f l on_left w.out);
    reached = λ a on_a off. by_cases (ℕ_discrete a l)
        (λ z. subst⁻¹ (λ (x : ℕ). bit word' x ≡ eqb (gap x) low') z own)
        (λ d. another a d on_a (sym (w.others a d) ∙ off));
    none = λ a on_a.
        let d : a ≡ l → ⊥ = λ z. true≢false (sym (subst (λ (x : ℕ). bit after x ≡ true) z on_a) ∙ w.out) in
        r.others a d ∙ none_later a (sym (w.others a d) ∙ on_a);
    within = omega (arith, h.within);
  }

-- a call joins the words and the least gaps of one lot more
pub joined_more : (slacks : List ℕ) (i l k v u : ℕ) (low words low' words' : List ℕ) → Joined slacks i l k low words low' words'
    → k < length low' → k < length words' → v ≡ min (get_or low' k 0) (gap_of slacks i k l)
    → WithCall (get_or words' k 0) (get_or low' k 0) (gap_of slacks i k l) l u
    → Joined slacks i l (k + 1) low words (set low' k v) (set words' k u)
joined_more slacks i l k v u low words low' words' r hl hw e f = record {
  low_passed = below_more _ _
      (λ a ha. get_or-set_other low' k a v 0 (λ z. omega arith) ∙ r.low_passed a ha)
      (get_or-set_same low' k v 0 hl ∙ e ∙ ap (λ (x : ℕ). min x (gap_of slacks i k l)) low_was);
  passed = below_more _ _
      (λ a ha. subst⁻¹ (WithCall (get_or words a 0) (get_or low a 0) (gap_of slacks i a l) l) (get_or-set_other words' k a u 0 (λ z. omega arith)) (r.passed a ha))
      (subst⁻¹ (WithCall (get_or words k 0) (get_or low k 0) (gap_of slacks i k l) l) (get_or-set_same words' k u 0 hw)
      (rw (low_was, r.later k (omega arith)) at f));
  low_later = λ a ha. get_or-set_other low' k a v 0 (λ z. omega arith) ∙ r.low_later a (omega arith);
  later = λ a ha. get_or-set_other words' k a u 0 (λ z. omega arith) ∙ r.later a (omega arith);
  low_long = simp length-set r.low_long;
  long = simp length-set r.long;
}
  where
    low_was : get_or low' k 0 ≡ get_or low k 0
    low_was = r.low_later k (omega arith)

-- the row's numbers and words by the calls passed, which leave those in `rest`
pub record Passed (slacks : List ℕ) (i left rest : ℕ) (low words : List ℕ) : Type 0 where
  pub each : (k : ℕ) → k < 8 → Low (gap_of slacks i k) left rest (get_or low k 0) (get_or words k 0)
  pub inside : (l : ℕ) → bit rest l ≡ true → bit left l ≡ true
  pub low_long : length low ≡ 8
  pub long : length words ≡ 8

-- one more at a time
pub passed_next : (slacks : List ℕ) (i left rest l after : ℕ) (low words low' words' : List ℕ) → Passed slacks i left rest low words
    → bit rest l ≡ true → Without rest l after → Joined slacks i l 8 low words low' words' → Passed slacks i left after low' words'
passed_next slacks i left rest l after low words low' words' h on w r = record {
  each = λ k hk. low_next (gap_of slacks i k) left rest l after (get_or low k 0) (get_or words k 0) (get_or low' k 0) (get_or words' k 0)
      (h.each k hk) (h.inside l on) on w (r.low_passed k hk) (r.passed k hk);
  inside = λ a on_a. by_cases (ℕ_discrete a l)
      (λ z. subst⁻¹ (λ (x : ℕ). bit left x ≡ true) z (h.inside l on))
      (λ d. h.inside a (sym (w.others a d) ∙ on_a));
  low_long = r.low_long ∙ h.low_long;
  long = r.long ∙ h.long;
}

-- a call of the word cut at 8
pub below_eight : (left first l : ℕ) → Below left 8 first → bit first l ≡ true → l < 8
below_eight left first l b on = by_cases (dec_lt l 8) (λ lt. lt) (λ o. absurd (true≢false (sym on ∙ b.none l (omega arith))))

module _ (slacks : List ℕ) (capped : Capped slacks) (i left first : ℕ) (b : Below left 8 first) where
  gap_in : (k l : ℕ) → gap_of slacks i k l < gap_out
  gap_in k l = either (eqb (get_or slacks (8 * l + k) 0) 0)
    where
      either : (none : Bool) → cond none 0 (suc cost_top - get_or slacks (8 * l + i) 0 + get_or slacks (8 * l + k) 0) < gap_out
      either true = omega arith
      either false = omega (arith, capped (8 * l + i), capped (8 * l + k))

  least_calls : (k low word : ℕ) → Low (gap_of slacks i k) first 0 low word → LeastCalls slacks left i k word
  least_calls k low word q = record {
    least = λ l h hl hh on_l on_h is.
        let low_is = eqb-true (gap_of slacks i k l) low (sym (q.reached l (b.lower l hl ∙ on_l) (bit_none l)) ∙ is) in
        omega (arith, low_is, q.below h (b.lower h hh ∙ on_h) (bit_none h));
    all = λ l hl on f.
        let on_first : bit first l ≡ true = b.lower l hl ∙ on in
        let at_most : gap_of slacks i k l ≤ low = q.highest (gap_of slacks i k l) (omega (arith, gap_in k l))
        (λ h on_h off. let hh = below_eight left first h b on_h in f h hh (sym (b.lower h hh) ∙ on_h)) in
        q.reached l on_first (bit_none l) ∙ eq-eqb (gap_of slacks i k l) low (omega (arith, q.below l on_first (bit_none l)));
  }

  -- once none is to come
  pub row_is_least : (low words : List ℕ) → Passed slacks i first 0 low words → LeastRow slacks left i words
  row_is_least low words h = record { each = λ k hk. least_calls k (get_or low k 0) (get_or words k 0) (h.each k hk) }
