-- Laws of asking. Of a lot, the calls below the one found have marks, or all where there is none (`first_free`, `first_none`). A pair that is
-- marked is hindered, so it does not pass: the lowest pair without a mark that passes is the lowest that passes (`pair_first`, `none_first`).
use mathlib.Core.Path.{◌≡◌, refl, sym, ◌∙◌}
use mathlib.Core.Logic.{by_cases}
use mathlib.Core.Bool.{Bool, true, false, ◌&&◌, ◌||◌, or-true}
use mathlib.Core.List.{List}
use Prim.Native.Nat.{ℕ, ◌<◌}
use native.Mathlib.Decide.{ℕ_discrete}
use borrow.Author.Tests.{eqb-true, eq-eqb, ne_eqb, not-false}
use lib.Dec.{eqb}
use lib.ListN.{length, get_or, set, length-set}
use lib.Seq.{get_or-set_same, get_or-set_other}
use Rattle.transport.proofs.Laws.Tests.{and_left, and_right}
use Rattle.specification.specs.Book.{bit}
use Rattle.words.specs.Words.{LowestIn, Minus, Either, Without, IncludingIf}
use Rattle.words.specs.Lefts.{is_left}
use Rattle.words.proofs.Sets.{bit_none}
use Rattle.words.proofs.Changes.{was_in}
use Rattle.lines.specs.declared.Left.{Left}
use Rattle.trial.specs.declared.Hindered.{Hindered}
use Rattle.trial.specs.Testing.{Passes}
use Rattle.trial.specs.Left.{HinderedIn, Halves}
use Rattle.search.specs.declared.marks.Half.{Half}
use Rattle.search.specs.Marks.{HalfOf, Marks, marked, Asked}
use Rattle.search.specs.Steps.{PutIf, AskedBelow, FirstPair}

-- one of two tests holds
pub or_elim : {A : Type 0} (a b : Bool) → (a || b) ≡ true → (a ≡ true → A) → (b ≡ true → A) → A
or_elim true b e f g = f refl
or_elim false b e f g = g e

-- ---- a number put into a word
pub put_set : {test : Bool} {i j w : ℕ} {words : List ℕ} → IncludingIf test (get_or words i 0) j w → i < length words → PutIf test i j words (set words i w)
put_set {i = i} {j} {w} {words} r h = record {
  each = λ a l. by_cases (ℕ_discrete a i)
      (λ y. by_cases (ℕ_discrete l j)
      (λ z. rw (y, z, eq-eqb i i refl, eq-eqb j j refl, get_or-set_same words i w 0 h) r.own)
      (λ z. rw (y, eq-eqb i i refl, ne_eqb l j z, get_or-set_same words i w 0 h) (r.others l z)))
      (λ y. rw (ne_eqb a i y, get_or-set_other words i a w 0 y));
  long = length-set words i w;
}

module _ {test : Bool} {i j : ℕ} {words words' : List ℕ} (q : PutIf test i j words words') where
  -- what is put is in its word, what was in a word is in it still, and what is in it was, or was put
  put_in : test ≡ true → is_left words' i j ≡ true
  put_in f = q.each i j ∙ rw (eq-eqb i i refl, eq-eqb j j refl, f)

  put_grows : (a l : ℕ) → is_left words a l ≡ true → is_left words' a l ≡ true
  put_grows a l e = q.each a l ∙ rw e (or-true (eqb a i && (eqb l j && test)))

  put_says : (A : ℕ → ℕ → Type 0) (a l : ℕ) → is_left words' a l ≡ true → (is_left words a l ≡ true → A a l) → (test ≡ true → A i j) → A a l
  put_says A a l e was put = or_elim (eqb a i && (eqb l j && test)) (is_left words a l) (sym (q.each a l) ∙ e)
      (λ f.
      let g = and_right (eqb a i) _ f in
      rw (eqb-true a i (and_left (eqb a i) _ f), eqb-true l j (and_left (eqb l j) test g)) (put (and_right (eqb l j) test g)))
      was

-- ---- a mark more
half_more : {ranked : Bool} {slacks lefts nears fars : List ℕ} {half half' : Half} {test : Bool} {i j : ℕ}
    → HalfOf ranked slacks lefts nears fars half → (test ≡ true → HinderedIn ranked slacks lefts nears fars i j)
    → PutIf test i j half.marks half'.marks → PutIf test j i half.waits half'.waits → HalfOf ranked slacks lefts nears fars half'
half_more {ranked} {slacks} {lefts} {nears} {fars} {half' = half'} h told q w = record {
  hindered = λ a l on e. put_says q (HinderedIn ranked slacks lefts nears fars) a l e (h.hindered a l on) told;
  waits_are = record {
    waiting = λ a l e. put_says q (λ (a l : ℕ). is_left half'.waits l a ≡ true) a l e (λ was. put_grows w l a (h.waits_are.waiting a l was)) (put_in w);
    long = q.long ∙ h.waits_are.long;
    waits_long = w.long ∙ h.waits_are.waits_long;
  };
}

-- ---- a pair that is marked does not pass
hindered_not : {ranked : Bool} {slacks lefts nears fars : List ℕ} {i j : ℕ} → HinderedIn ranked slacks lefts nears fars i j → Passes slacks lefts i j → ⊥
hindered_not r p = r.by_it.unfit ((p.passed r.lot).fits r.by_it.held r.call r.by_it.left)

marked_not : {ranked : Bool} {slacks : List ℕ} {left : Left} {low high : Half} → Marks ranked slacks left low high
    → (i j : ℕ) → marked low high i j ≡ true → Passes slacks left.lefts i j → ⊥
marked_not {low = low} {high} h i j e p = or_elim (is_left low.marks i j) (is_left high.marks i j) e
    (λ f. hindered_not (h.low_half.hindered i j p.on f) p)
    (λ f. hindered_not (h.high_half.hindered i j p.on f) p)

-- ---- the calls of lot i that are still to be tried: the others that are left are marked, and no other lot's marks changed
pub record Trials (lefts : List ℕ) (low₀ low high₀ high : Half) (i asks : ℕ) : Type 0 where
  pub untried : (l : ℕ) → is_left lefts i l ≡ true → bit asks l ≡ false → marked low high i l ≡ true
  pub among : (l : ℕ) → bit asks l ≡ true → is_left lefts i l ≡ true
  pub others : (k l : ℕ) → (k ≡ i → ⊥) → marked low high k l ≡ marked low₀ high₀ k l

pub trials_first : {lefts : List ℕ} {low high : Half} {i both asks : ℕ} → Either (get_or low.marks i 0) (get_or high.marks i 0) both → Minus (get_or lefts i 0) both asks
    → Trials lefts low low high high i asks
trials_first {lefts} {i = i} {both} b w = record {
  untried = λ l on off. sym (b.each l) ∙ not-false (bit both l) (sym (rw on at (w.each l)) ∙ off);
  among = λ l on. and_left (is_left lefts i l) _ (sym (w.each l) ∙ on);
  others = λ k l d. refl;
}

-- one is tried and marked
pub trials_next : {ranked : Bool} {slacks : List ℕ} {left : Left} {low₀ low low' high₀ high high' : Half} {i j asks after : ℕ} {told : Hindered}
    → Trials left.lefts low₀ low high₀ high i asks → Marks ranked slacks left low high
    → Halves ranked slacks left i j told → Without asks j after → PutIf told.low i j low.marks low'.marks × PutIf told.low j i low.waits low'.waits
    → PutIf told.high i j high.marks high'.marks × PutIf told.high j i high.waits high'.waits
    → Trials left.lefts low₀ low' high₀ high' i after × Marks ranked slacks left low' high'
trials_next {low = low} {low'} {i = i} {j} {told = told} t h halves w (l, lw) (u, hw) = (
  record {
    untried = λ l' on off. by_cases (ℕ_discrete l' j)
        (λ e. rw e (or_elim told.low told.high halves.told_in (λ f. rw (put_in l f)) (λ f. rw (put_in u f) (or-true (is_left low'.marks i j)))))
        (λ d. or_elim (is_left low.marks i l') _ (t.untried l' on (sym (w.others l' d) ∙ off)) (λ f. rw (put_grows l i l' f)) (λ f. rw (put_grows u i l' f) (or-true (is_left low'.marks i l'))));
    among = λ l' on. t.among l' (was_in w l' on);
    others = λ k l' d. rw (l.each k l', u.each k l', ne_eqb k i d) (t.others k l' d);
  },
  record { low_half = half_more h.low_half halves.low_told l lw; high_half = half_more h.high_half halves.high_told u hw },
)

-- the lowest that passes is the first, and where none is left there is none
module _ {lefts : List ℕ} {low₀ low high₀ high : Half} {i asks : ℕ} (t : Trials lefts low₀ low high₀ high i asks) where
  pub first_free : (j : ℕ) → LowestIn asks j → AskedBelow lefts i j low₀ low high₀ high
  first_free j low_is = record { own = λ l lt on. t.untried l on (low_is.none_below l lt); others = t.others }

  pub first_none : asks ≡ 0 → AskedBelow lefts i 32 low₀ low high₀ high
  first_none e = record { own = λ l lt on. t.untried l on (rw (e, bit_none l)); others = t.others }

-- ---- the lots that are still to be asked
module _ {ranked : Bool} {slacks : List ℕ} {left : Left} {low high : Half} (h : Marks ranked slacks left low high) {lots : ℕ} (s : Asked left.lefts low high lots) where
  none_there : (i j : ℕ) → bit lots i ≡ false → Passes slacks left.lefts i j → ⊥
  none_there i j off p = marked_not h i j (s.each i j p.on off) p

  pub none_first : ((i : ℕ) → bit lots i ≡ false) → (i j : ℕ) → Passes slacks left.lefts i j → ⊥
  none_first none i j = none_there i j (none i)

  pub pair_first : {low₀ high₀ : Half} {i j : ℕ} → LowestIn lots i → i < 32
      → AskedBelow left.lefts i j low₀ low high₀ high × Passes slacks left.lefts i j × (j < 32) → FirstPair slacks left.lefts i j
  pair_first {i = i} low_is hi (f, passes, hj) = record {
    lot_in = hi;
    call_in = hj;
    passes = passes;
    no_lower_lot = λ a l lt. none_there a l (low_is.none_below a lt);
    no_lower_call = λ l lt p. marked_not h i l (f.own l lt p.on) p;
  }

-- a lot is asked: its own marks alone change, and it need not be asked again where all its pairs that are left are marked
pub asked_next : {lefts : List ℕ} {low low' high high' : Half} {i end lots after : ℕ} → Asked lefts low high lots → AskedBelow lefts i end low low' high high'
    → ((a : ℕ) → (a ≡ i → ⊥) → bit after a ≡ bit lots a) → (bit after i ≡ false → (l : ℕ) → is_left lefts i l ≡ true → l < end) → Asked lefts low' high' after
asked_next {i = i} s f same all = record {
  each = λ a l left off. by_cases (ℕ_discrete a i)
      (λ e. rw e (f.own l (all (rw e at off) l (rw e at left)) (rw e at left)))
      (λ d. f.others a l d ∙ s.each a l left (sym (same a d) ∙ off));
}
