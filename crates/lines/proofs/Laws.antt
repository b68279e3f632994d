-- Laws of the lines. A line is set with its ends: a word has one lowest and one highest number. At first each line has what is eligible with it, by
-- its ranks. When a pair is lost, both its lines lose a rank: what they have is still what is left, and an end stays
-- where it was not the pair's.
use mathlib.Core.Path.{◌≡◌, refl, sym, ap, ◌∙◌, subst, fun_ext}
use mathlib.Core.Logic.{by_cases}
use mathlib.Core.Bool.{Bool, true, false, not, ◌&&◌, true≢false, and-true, and-not_self}
use mathlib.Core.List.{List}
use Prim.Native.Nat.{ℕ, ◌+◌, ◌-◌, ◌%◌, ◌≤◌, ◌<◌}
use native.Mathlib.Nat.{zero-add}
use native.Mathlib.Decide.{ℕ_discrete, dec_lt}
use native.Mathlib.Omega.{arith}
use lib.ListN.{length, get_or, set, length-set, get_or-eq_default}
use lib.Seq.{get_or-set_same, get_or-set_other}
use Rattle.transport.proofs.Laws.Tests.{false_of}
use Rattle.transport.proofs.Finder.Ranks.{Renames}
use Rattle.specification.specs.Book.{bit}
use Rattle.words.specs.Words.{LowestIn, HighestIn, Below, Without, IncludingIf}
use Rattle.words.specs.Lefts.{is_left, TakenFrom}
use Rattle.words.proofs.Sets.{bit_none, bit_all}
use Rattle.words.proofs.Changes.{was_in}
use Rattle.words.proofs.Ends.{word_positive, lowest_le, highest_ge, lowest_from, highest_from}
use Rattle.words.proofs.Lefts.{gone, stays, fewer}
use Rattle.ranks.specs.Numbered.{Numbered, Plain}
use Rattle.ranks.specs.declared.Ranking.{Ranking}
use Rattle.lines.specs.declared.Left.{Left}
use Rattle.lines.specs.Lines.{OnLine, Lined, EndsOf, Ended, EndsKept, RanksFrom, ByRank, LineSet}

-- a word with a number is one of the list
pub left_in : (xs : List ℕ) (x q : ℕ) → is_left xs x q ≡ true → x < length xs
left_in xs x q e = by_cases (dec_lt x (length xs)) (λ h. h)
    (λ h. absurd (true≢false (sym e ∙ rw (get_or-eq_default xs 0 {n = x} (omega arith)) (bit_none q))))

-- what is on a line stays where its rank does
still : {ranking : Ranking} {across word word' x : ℕ} → OnLine ranking across word x
    → bit word' (get_or ranking.ranks (across + x) 0) ≡ bit word (get_or ranking.ranks (across + x) 0) → OnLine ranking across word' x
still o e = record { is_on = e ∙ o.is_on; named = o.named }

-- ---- a line is set

module _ {word : ℕ} (ranking : Ranking) (line across : ℕ) (left : Left) (h : line < length left.lines) where
  -- with no number it has no ends
  pub set_none : word ≡ 0 → LineSet ranking word line across left (record { lefts = left.lefts; lines = set left.lines line word; nears = left.nears; fars = left.fars })
  set_none z = record {
    own_word = get_or-set_same left.lines line word 0 h;
    own_ends = record {
      low = λ q low. absurd (omega (arith, word_positive word q low.is_in));
      high = λ q high. absurd (omega (arith, word_positive word q high.is_in));
    };
    others = λ x d. (get_or-set_other left.lines line x word 0 d, refl, refl);
    lefts_kept = refl;
    long = (length-set left.lines line word, refl, refl);
  }

  -- else the names of the lowest and the highest are stored
  pub set_some : {p r : ℕ} → line < length left.nears → line < length left.fars → LowestIn word p → HighestIn word r
      → LineSet ranking word line across left (record {
        lefts = left.lefts;
        lines = set left.lines line word;
        nears = set left.nears line (get_or ranking.names (across + p) 0);
        fars = set left.fars line (get_or ranking.names (across + r) 0);
      })
  set_some {p} {r} near far low high = record {
    own_word = get_or-set_same left.lines line word 0 h;
    own_ends = record {
      low = λ q l. let e : p ≡ q = omega (arith, lowest_le word p q low l.is_in, lowest_le word q p l low.is_in) in
          rw (get_or-set_same left.nears line _ 0 near, e);
      high = λ q l. let e : r ≡ q = omega (arith, highest_ge word r q high l.is_in, highest_ge word q r l high.is_in) in
          rw (get_or-set_same left.fars line _ 0 far, e);
    };
    others = λ x d. (get_or-set_other left.lines line x _ 0 d, get_or-set_other left.nears line x _ 0 d, get_or-set_other left.fars line x _ 0 d);
    lefts_kept = refl;
    long = (length-set left.lines line _, length-set left.nears line _, length-set left.fars line _);
  }

module _ {ranking : Ranking} {left left' : Left} {word line across : ℕ} (s : LineSet ranking word line across left left') where
  -- what holds of any line then: of the one that is set, by its word and its ends, and of another, as it was
  pub set_then : (P : ℕ → ℕ → ℕ → Type 0) (x : ℕ) → (x ≡ line → P word (get_or left'.nears line 0) (get_or left'.fars line 0))
      → ((x ≡ line → ⊥) → P (get_or left.lines x 0) (get_or left.nears x 0) (get_or left.fars x 0))
      → P (get_or left'.lines x 0) (get_or left'.nears x 0) (get_or left'.fars x 0)
  set_then P x own other = by_cases (ℕ_discrete x line)
      (λ e. rw (e, s.own_word) (own e))
      (λ d. rw ((s.others x d).0, (s.others x d).1, (s.others x d).2) (other d))

  -- so with a number less
  pub taken_line : {r : ℕ} → Without (get_or left.lines line 0) r word → TakenFrom line r left.lines left'.lines
  taken_line w = record { out = rw s.own_word w.out; kept = λ l d. rw s.own_word (w.others l d); others = λ k d. (s.others k d).0; long = s.long.0 }

-- ---- the lines at first

-- of lots from line 0 on, and of calls from line 32 on
pub lots_from : {n m : ℕ} {names ranks : List ℕ} → Numbered n m names ranks → Renames n (λ x. get_or ranks (0 + x) 0) (λ q. get_or names (0 + q) 0)
lots_from k = simp zero-add k.lots_named

pub ranks_from : {ranking : Ranking} {from count : ℕ} {at : ℕ → ℕ} → from ≤ 32 → from % 32 ≡ 0 → count ≤ 32
    → Renames count (λ x. get_or ranking.ranks (from + x) 0) at → (ranking.ranked ≡ false → Plain ranking.ranks) → RanksFrom ranking from count
ranks_from {from = from} low start few r plain = record {
  few = few;
  below = r.rank_below;
  all = λ q h. (_, r.at_below q h, sym (r.rank_at q h));
  plain = λ e x h. plain e (from + x) (omega arith) ∙ omega arith;
}

-- of the same set
pub by_rank_as : {ranking : Ranking} {from count word : ℕ} {In In' : ℕ → Bool} → ((x : ℕ) → In x ≡ In' x) → ByRank ranking from count In word
    → ByRank ranking from count In' word
by_rank_as {ranking} {from} {count} {word} same = subst (λ (In : ℕ → Bool). ByRank ranking from count In word) (fun_ext same)

-- of own numbers the word itself has the ranks, and so has a word of all
module _ {ranking : Ranking} {from count word : ℕ} (r : RanksFrom ranking from count) (inside : (x : ℕ) → bit word x ≡ true → x < count) where
  pub by_rank_plain : ranking.ranked ≡ false → ByRank ranking from count (bit word) word
  by_rank_plain e = record {
    has = λ x b. rw (r.plain e x (inside x b)) b;
    only = λ q b. (q, inside q b, b, sym (r.plain e q (inside q b)));
  }

  pub by_rank_all : Below 4294967295 count word → ByRank ranking from count (bit word) word
  by_rank_all b = record {
    has = λ x e. all _ (r.below x (inside x e));
    only = λ q e. let (x, hx, is) = r.all q (inside q e) in (x, hx, all x hx, is);
  }
    where
      all : (x : ℕ) → x < count → bit word x ≡ true
      all x h = b.lower x h ∙ bit_all 32 x (omega (arith, r.few))

-- the ranks of those in the word but not left
pub record RanksPassed (ranking : Ranking) (from count word left line : ℕ) : Type 0 where
  pub among : (x : ℕ) → bit left x ≡ true → bit word x ≡ true
  pub by_rank : ByRank ranking from count (λ x. bit word x && not (bit left x)) line

pub passed_none : {ranking : Ranking} {from count word : ℕ} → RanksPassed ranking from count word word 0
passed_none {word = word} = record {
  among = λ x e. e;
  by_rank = record { has = λ x e. absurd (true≢false (sym e ∙ and-not_self (bit word x))); only = λ q e. absurd (true≢false (sym e ∙ bit_none q)) };
}

pub passed_more : {ranking : Ranking} {from count word left left' line line' k rank : ℕ} → RanksPassed ranking from count word left line → k < count
    → bit left k ≡ true → Without left k left' → rank ≡ get_or ranking.ranks (from + k) 0 → IncludingIf true line rank line' → RanksPassed ranking from count word left' line'
passed_more {ranking} {from} {word = word} {left} {left'} {line} {line'} {k} r few on w named put = record {
  among = λ x e. r.among x (was_in w x e);
  by_rank = record {
    has = λ x e. by_cases (ℕ_discrete x k)
        (λ z. rw z i.own)
        (λ d. grows _ (r.by_rank.has x (rw (w.others x d) at e)));
    only = λ q e. by_cases (ℕ_discrete q (get_or ranking.ranks (from + k) 0))
        (λ z. (k, few, rw (r.among k on, w.out), z))
        (λ d. let (x, hx, b, is) = r.by_rank.only q (sym (i.others q d) ∙ e) in
        (x, hx, rw (w.others x (λ z. d (is ∙ ap (λ (y : ℕ). get_or ranking.ranks (from + y) 0) z))) b, is));
  };
}
  where
    i : IncludingIf true line (get_or ranking.ranks (from + k) 0) line'
    i = subst (λ (x : ℕ). IncludingIf true line x line') named put

    grows : (q : ℕ) → bit line q ≡ true → bit line' q ≡ true
    grows q e = by_cases (ℕ_discrete q (get_or ranking.ranks (from + k) 0)) (λ z. rw z i.own) (λ d. i.others q d ∙ e)

pub passed_all : {ranking : Ranking} {from count word left line : ℕ} → RanksPassed ranking from count word left line → left ≡ 0 → ByRank ranking from count (bit word) line
passed_all {word = word} r z = by_rank_as (λ x. rw (z, bit_none x) (and-true (bit word x))) r.by_rank

-- a line has the ranks of what is eligible with it, with its ends
pub record FirstLine (ranking : Ranking) (across count : ℕ) (In : ℕ → Bool) (word near far : ℕ) : Type 0 where
  pub by_rank : ByRank ranking across count In word
  pub ends : EndsOf ranking across word near far

-- so what is on it is eligible
on_first : {ranking : Ranking} {across count word near far : ℕ} {In : ℕ → Bool} → FirstLine ranking across count In word near far → count ≤ 32
    → Renames count (λ x. get_or ranking.ranks (across + x) 0) (λ q. get_or ranking.names (across + q) 0) → (q : ℕ) → bit word q ≡ true
    → (q < 32) × (In (get_or ranking.names (across + q) 0) ≡ true) × (get_or ranking.ranks (across + get_or ranking.names (across + q) 0) 0 ≡ q)
on_first {ranking} {across = across} f few r q b =
    let (x, hx, e, is) = f.by_rank.only q b in
    let name : get_or ranking.names (across + q) 0 ≡ x = ap (λ (y : ℕ). get_or ranking.names (across + y) 0) is ∙ r.at_rank x hx in
    (omega (arith, r.rank_below x hx), rw name e, rw name (sym is))

-- the lines of the lots and the calls below x
pub record Firsts (ranking : Ranking) (eligible : List ℕ) (n m x : ℕ) (left : Left) : Type 0 where
  pub few : x ≤ 32
  pub rows : (a : ℕ) → a < x → FirstLine ranking 32 m (is_left eligible a) (get_or left.lines a 0) (get_or left.nears a 0) (get_or left.fars a 0)
  pub columns : (l : ℕ) → l < x → FirstLine ranking 0 n (λ a. is_left eligible a l) (get_or left.lines (32 + l) 0) (get_or left.nears (32 + l) 0) (get_or left.fars (32 + l) 0)
  pub lefts_are : left.lefts ≡ eligible
  pub long : (length left.lines ≡ 64) × (length left.nears ≡ 64) × (length left.fars ≡ 64)

-- so the lines have what is eligible, by its ranks
pub lined_first : {n m : ℕ} {ranking : Ranking} {left : Left} → Numbered n m ranking.names ranking.ranks
    → ((i j : ℕ) → is_left left.lefts i j ≡ true → (i < n) × (j < m)) → Firsts ranking left.lefts n m 32 left → Lined ranking left
lined_first {ranking = ranking} {left} k inside f = record {
  row = λ a l e. let (ha, hl) = inside a l e in
      record { is_on = (f.rows a (omega (arith, k.lots_few))).by_rank.has l e; named = k.calls_named.at_rank l hl };
  column = λ a l e. let (ha, hl) = inside a l e in
      record { is_on = (f.columns l (omega (arith, k.calls_few))).by_rank.has a e; named = simp zero-add (k.lots_named.at_rank a ha) };
  row_of = λ a q h b. (on_row a q h b).1;
  column_of = λ l p h b. (on_column l p h b).1;
  row_rank = λ a q h b. (on_row a q h b).2;
  column_rank = λ l p h b. (on_column l p h b).2;
  within = λ x q b. by_cases (dec_lt x 32)
      (λ h. (on_row x q h b).0)
      (λ o. let e : x ≡ 32 + (x - 32) = omega arith in (on_column (x - 32) q (omega (arith, left_in left.lines x q b, f.long.0)) (rw e at b)).0);
  long = f.long.0;
}
  where
    on_row : (a q : ℕ) → a < 32 → is_left left.lines a q ≡ true
        → (q < 32) × (is_left left.lefts a (get_or ranking.names (32 + q) 0) ≡ true) × (get_or ranking.ranks (32 + get_or ranking.names (32 + q) 0) 0 ≡ q)
    on_row a q h = on_first (f.rows a h) k.calls_few k.calls_named q

    on_column : (l p : ℕ) → l < 32 → is_left left.lines (32 + l) p ≡ true
        → (p < 32) × (is_left left.lefts (get_or ranking.names p 0) l ≡ true) × (get_or ranking.ranks (get_or ranking.names p 0) 0 ≡ p)
    on_column l p h b = simp zero-add at (on_first (f.columns l h) k.lots_few (lots_from k) p b)

-- ---- a pair is lost

-- an end stays, unless it is x and the line is the pair's own
abbrev Stays : Type 0 → ℕ → ℕ → ℕ → Type 0
Stays own x end end' = (own × (end ≡ x) → ⊥) → end' ≡ end

-- so where the word loses at most r, which names x
ends_stay : {ranking : Ranking} {own : Type 0} {across word word' near near' far far' r x : ℕ} (y : ℕ)
    → ((q : ℕ) → (own × (q ≡ r) → ⊥) → bit word' q ≡ bit word q) → ((q : ℕ) → bit word' q ≡ true → bit word q ≡ true)
    → ((q : ℕ) → bit word q ≡ true → q < 32) → EndsOf ranking across word near far → EndsOf ranking across word' near' far'
    → get_or ranking.names (across + r) 0 ≡ x → bit word y ≡ true → Stays own x near near' × Stays own x far far'
ends_stay {ranking} {own} {across} {word} {word'} {r} {x} y same had within was is named e =
    let (p, low) = lowest_from word 0 y (λ l lt. absurd (omega arith)) (rw (zero-add y) e) in
    let (q, high) = highest_from word y 32 (λ l le. false_of (bit word l) (λ b. omega (arith, within l b))) e in (
      named_stays (was.low p low) (λ d. is.low p (record { is_in = same p d ∙ low.is_in; none_below = λ l lt. none l (low.none_below l lt) })),
      named_stays (was.high q high) (λ d. is.high q (record { is_in = same q d ∙ high.is_in; none_above = λ l lt. none l (high.none_above l lt) })),
    )
  where
    none : (l : ℕ) → bit word l ≡ false → bit word' l ≡ false
    none l z = false_of (bit word' l) (λ b. true≢false (sym (had l b) ∙ z))

    named_stays : {q end end' : ℕ} → end ≡ get_or ranking.names (across + q) 0 → ((own × (q ≡ r) → ⊥) → end' ≡ get_or ranking.names (across + q) 0) → Stays own x end end'
    named_stays o k d = k (λ z. d (z.0, o ∙ rw z.1 named)) ∙ sym o

-- what is left is not what is taken
apart : {i j : ℕ} {before after : List ℕ} → TakenFrom i j before after → (a l : ℕ) → is_left after a l ≡ true → a ≡ i → l ≡ j → ⊥
apart t a l b y z = true≢false (sym b ∙ gone t a l (y, z))

module _ {ranking : Ranking} {left left₁ left' : Left} {lefts' : List ℕ} {i word word₁ : ℕ} (j : ℕ)
    (lined : Lined ranking left) (was : Ended ranking left) (few : length left.lefts ≡ 32) (e : is_left left.lefts i j ≡ true)
    (out : TakenFrom i j left.lefts lefts')
    (one : LineSet ranking word i 32 (record { lefts = lefts'; lines = left.lines; nears = left.nears; fars = left.fars }) left₁)
    (two : LineSet ranking word₁ (32 + j) 0 left₁ left') (first : TakenFrom i (get_or ranking.ranks (32 + j) 0) left.lines left₁.lines)
    (second : TakenFrom (32 + j) (get_or ranking.ranks (0 + i) 0) left₁.lines left'.lines) where
  t : TakenFrom i j left.lefts left'.lefts
  t = rw (two.lefts_kept, one.lefts_kept) out

  -- a lot to which something is left
  lot_few : (a l : ℕ) → is_left left.lefts a l ≡ true → a < 32
  lot_few a l b = omega (arith, left_in left.lefts a l b)

  -- the lines have what they had, but for the pair
  had : (x q : ℕ) → is_left left'.lines x q ≡ true → is_left left.lines x q ≡ true
  had x q b = fewer first x q (fewer second x q b)

  row_stays : (a q : ℕ) → a < 32 → ((a ≡ i) × (q ≡ get_or ranking.ranks (32 + j) 0) → ⊥) → is_left left'.lines a q ≡ is_left left.lines a q
  row_stays a q h d = stays second a q (λ y. omega (arith, y.0)) ∙ stays first a q d

  column_stays : (l p : ℕ) → ((l ≡ j) × (p ≡ get_or ranking.ranks (0 + i) 0) → ⊥) → is_left left'.lines (32 + l) p ≡ is_left left.lines (32 + l) p
  column_stays l p d =
      stays second (32 + l) p (λ y. d (omega (arith, y.0), y.1)) ∙ stays first (32 + l) p (λ y. omega (arith, y.0, lot_few i j e))

  -- so they have what is left
  lined_less : Lined ranking left'
  lined_less = record {
    row = λ a l b. let o = lined.row a l (fewer t a l b) in
        still o (row_stays a _ (lot_few a l (fewer t a l b)) (λ y. apart t a l b y.0 (cc (lined.row i j e).named)));
    column = λ a l b. let o = lined.column a l (fewer t a l b) in
        still o (column_stays l _ (λ y. apart t a l b (cc (lined.column i j e).named) y.0));
    row_of = λ a q h b. let o = had a q b in stays t a _ (λ y. apart first a q (fewer second a q b) y.0
        (sym (lined.row_rank a q h o) ∙ ap (λ (x : ℕ). get_or ranking.ranks (32 + x) 0) y.1)) ∙ lined.row_of a q h o;
    column_of = λ l p h b. let o = had (32 + l) p b in stays t _ l (λ y. apart second (32 + l) p b (ap (λ (x : ℕ). 32 + x) y.1)
        (sym (lined.column_rank l p h o) ∙ rw (zero-add i, y.0))) ∙ lined.column_of l p h o;
    row_rank = λ a q h b. lined.row_rank a q h (had a q b);
    column_rank = λ l p h b. lined.column_rank l p h (had (32 + l) p b);
    within = λ x q b. lined.within x q (had x q b);
    long = second.long ∙ first.long ∙ lined.long;
  }

  -- with their ends
  ended_less : Ended ranking left'
  ended_less = record {
    rows = λ a h. set_then two (EndsOf ranking 32) a (λ y. absurd (omega arith))
        (λ d. set_then one (EndsOf ranking 32) a (λ y. one.own_ends) (λ o. was.rows a h));
    columns = λ l h. set_then two (EndsOf ranking 0) (32 + l) (λ y. two.own_ends)
        (λ d. set_then one (EndsOf ranking 0) (32 + l) (λ y. absurd (omega (arith, lot_few i j e))) (λ o. was.columns l h));
    nears_long = two.long.1 ∙ one.long.1 ∙ was.nears_long;
    fars_long = two.long.2 ∙ one.long.2 ∙ was.fars_long;
  }

  -- which stay where they were not the pair's
  row_ends : (a l : ℕ) → is_left left.lefts a l ≡ true
      → Stays (a ≡ i) j (get_or left.nears a 0) (get_or left'.nears a 0) × Stays (a ≡ i) j (get_or left.fars a 0) (get_or left'.fars a 0)
  row_ends a l b = let h = lot_few a l b in
      ends_stay _ (λ q. row_stays a q h) (had a) (lined.within a) (was.rows a h) (ended_less.rows a h) (lined.row i j e).named (lined.row a l b).is_on

  column_ends : (a l : ℕ) → is_left left.lefts a l ≡ true
      → Stays (l ≡ j) i (get_or left.nears (32 + l) 0) (get_or left'.nears (32 + l) 0) × Stays (l ≡ j) i (get_or left.fars (32 + l) 0) (get_or left'.fars (32 + l) 0)
  column_ends a l b =
      let o = (lined.column a l b).is_on in
      let h : l < 32 = omega (arith, left_in left.lines (32 + l) _ o, lined.long) in
      ends_stay _ (column_stays l) (had (32 + l)) (lined.within (32 + l)) (was.columns l h) (ended_less.columns l h) (lined.column i j e).named o

  nears_kept : EndsKept i j left'.lefts left.nears left'.nears
  nears_kept = record { row = λ a l b. (row_ends a l (fewer t a l b)).0; column = λ a l b. (column_ends a l (fewer t a l b)).0 }

  fars_kept : EndsKept i j left'.lefts left.fars left'.fars
  fars_kept = record { row = λ a l b. (row_ends a l (fewer t a l b)).1; column = λ a l b. (column_ends a l (fewer t a l b)).1 }

  pub lost : TakenFrom i j left.lefts left'.lefts
      × (Lined ranking left' × (Ended ranking left' × (EndsKept i j left'.lefts left.nears left'.nears × EndsKept i j left'.lefts left.fars left'.fars)))
  lost = (t, (lined_less, (ended_less, (nears_kept, fars_kept))))
