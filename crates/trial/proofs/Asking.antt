-- The lots that are asked about a pair, without ranks: when a lot hinders it and when it lets it pass, and which are still to be asked once some
-- were.
use mathlib.Core.Path.{◌≡◌, refl, sym, ◌∙◌, ap, subst⁻¹}
use mathlib.Core.Logic.{⊎_elim, ∥∥₁_elim, by_cases}
use mathlib.Core.Bool.{Bool, true, false, not, and-true, true≢false, Bool-discrete}
use mathlib.Core.List.{List}
use Prim.Native.Nat.{ℕ, ◌+◌, ◌*◌, ◌≤◌, ◌<◌}
use native.Mathlib.Decide.{ℕ_discrete, dec_lt}
use native.Mathlib.Omega.{arith}
use borrow.Author.Tests.{not-false}
use denote.Struct.Props.{props}
use lib.ListN.{get_or, set, length-set}
use lib.Seq.{get_or-set_same, get_or-set_other}
use Rattle.transport.proofs.Laws.Tests.{and_left, and_right, false_of}
use Rattle.specification.specs.Book.{bit}
use Rattle.book.specs.Table.{entry}
use Rattle.slacks.specs.Slacks.{remains}
use Rattle.words.specs.Words.{LowestIn, Below, Minus, Without}
use Rattle.words.specs.Lefts.{is_left}
use Rattle.words.proofs.Sets.{bit_none}
use Rattle.words.proofs.Ends.{lowest_le}
use Rattle.words.proofs.Changes.{was_in}
use Rattle.words.proofs.Lefts.{same_pair}
use Rattle.trial.specs.declared.table.Given.{Given}
use Rattle.lines.specs.declared.Left.{Left}
use Rattle.trial.specs.Testing.{Fitting, LetsPass, Passes, Misfits}
use Rattle.trial.specs.Left.{Trying, Halves, ToAsk, Passed}
use Rattle.trial.proofs.Lefts.{cap, left_in, left_few, own_few, has_slack, on_line}

module _ {given : Given} {left : Left} {compared : List ℕ} {i j : ℕ} (t : Trying given left compared i j) where
  -- lot k, which still has call j: it hinders the pair at a call left to lot i, or lets it pass
  module _ (k : ℕ) (held : is_left left.lefts k j ≡ true) (plain : given.ranking.now.ranked ≡ false) where
    eligible_is : (l : ℕ) → is_left left.lefts i l ≡ true → is_left given.eligible.now k l ≡ remains given.slacks.now k l
    eligible_is l e = ∥∥₁_elim given.tabled (hlevel props) (λ d. d.table.eligible_are.each k l (left_in t d k j held).0 (left_in t d i l e).1)

    hinders : (l : ℕ) → is_left left.lefts i l ≡ true → (Fitting given.slacks.now i j k l → ⊥) → Halves given.ranking.now.ranked given.slacks.now left i j (record { low = true; high = false })
    hinders l il unfit = record {
      low_told = λ y. record { lot = k; call = l; by_it = record { held = held; left = il; unfit = unfit }; cornered = λ z. absurd (true≢false (sym z ∙ plain)) };
      high_told = λ y. absurd (true≢false (sym y));
      told_in = refl;
    }

    pub hinders_missing : {word : ℕ} → Minus (get_or left.lefts i 0) (get_or given.eligible.now k 0) word → 0 < word → Halves given.ranking.now.ranked given.slacks.now left i j (record { low = true; high = false })
    hinders_missing w h =
        let (l, low, hl) = w.some h in
        let on = sym (w.each l) ∙ low.is_in in
        let il = and_left (is_left left.lefts i l) _ on in
        hinders l il (λ f. true≢false (sym (and_right (is_left left.lefts i l) _ on) ∙ ap not (eligible_is l il ∙ f.has_slack)))

    pub hinders_misfit : {found : Bool} → Misfits given.slacks.now compared i j k 32 found → found ≡ true → Halves given.ranking.now.ranked given.slacks.now left i j (record { low = true; high = false })
    hinders_misfit r h =
        let (l, hl, m) = r.some h in
        let q = t.kept.raised_is plain in
        by_cases (Bool-discrete (is_left left.lefts i l) true)
        (λ e. hinders l e (λ f. omega (arith, q.on i l (own_few t).0 hl e, f.no_dearer)))
        (λ d. absurd (omega (arith, q.gone i j l t.is_left_lem hl (false_of (is_left left.lefts i l) d), cap t k j)))

    pub lets_pass : {word : ℕ} {found : Bool} → Minus (get_or left.lefts i 0) (get_or given.eligible.now k 0) word → word ≤ 0 → Misfits given.slacks.now compared i j k 32 found
        → found ≡ false → LetsPass given.slacks.now left.lefts i j k
    lets_pass {word} w h r z = record {
      fits = λ e l on. let (hi, hl) = left_few t i l on in
          let none : word ≡ 0 = omega arith in
          record {
            has_slack = sym (eligible_is l on) ∙ not-false (is_left given.eligible.now k l) (rw (on, none, bit_none l) at (sym (w.each l)));
            no_dearer = omega (arith, r.none z l hl, (t.kept.raised_is plain).on i l hi hl on);
          };
    }

  -- the last pair of its lot fits with each
  pub passes_last : {word : ℕ} → Without (get_or left.lefts i 0) j word → word ≡ 0 → Passes given.slacks.now left.lefts i j
  passes_last w z = record {
    on = t.is_left_lem;
    passed = λ k. record {
      fits = λ held l on. by_cases (ℕ_discrete l j)
          (λ e. subst⁻¹ (Fitting given.slacks.now i j k) e (record { has_slack = has_slack t k j held; no_dearer = omega arith }))
          (λ d. absurd (true≢false (sym on ∙ sym (w.others l d) ∙ ap (λ (v : ℕ). bit v l) z ∙ bit_none l)));
    };
  }

  -- the others on the line of the call: its own lot lets the pair pass
  pub to_ask_others : {others : ℕ} → Without (get_or left.lines (32 + j) 0) (get_or given.ranking.now.ranks i 0) others → ToAsk given left i j others
  to_ask_others w = record {
    passed = λ k held off. let (on, named) = on_line t k held in
        by_cases (ℕ_discrete (get_or given.ranking.now.ranks k 0) (get_or given.ranking.now.ranks i 0))
        (λ z. let own : k ≡ i = cc (on_line t i t.is_left_lem).1 in
        rw own (record { fits = λ held l on. record { has_slack = has_slack t i l on; no_dearer = omega arith } }))
        (λ d. absurd (true≢false (sym on ∙ sym (w.others (get_or given.ranking.now.ranks k 0) d) ∙ off)));
    on_column = was_in w;
  }

  module _ {lots : ℕ} (h : ToAsk given left i j lots) where
    pub holder : {k p : ℕ} → k ≡ get_or given.ranking.now.names p 0 → LowestIn lots p → is_left left.lefts k j ≡ true
    holder {k} {p} named low = rw named (t.kept.lined.column_of j p (own_few t).1 (h.on_column p low.is_in))

    -- but those below the pair's number
    pub to_ask_from : {start below from : ℕ} {passed : List ℕ} → Passed given left.lefts passed → start ≤ entry passed i j → Below lots start below
        → Minus lots below from → ToAsk given left i j from
    to_ask_from {start} g e b f = record {
      passed = λ k held off. let (hi, hj) = own_few t in
          by_cases (dec_lt (get_or given.ranking.now.ranks k 0) start)
          (λ lt. rw (on_line t k held).1 at (g.each i j (get_or given.ranking.now.ranks k 0) hi hj (omega arith)))
          (λ o. h.passed k held (sym (and-true _) ∙ sym (f.each (get_or given.ranking.now.ranks k 0) ∙ rw (b.none (get_or given.ranking.now.ranks k 0) (omega arith))) ∙ off));
      on_column = λ p e. h.on_column p (and_left (bit lots p) _ (sym (f.each p) ∙ e));
    }

    -- one let the pair pass
    pub to_ask_next : {k p after : ℕ} → k ≡ get_or given.ranking.now.names p 0 → LetsPass given.slacks.now left.lefts i j k → Without lots p after → ToAsk given left i j after
    to_ask_next {k} {p} named l w = record {
      passed = λ a held off. by_cases (ℕ_discrete (get_or given.ranking.now.ranks a 0) p)
          (λ z. let same : k ≡ a = cc (on_line t a held).1 in rw same at l)
          (λ d. h.passed a held (sym (w.others (get_or given.ranking.now.ranks a 0) d) ∙ off));
      on_column = λ q e. h.on_column q (was_in w q e);
    }

    -- all did
    pub passes_all : lots ≡ 0 → Passes given.slacks.now left.lefts i j
    passes_all z = record {
      on = t.is_left_lem;
      passed = λ k. record { fits = λ held. (h.passed k held (rw z (bit_none (get_or given.ranking.now.ranks k 0)))).fits held };
    }

    -- the next does not: all of lower ranks do
    passes_lower : {p : ℕ} → LowestIn lots p → (q : ℕ) → q < p → LetsPass given.slacks.now left.lefts i j (get_or given.ranking.now.names q 0)
    passes_lower {p} low q lt = record {
      fits = λ held. (h.passed (get_or given.ranking.now.names q 0) held (false_of (bit lots (get_or given.ranking.now.ranks (get_or given.ranking.now.names q 0) 0)) (λ e.
          ∥∥₁_elim given.tabled (hlevel props) (λ d.
          let r = d.table.numbered.lots_named in
          let few = r.rank_below (get_or given.ranking.now.names q 0) (left_in t d (get_or given.ranking.now.names q 0) j held).0 in
          let le = lowest_le lots p (get_or given.ranking.now.ranks (get_or given.ranking.now.names q 0) 0) low e in
          omega (arith, r.rank_at q (omega arith)))))).fits held;
    }

    pub passed_next : {p : ℕ} {passed : List ℕ} → Passed given left.lefts passed → LowestIn lots p
        → Passed given left.lefts (set passed (32 * i + j) p)
    passed_next {p} {passed} g low = let (hi, hj) = own_few t in record {
      each = λ a b q ha hb lt. ⊎_elim
          (λ s. rw (s.0, s.1) (passes_lower low q (rw (s.0, s.1, get_or-set_same passed (32 * i + j) p 0 (omega (arith, g.long))) at lt)))
          (λ d. g.each a b q ha hb (rw (get_or-set_other passed (32 * i + j) (32 * a + b) p 0 (λ e. d (omega arith))) at lt))
          (same_pair a b i j);
      long = simp length-set g.long;
    }
