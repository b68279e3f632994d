-- By ranks two corners decide. The ends of a line are those of what is left to its lot or of the lots that have its call, by rank; so a pair
-- is free exactly when it fits at both corners, and a corner at which it does not fit hinders it.
use mathlib.Core.Path.{◌≡◌, refl, sym, ◌∙◌}
use mathlib.Core.Logic.{∥∥₁_elim, by_cases}
use mathlib.Core.Bool.{Bool, true, false, false≢true}
use mathlib.Core.List.{List}
use Prim.Native.Nat.{ℕ, ◌+◌, ◌*◌, ◌-◌, ◌<◌}
use native.Mathlib.Nat.{zero-add}
use native.Mathlib.Decide.{ℕ_discrete}
use native.Mathlib.Omega.{arith}
use borrow.Author.Tests.{leb-true, leb-false, eq-eqb, ne_eqb}
use denote.Struct.Props.{props}
use lib.ListN.{get_or}
use Rattle.transport.specs.Problem.{Problem}
use Rattle.transport.proofs.Laws.Tests.{T_of, T_true, false_of}
use Rattle.transport.proofs.Laws.Sets.{Remains, Among}
use Rattle.transport.proofs.Orders.Monge.{Fits}
use Rattle.transport.proofs.Finder.Ranks.{Ranked}
use Rattle.transport.proofs.Finder.Corners.{Ends, LotEnds, CallEnds, free_iff_corners}
use Rattle.specification.specs.Book.{bit}
use Rattle.book.specs.Table.{entry}
use Rattle.slacks.specs.Slacks.{by_slacks}
use Rattle.slacks.proofs.BySlacks.{remains_says, admits_is}
use Rattle.words.specs.Lefts.{is_left}
use Rattle.words.proofs.Ends.{lowest_le, highest_ge, lowest_from, highest_from}
use Rattle.ranks.specs.Numbered.{Compared, Low, fits_by}
use Rattle.ranks.proofs.Laws.{low_of}
use Rattle.ranks.specs.declared.Ranking.{Ranking}
use Rattle.lines.specs.Lines.{OnLine, EndsOf}
use Rattle.trial.specs.declared.table.Given.{Given}
use Rattle.lines.specs.declared.Left.{Left}
use Rattle.trial.specs.Testing.{Fitting, Passes, Hinders}
use Rattle.trial.specs.Tables.{Tabled}
use Rattle.trial.specs.Left.{Trying, HinderedIn, corners_tell, TrialOf}
use Rattle.trial.proofs.Lefts.{cap, left_in, left_few, own_few, has_slack}

-- the ends of a line with the ranks of what is in a set, and no others
line_ends : {ranking : Ranking} {across word near far : ℕ} {In : ℕ → Type 0} → EndsOf ranking across word near far
    → ((x : ℕ) → In x → OnLine ranking across word x)
    → ((q : ℕ) → bit word q ≡ true → In (get_or ranking.names (across + q) 0) × (get_or ranking.ranks (across + get_or ranking.names (across + q) 0) 0 ≡ q) × (q < 32))
    → (x : ℕ) → In x → Ends (λ y. get_or ranking.ranks (across + y) 0) In near far
line_ends {ranking} {across} {word} {near} {far} {In} ends to from x in_x =
    let on = (to x in_x).is_on in
    let rank = get_or ranking.ranks (across + x) 0 in
    let (low, l) = lowest_from word 0 rank (λ q lt. absurd (omega arith)) (simp zero-add on) in
    let (high, h) = highest_from word rank 32 (λ q le. false_of (bit word q) (λ e. omega (arith, (from q e).2))) on in
    let (low_in, low_is, lf) = from low l.is_in in
    let (high_in, high_is, hf) = from high h.is_in in
    rw (ends.low low l, ends.high high h) (record {
      low_in = low_in;
      high_in = high_in;
      least = λ y in_y. omega (arith, lowest_le word low (get_or ranking.ranks (across + y) 0) l (to y in_y).is_on);
      greatest = λ y in_y. omega (arith, highest_ge word high (get_or ranking.ranks (across + y) 0) h (to y in_y).is_on);
    })

-- by a table of what is given, which has so many lots and calls
module _ {given : Given} {left : Left} {compared : List ℕ} {i j : ℕ} (t : Trying given left compared i j) (is : given.ranking.now.ranked ≡ true)
    (d : Tabled given.slacks.now given.eligible.now given.ranking.now) where
  abbrev P : Problem
  P = by_slacks given.slacks.now d.lots d.calls

  remains_of : (k l : ℕ) → is_left left.lefts k l ≡ true → Remains P (is_left left.lefts) k l
  remains_of k l e = ((left_in t d k l e).0, (left_in t d k l e).1, T_of e)

  abbrev monge : Ranked P (λ k. get_or given.ranking.now.ranks k 0) (λ l. get_or given.ranking.now.ranks (32 + l) 0)
  monge = d.table.monge is

  row : LotEnds P (λ l. get_or given.ranking.now.ranks (32 + l) 0) (is_left left.lefts) i (get_or left.nears i 0) (get_or left.fars i 0)
  row =
      let r = t.kept.lined in
      line_ends (t.kept.ended.rows i (own_few t).0) (λ l u. r.row i l (T_true (is_left left.lefts i l) u.2))
      (λ q e. (remains_of i _ (r.row_of i q (own_few t).0 e), r.row_rank i q (own_few t).0 e, r.within i q e)) j (remains_of i j t.is_left_lem)

  column : CallEnds P (λ k. get_or given.ranking.now.ranks k 0) (is_left left.lefts) j (get_or left.nears (32 + j) 0) (get_or left.fars (32 + j) 0)
  column =
      let r = t.kept.lined in
      simp zero-add at (line_ends {In = λ k. Remains P (is_left left.lefts) k j} (t.kept.ended.columns j (own_few t).1) (λ k u. r.column k j (T_true (is_left left.lefts k j) u.2))
      (λ q e. simp zero-add (remains_of _ j (r.column_of j q (own_few t).1 e), r.column_rank j q (own_few t).1 e, r.within (32 + j) q e)) i
      (remains_of i j t.is_left_lem))

  abbrev costs : List ℕ
  costs = compared

  filled : Compared true given.slacks.now costs
  filled = t.kept.costs_are is

  -- a pair has its cost, or is a gap
  gap_at : (k l : ℕ) → k < 32 → l < 32 → entry given.slacks.now k l ≡ 0 → entry costs k l ≡ 4000002
  gap_at k l hk hl e = filled.each (32 * k + l) (omega arith) ∙ rw (eq-eqb (entry given.slacks.now k l) 0 e)

  cost_at : (k l : ℕ) → k < 32 → l < 32 → (entry given.slacks.now k l ≡ 0 → ⊥) → entry costs k l + entry given.slacks.now k l ≡ 2000001
  cost_at k l hk hl d =
      let e : entry costs k l ≡ 2000001 - entry given.slacks.now k l = filled.each (32 * k + l) (omega arith) ∙ rw (ne_eqb (entry given.slacks.now k l) 0 d) in
      omega (arith, cap t k l)

  left_cost : (k l : ℕ) → is_left left.lefts k l ≡ true → (entry costs k l + entry given.slacks.now k l ≡ 2000001) × (0 < entry given.slacks.now k l)
  left_cost k l e =
      let (hk, hl) = left_few t k l e in
      let has = remains_says given.slacks.now k l (T_of (has_slack t k l e)) in
      (cost_at k l hk hl (λ z. omega arith), has)

  among : Among P (is_left left.lefts) P.admits
  among k l u = T_of (admits_is given.slacks.now _ _ k l u.0 u.1 ∙ has_slack t k l (T_true (is_left left.lefts k l) u.2))

  -- it fits by the costs exactly where it does by the slacks
  fitting : (k l : ℕ) → is_left left.lefts k j ≡ true → is_left left.lefts i l ≡ true → fits_by costs i j k l ≡ true → Fitting given.slacks.now i j k l
  fitting k l kj il e = by_cases (ℕ_discrete (entry given.slacks.now k l) 0)
      (λ z. absurd (omega (arith, leb-true, gap_at k l (left_few t k j kj).0 (left_few t i l il).1 z, left_cost k j kj, left_cost i l il)))
      (λ d. record {
        has_slack = rw (ne_eqb (entry given.slacks.now k l) 0 d);
        no_dearer = omega (arith, leb-true, cost_at k l (left_few t k j kj).0 (left_few t i l il).1 d, left_cost k j kj, left_cost i l il, left_cost i j t.is_left_lem);
      })

  not_fitting : (k l : ℕ) → is_left left.lefts k j ≡ true → is_left left.lefts i l ≡ true → fits_by costs i j k l ≡ false → Fitting given.slacks.now i j k l → ⊥
  not_fitting k l kj il e f =
      let d : entry given.slacks.now k l ≡ 0 → ⊥ = λ z. let has = remains_says given.slacks.now k l (T_of f.has_slack) in omega arith in
      omega (arith, leb-false, f.no_dearer, cost_at k l (left_few t k j kj).0 (left_few t i l il).1 d, left_cost k j kj, left_cost i l il, left_cost i j t.is_left_lem)

  fits_of : (k l : ℕ) → Remains P (is_left left.lefts) k j → Remains P (is_left left.lefts) i l → fits_by costs i j k l ≡ true → Fits P i j k l
  fits_of k l kj il e =
      let f = fitting k l (T_true (is_left left.lefts k j) kj.2) (T_true (is_left left.lefts i l) il.2) e in record {
        admitted = T_of (admits_is given.slacks.now _ _ k l kj.0 il.1 ∙ f.has_slack);
        no_dearer = omega (arith, f.no_dearer, cap t i j, cap t k l, cap t i l, cap t k j);
      }

  few_in : (k l : ℕ) → Remains P (is_left left.lefts) k l → (k < 32) × (l < 32)
  few_in k l u = let r = d.table.slacks_are in (omega (arith, r.lots_few, u.0), omega (arith, r.calls_few, u.1))

  ends_few : (get_or left.nears i 0 < 32) × (get_or left.fars i 0 < 32) × (get_or left.nears (32 + j) 0 < 32) × (get_or left.fars (32 + j) 0 < 32)
  ends_few = ((few_in _ _ row.low_in).1, (few_in _ _ row.high_in).1, (few_in _ _ column.low_in).0, (few_in _ _ column.high_in).0)

  unfit_at : (k l : ℕ) → Remains P (is_left left.lefts) k j → Remains P (is_left left.lefts) i l → fits_by costs i j k l ≡ false → Hinders given.slacks.now left.lefts i j k l
  unfit_at k l kj il e =
      let held = T_true (is_left left.lefts k j) kj.2 in
      let on = T_true (is_left left.lefts i l) il.2 in
      record { held = held; left = on; unfit = not_fitting k l held on e }

  unfit_low : fits_by costs i j (get_or left.fars (32 + j) 0) (get_or left.nears i 0) ≡ false → Hinders given.slacks.now left.lefts i j (get_or left.fars (32 + j) 0) (get_or left.nears i 0)
  unfit_low u = unfit_at _ _ column.high_in row.low_in u

  unfit_high : fits_by costs i j (get_or left.nears (32 + j) 0) (get_or left.fars i 0) ≡ false → Hinders given.slacks.now left.lefts i j (get_or left.nears (32 + j) 0) (get_or left.fars i 0)
  unfit_high u = unfit_at _ _ column.low_in row.high_in u

  -- whether it fits at both
  passes_in : fits_by costs i j (get_or left.fars (32 + j) 0) (get_or left.nears i 0) ≡ true → fits_by costs i j (get_or left.nears (32 + j) 0) (get_or left.fars i 0) ≡ true
      → Passes given.slacks.now left.lefts i j
  passes_in u v =
      let free = (free_iff_corners monge (is_left left.lefts) among i j _ _ _ _ row column).1
      (fits_of _ _ column.high_in row.low_in u, fits_of _ _ column.low_in row.high_in v) in record {
        on = t.is_left_lem;
        passed = λ k. record {
          fits = λ held l on. let g = free k l (remains_of i l on) (remains_of k j held) in
              record {
                has_slack = sym (admits_is given.slacks.now _ _ k l (left_in t d k j held).0 (left_in t d i l on).1) ∙ T_true _ g.admitted;
                no_dearer = omega (arith, g.no_dearer, cap t i j, cap t k l, cap t i l, cap t k j);
              };
        };
      }

-- so it is, however many they are
module _ {given : Given} {left : Left} {compared : List ℕ} {i j : ℕ} (t : Trying given left compared i j) (is : given.ranking.now.ranked ≡ true) where
  pub can_ask : ((i < 32) × (j < 32) × Low compared)
      × ((get_or left.nears i 0 < 32) × (get_or left.fars i 0 < 32) × (get_or left.nears (32 + j) 0 < 32) × (get_or left.fars (32 + j) 0 < 32))
  can_ask = (((own_few t).0, (own_few t).1, low_of (t.kept.costs_are is)), ∥∥₁_elim given.tabled (hlevel props) (ends_few t is))

  hindered_low : fits_by compared i j (get_or left.fars (32 + j) 0) (get_or left.nears i 0) ≡ false → HinderedIn given.ranking.now.ranked given.slacks.now left.lefts left.nears left.fars i j
  hindered_low u = record { lot = _; call = _; by_it = ∥∥₁_elim given.tabled (hlevel props) (λ d. unfit_low t is d u); cornered = λ z. (refl, refl) }

  hindered_high : fits_by compared i j (get_or left.nears (32 + j) 0) (get_or left.fars i 0) ≡ false → HinderedIn given.ranking.now.ranked given.slacks.now left.lefts left.fars left.nears i j
  hindered_high u = record { lot = _; call = _; by_it = ∥∥₁_elim given.tabled (hlevel props) (λ d. unfit_high t is d u); cornered = λ z. (refl, refl) }

  passes : fits_by compared i j (get_or left.fars (32 + j) 0) (get_or left.nears i 0) ≡ true → fits_by compared i j (get_or left.nears (32 + j) 0) (get_or left.fars i 0) ≡ true
      → Passes given.slacks.now left.lefts i j
  passes u v = ∥∥₁_elim given.tabled (hlevel props) (λ d. passes_in t is d u v)

  told_by : (low high : Bool) → fits_by compared i j (get_or left.fars (32 + j) 0) (get_or left.nears i 0) ≡ low
      → fits_by compared i j (get_or left.nears (32 + j) 0) (get_or left.fars i 0) ≡ high → TrialOf given left i j (corners_tell low high)
  told_by true true u v = passes u v
  told_by true false u v = record { low_told = λ y. absurd (false≢true y); high_told = λ y. hindered_high v; told_in = refl }
  told_by false true u v = record { low_told = λ y. hindered_low u; high_told = λ y. absurd (false≢true y); told_in = refl }
  told_by false false u v = record { low_told = λ y. hindered_low u; high_told = λ y. hindered_high v; told_in = refl }

  pub corners_tell_lem : TrialOf given left i j
      (corners_tell (fits_by compared i j (get_or left.fars (32 + j) 0) (get_or left.nears i 0)) (fits_by compared i j (get_or left.nears (32 + j) 0) (get_or left.fars i 0)))
  corners_tell_lem = told_by _ _ refl refl
