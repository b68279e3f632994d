-- What the arrays say is the problem's: of the pairs that are left, one passes exactly where it can be taken, so the lowest that passes is the next
-- (`next_of_pair`, `none_of_nothing`).
use mathlib.Core.Path.{◌≡◌, sym, ◌∙◌}
use mathlib.Core.Logic.{∥∥₁_elim}
use mathlib.Core.Bool.{true}
use mathlib.Core.List.{List}
use mathlib.Core.Option.{some, none}
use Prim.Native.Nat.{ℕ, ◌+◌, ◌*◌, ◌<◌}
use native.Mathlib.Omega.{arith}
use denote.Struct.Props.{props}
use Rattle.transport.specs.Problem.{Problem}
use Rattle.transport.specs.Greedy.{pair}
use Rattle.transport.specs.Finder.{next}
use Rattle.transport.proofs.Laws.Tests.{T_true, T_of}
use Rattle.transport.proofs.Laws.Sets.{Remains}
use Rattle.transport.proofs.Finder.Free.{Takeable, next_is}
use Rattle.slacks.specs.Slacks.{by_slacks, Capped}
use Rattle.slacks.proofs.BySlacks.{admits_is}
use Rattle.words.specs.Lefts.{is_left}
use Rattle.trial.specs.declared.table.Given.{Given}
use Rattle.lines.specs.declared.Left.{Left}
use Rattle.trial.specs.Tables.{Table}
use Rattle.trial.specs.Testing.{Passes}
use Rattle.trial.specs.Left.{Kept}
use Rattle.search.specs.Steps.{FirstPair}

pub left_few : {given : Given} {left : Left} {compared : List ℕ} → Kept given left compared → (i j : ℕ) → is_left left.lefts i j ≡ true → (i < 32) × (j < 32)
left_few {given} h i j e = ∥∥₁_elim given.tabled (hlevel props) (λ d.
    let (hi, hj) = d.table.eligible_are.inside i j (h.among i j e) in
    let r = d.table.slacks_are in
    (omega (arith, r.lots_few), omega (arith, r.calls_few)))

module _ {given : Given} {left : Left} {compared : List ℕ} (h : Kept given left compared) {lots calls : ℕ} (t : Table given.slacks.now lots calls given.eligible.now given.ranking.now) where
  abbrev P : Problem
  P = by_slacks given.slacks.now lots calls

  capped : Capped given.slacks.now
  capped = t.slacks_are.capped

  -- what is left is in the problem
  left_in : (i j : ℕ) → is_left left.lefts i j ≡ true → Remains P (is_left left.lefts) i j
  left_in i j e = let (hi, hj) = t.eligible_are.inside i j (h.among i j e) in (hi, hj, T_of e)

  -- (i, j) fits with (k, l) by the slacks exactly where it does in the problem
  takeable_of : (i j : ℕ) → Passes given.slacks.now left.lefts i j → Takeable P (is_left left.lefts) i j
  takeable_of i j p = record {
    remains = left_in i j p.on;
    unhindered = λ k l il kj. let f = (p.passed k).fits (T_true (is_left left.lefts k j) kj.2) l (T_true (is_left left.lefts i l) il.2) in record {
      admitted = T_of (admits_is given.slacks.now lots calls k l kj.0 il.1 ∙ f.has_slack);
      no_dearer = omega (arith, f.no_dearer, capped (32 * i + j), capped (32 * k + l), capped (32 * i + l), capped (32 * k + j));
    };
  }

  passes_of : (i j : ℕ) → Takeable P (is_left left.lefts) i j → Passes given.slacks.now left.lefts i j
  passes_of i j p = record {
    on = T_true (is_left left.lefts i j) p.remains.2;
    passed = λ k. record {
      fits = λ held l on. let f = p.unhindered k l (left_in i l on) (left_in k j held) in record {
        has_slack = sym (admits_is given.slacks.now lots calls k l (left_in k j held).0 (left_in i l on).1) ∙ T_true (P.admits k l) f.admitted;
        no_dearer = omega (arith, f.no_dearer, capped (32 * i + j), capped (32 * k + l), capped (32 * i + l), capped (32 * k + j));
      };
    };
  }

  pub next_of_pair : (i j : ℕ) → FirstPair given.slacks.now left.lefts i j → next P (is_left left.lefts) ≡ some (pair i j)
  next_of_pair i j f = next_is P (is_left left.lefts) (some (pair i j)) (record {
    taken = takeable_of i j f.passes;
    no_lower_lot = λ a l lt o. f.no_lower_lot a l lt (passes_of a l o);
    no_lower_call = λ l lt o. f.no_lower_call l lt (passes_of i l o);
  })

  pub none_of_nothing : ((i j : ℕ) → Passes given.slacks.now left.lefts i j → ⊥) → next P (is_left left.lefts) ≡ none
  none_of_nothing None-passes = next_is P (is_left left.lefts) none (λ i j o. None-passes i j (passes_of i j o))
