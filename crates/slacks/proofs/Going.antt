-- The finder's turns: from the eligible pairs, by one pair taken at a time, to its answer. The invariant is transport's `Loop` at a set of
-- what remains, beside the bytes of what is taken.
use Rattle.std.proofs.Common.{◌≡◌, ℕ, suc, ◌+◌, ◌-◌, ◌*◌, ◌<◌, ◌≤◌, Bool, List, [], ◌∷◌, ◌++◌, length, take, set, sym, refl, ap, ◌∙◌, subst, append_assoc, add-one, arith, length-append, length-set, take-suc-set}
use Rattle.std.proofs.Common.{Some, None}
use mathlib.Core.Option.{some, none}
use Rattle.transport.specs.Problem.{Problem}
use Rattle.transport.specs.Greedy.{Pair}
use Rattle.transport.specs.Finder.{next, without, size, find}
use Rattle.transport.proofs.Laws.Sets.{Agree}
use Rattle.transport.proofs.Finder.Loop.{Loop, loop_start, loop_take, loop_stop, loop_done, loop_same}
use Rattle.specification.specs.OrderFile.{pair_bytes}
use Rattle.slacks.specs.Found.{Finds}

-- two bytes more
pub pair_put : (bytes : List ℕ) (k a b : ℕ) → 2 * k + 1 < length bytes
    → take (2 * (k + 1)) (set (set bytes (2 * k) a) (2 * k + 1) b) ≡ take (2 * k) bytes ++ (a ∷ b ∷ [])
pair_put bytes k a b h =
    let e : 2 * (k + 1) ≡ suc (2 * k + 1) = omega arith in
    rw (e, take-suc-set (set bytes (2 * k) a) (2 * k + 1) b (simp length-set (omega arith)), add-one, take-suc-set bytes (2 * k) a (omega arith), append_assoc)

pair_bytes_more : (S : List Pair) (p : Pair) → pair_bytes (S ++ (p ∷ [])) ≡ pair_bytes S ++ (p.lot ∷ p.call ∷ [])
unfolding pair_bytes
pair_bytes_more [] p = refl
pair_bytes_more (q ∷ S) p = ap (λ (l : List ℕ). q.lot ∷ q.call ∷ l) (pair_bytes_more S p)

-- where the finder stands: what is taken, with its bytes, and how many pairs of the set are left
pub record Going (P : Problem) (rest : ℕ → ℕ → Bool) (pairs : List ℕ) (count total : ℕ) : Type 0 where
  pub taken : List Pair
  pub left : ℕ
  pub loop : Loop P taken rest left
  pub bytes : take (2 * count) pairs ≡ pair_bytes taken
  pub counted : length taken ≡ count
  pub whole : count + left ≡ total
  pub few : total ≤ 1024

-- at first all eligible pairs are left
pub going_start : (P : Problem) (rest : ℕ → ℕ → Bool) → Agree P P.admits rest → (pairs : List ℕ) (total : ℕ) → total ≡ size P
    → total ≤ 1024 → Going P rest pairs 0 total
unfolding pair_bytes
going_start P rest agree pairs total e few = record {
  taken = [];
  left = size P;
  loop = loop_same P [] P.admits rest (size P) agree (loop_start P);
  bytes = refl;
  counted = refl;
  whole = omega arith;
  few = few;
}

module _ {P : Problem} {rest : ℕ → ℕ → Bool} {pairs : List ℕ} {count total : ℕ} (g : Going P rest pairs count total) where
  more_left : count < total → Loop P g.taken rest (suc (g.left - 1))
  more_left h = let e : g.left ≡ suc (g.left - 1) = omega (arith, g.whole) in subst (Loop P g.taken rest) e g.loop

  -- none is free
  pub going_stop : count < total → next P rest ≡ none → Finds (find P) None pairs
  going_stop h e = rw (loop_stop P g.taken rest (g.left - 1) (more_left h) e) refl

  -- none is left
  pub going_done : total ≤ count → Finds (find P) (Some count) pairs
  going_done h =
      let e : g.left ≡ 0 = omega (arith, g.whole) in
      rw (loop_done P g.taken rest (subst (Loop P g.taken rest) e g.loop))
      (ap Some (sym g.counted), ap (λ (k : ℕ). take (2 * k) pairs) g.counted ∙ g.bytes)

  -- a pair is taken
  pub going_next : count < total → (p : Pair) → next P rest ≡ some p → (rest' : ℕ → ℕ → Bool) → Agree P (without rest p) rest'
      → (pairs' : List ℕ) → take (2 * (count + 1)) pairs' ≡ take (2 * count) pairs ++ (p.lot ∷ p.call ∷ [])
      → Going P rest' pairs' (count + 1) total
  going_next h p e rest' agree pairs' w = record {
    taken = g.taken ++ (p ∷ []);
    left = g.left - 1;
    loop = loop_same P (g.taken ++ (p ∷ [])) (without rest p) rest' (g.left - 1) agree
        (loop_take P g.taken rest (g.left - 1) (more_left h) p e);
    bytes = w ∙ ap (λ (l : List ℕ). l ++ (p.lot ∷ p.call ∷ [])) g.bytes ∙ sym (pair_bytes_more g.taken p);
    counted = omega (arith, length-append g.taken (p ∷ []), g.counted);
    whole = omega (arith, g.whole);
    few = g.few;
  }
