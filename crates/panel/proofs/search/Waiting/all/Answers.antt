-- `panel::search::Waiting::all`: no pair is marked.
use mathlib.Core.Path.{◌≡◌, refl, ◌∙◌}
use mathlib.Core.Logic.{by_cases}
use native.Mathlib.Decide.{ℕ_discrete}
use native.Mathlib.Omega.{arith}
use Rattle.std.proofs.lemmas.List.{get_or-take}
use Rattle.slacks.proofs.BySlacks.{zeros_at}
use Rattle.panel.proofs.Words.{marks_none}
use Rattle.panel.proofs.search.Waiting.all.Goals as goal

pub loop-i-preserved : goal.loop-i-preserved
loop-i-preserved c =
    let renewed = rw (get_or-take c.args.table.now.lots c.args.table.now.eligible c.loop-i.i 0 (omega arith)) at c.renew.ensures in
    let kept = c.loop-i.invariant in
    record {
      words = record {
        each = λ i k h hk. by_cases (ℕ_discrete i c.loop-i.i)
            (λ e. rw e (renewed.own k hk))
            (λ d. rw (renewed.others i k d hk) (kept.words.each i k (omega arith) hk));
        long = renewed.long ∙ kept.words.long;
      };
      lefts_stay = kept.lefts_stay;
      marks_stay = kept.marks_stay;
    }

pub returns : goal.returns
returns c =
    let kept = c.loop-i.invariant in
    let e : c.loop-i.i ≡ c.args.table.now.lots = omega arith in
    record {
      lefts_are = kept.lefts_stay;
      marks = rw (kept.lefts_stay, kept.marks_stay) (marks_none (zeros_at 64) refl);
      words = rw kept.lefts_stay (rw e at kept.words);
    }
