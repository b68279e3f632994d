-- Where all neighbours fit, by the numbers as they are or by a guess, the book is Monge by the ranks.
use Rattle.ranks.proofs.Laws.{plain_numbered, ranked_of}
use Rattle.ranks.proofs.rank.Goals as goal

pub returns-then-all_fit-clause-ranked : goal.returns-then-all_fit-clause-ranked
returns-then-all_fit-clause-ranked c _ =
    ranked_of c.requires.0 record { each = c.fill-2.ensures; long = c.fill-2.array_long }
    (plain_numbered c.requires.0 c.numbers-lines.ensures.1) (c.all_fit.ensures c.if-all_fit.true)

pub returns-then-passes-clause-ranked : goal.returns-then-passes-clause-ranked
returns-then-passes-clause-ranked c _ =
    let (numbered, fit) = c.passes.ensures c.if-passes.true in
    ranked_of c.requires.0 record { each = c.fill-2.ensures; long = c.fill-2.array_long } numbered fit
