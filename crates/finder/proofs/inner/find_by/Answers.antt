-- `finder::inner::find_by` meets its contract: the table of slacks states the problem that is searched, so the same order is found.
use Rattle.std.proofs.Common.{◌≡◌, ℕ, Bool, true, false, List, arith}
use Rattle.transport.specs.Problem.{Problem}
use Rattle.transport.proofs.Finder.Same.{Same, same_trans, size_of_same, find_of_same}
use Rattle.finder.specs.Searched.{searched}
use Rattle.finder.proofs.inner.find_by.Goals as goal

-- the problem that is searched, with an idle call and without
with_idle : {idle : Bool} (book : List ℕ) {P E : Problem} → idle ≡ true → Same (searched true book) P → Same P E → Same (searched idle book) E
with_idle book e f a = rw e (same_trans f a)

without : {idle : Bool} (book : List ℕ) {P : Problem} → idle ≡ false → Same (searched false book) P → Same (searched idle book) P
without book e f = rw e f

pub find_by_slacks-requires : goal.find_by_slacks-requires
find_by_slacks-requires c =
    let t = c.add_idle.new.self in
    let same = with_idle _ c.if-idle.true c.fill.ensures.same_enlarged c.add_idle.ensures.same in
    omega (arith, c.requires.long_enough, t.counted, size_of_same same)

pub returns-then-idle : goal.returns-then-idle
returns-then-idle c = rw (find_of_same (with_idle _ c.if-idle.true c.fill.ensures.same_enlarged c.add_idle.ensures.same)) c.find_by_slacks.ensures

pub find_by_slacks-requires-2 : goal.find_by_slacks-requires-2
find_by_slacks-requires-2 c =
    let t = c.fill.new.self in
    omega (arith, c.requires.long_enough, t.counted, size_of_same (without _ c.if-idle.false c.fill.ensures.same))

pub returns : goal.returns
returns c = rw (find_of_same (without _ c.if-idle.false c.fill.ensures.same)) c.find_by_slacks-2.ensures
