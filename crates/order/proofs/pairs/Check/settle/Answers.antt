use Rattle.std.proofs.Common.{arith, ◌<◌, sym}
use Rattle.order.proofs.Settling.{walkable, placed, own_eligible, place_in, settled_whole, settled_at}
use Rattle.order.proofs.pairs.Check.settle.Goals as goal

pub walk-requires : goal.walk-requires
walk-requires c = walkable c.args.self.now c.args.places.now c.requires.each_once c.requires.shows

pub returns-in_default : goal.returns-in_default
returns-in_default c = sym (settled_whole c.args.self.now c.args.places.now c.requires.each_once c.requires.shows c.in_default.ensures)

pub at-requires : goal.at-requires
at-requires c = place_in c.args.self.now c.args.places.now c.requires.each_once c.requires.shows c.in-Some.place c.in-Some.ensures

pub invariant_of-scan : goal.invariant_of-scan
invariant_of-scan c =
    let s = c.args.self.now in
    let within : c.in-Some.place < s.pairs.count =
    place_in s c.args.places.now c.requires.each_once c.requires.shows c.in-Some.place c.in-Some.ensures in
    let few : c.in-Some.place < 65535 = omega (arith, s.few_pairs) in
    record {
      tabled = s.tabled;
      placed = placed s c.args.places.now c.requires.each_once c.requires.shows;
      few_pairs = few;
      own = own_eligible s c.args.places.now c.requires.each_once c.requires.shows c.in-Some.place _ _ within
          c.at.ensures.lot c.at.ensures.call;
    }

pub returns : goal.returns
returns c =
    settled_at c.args.self.now c.args.places.now c.requires.each_once c.requires.shows c.in-Some.place c.in-Some.ensures _ _ _
    c.at.ensures.lot c.at.ensures.call c.pair_failure.ensures
