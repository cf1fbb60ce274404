use Rattle.std.proofs.Common.{◌≡◌, Some, refl, sym}
use Rattle.iddqd.specs.Store.{get}
use Rattle.iddqd.proofs.LiveLemmas.{live_at}
use Rattle.iddqd_map.proofs.MapLemmas.{IsIndexed-rebound}
use Rattle.iddqd_map.proofs.map.Map.merge_at.Goals as goal

pub invariant_of-self : goal.invariant_of-self
invariant_of-self g c =
    let state = c.self.inside.state in
    let s = c.self.inside.items.store in
    let indexes = c.self.inside.indexes in
    let was = c.in-Some.was in
    let left = c.f.new.arg2 in
    let live : get s c.args.ix ≡ Some was.now = sym {a = Some was.now} c.in-Some.ensures.value in
    let same = c.requires.keeps was (rw (← c.self.view_is) live) _ c.f.ensures in
    IsIndexed-rebound _ state s _ c.args.ix left refl c.self.invariant.valid (live_at s c.args.ix was.now live)
    (g.met.X.IndexLaws.modified indexes state s c.args.ix was.now left c.self.invariant.indexed live same)

pub returns : goal.returns
returns g c =
    let was = c.in-Some.was in
    let s = c.self.inside.items.store in
    let live : get s c.args.ix ≡ Some was.now = sym {a = Some was.now} c.in-Some.ensures.value in
    record {
      was = was.now;
      is = c.f.new.arg2;
      live = rw (← c.self.view_is) live;
      called = record { shown = was; shows = refl; left = _; met = c.f.ensures; leaves = refl };
      left = rw (← c.self.view_is) refl;
      memory = rw (← c.self.view_is) refl;
    }
