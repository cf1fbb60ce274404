use Rattle.std.proofs.Common.{◌≡◌, Some, refl, sym}
use Rattle.std.specs.Fn.{FnOnceReturnsAtMut}
use Rattle.iddqd.specs.Store.{get}
use Rattle.iddqd.proofs.LiveLemmas.{live_at}
use Rattle.iddqd_map.proofs.MapLemmas.{IsIndexed-rebound}
use Rattle.iddqd_map.proofs.map.Map.modify_live.Goals as goal

pub invariant_of-self-2 : goal.invariant_of-self-2
invariant_of-self-2 g c =
    let state = c.self.inside.state in
    let s = c.self.inside.items.store in
    let indexes = c.self.inside.indexes in
    let item = c.in_ok-item.item in
    let is = c.f.new.arg2 in
    let live : get s c.args.ix ≡ Some item.now = sym {a = Some item.now} c.in_ok-item.ensures.value in
    let same = (c.requires.keeps item (rw (← c.self.view_is) live)).1 _ _ c.f.ensures in
    IsIndexed-rebound _ state s _ c.args.ix is refl c.self.invariant.valid (live_at s c.args.ix item.now live)
    (g.met.X.IndexLaws.modified indexes state s c.args.ix item.now is c.self.invariant.indexed live same)

pub returns-clause-modifies : goal.returns-clause-modifies
returns-clause-modifies g c =
    let item = c.in_ok-item.item in
    let is = c.f.new.arg2 in
    let s = c.self.inside.items.store in
    let live : get s c.args.ix ≡ Some item.now = sym {a = Some item.now} c.in_ok-item.ensures.value in
    let gave : FnOnceReturnsAtMut g.F.FnOnce c.args.f item.now c.f.result is =
    record { shown = _; shows = refl; left = _; met = c.f.ensures; leaves = refl } in (
      record {
        was = item.now;
        is = is;
        live = rw (← c.self.view_is) live;
        called = gave;
        left = rw (← c.self.view_is) refl;
      },
      rw (← c.self.view_is) refl,
    )
