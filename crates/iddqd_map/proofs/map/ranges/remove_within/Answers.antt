use Rattle.std.proofs.Common.{subst, ◌≡◌, ◌∙◌, ℕ, Bool, true, false, Some, refl, sym, ap, arith}
use Rattle.iddqd.specs.Store.{get, live_count}
use Rattle.iddqd.specs.ItemSet.{SizedStore}
use Rattle.iddqd.proofs.LiveCountLemmas.{live_count-removed}
use Rattle.iddqd_keys.specs.KeyWalk.{IsFirstHit}
use Rattle.iddqd_keys.specs.Bounds.{is_in_bounds}
use Rattle.iddqd_keys.proofs.NextLemmas.{IsNextHit-between}
use Rattle.iddqd_map.specs.Ranges.{TakesItem, GivesItem, itself}
use Rattle.iddqd_map.proofs.GroupLemmas.{LeavesOthers-none, LeavesOthers-hit}
use Rattle.iddqd_map.proofs.RangeLemmas.{IsFirstHit-removed, RemovesAlong-none, RemovesAlong-first}
use Rattle.iddqd_map.proofs.RangeRetainLemmas.{takes-at, AsksFrom-asked}
use Rattle.iddqd_map.proofs.map.ranges.remove_within.Goals as goal

pub loop-next-init : goal.loop-next-init
loop-next-init g c =
    let ix : ℕ = c.in-Some.first-1-given.0.0.0 in
    record {
      kept = c.requires.indexed;
      first = c.in-Some.ensures.first;
      stands = c.in-Some.ensures.stands;
      can = λ n. c.requires.can_give.at n (Some ix) c.in-Some.ensures.first;
      leaves = λ new left. left;
      removes = λ new last along. along;
      fewer = omega arith;
      limit = refl;
      slots = refl;
      capacity = refl;
      cells = refl;
    }

-- none is within
pub returns-in_default-clause-left : goal.returns-in_default-clause-left
returns-in_default-clause-left g c =
    let within = is_in_bounds g.X.OrderedAt.compare c.args.bounds.now in
    LeavesOthers-none within c.args.items.now.store c.in_default.ensures.first

pub returns-in_default-clause-handed : goal.returns-in_default-clause-handed
returns-in_default-clause-handed g c =
    let within = is_in_bounds g.X.OrderedAt.compare c.args.bounds.now in
    RemovesAlong-none g.X.OrderedAt.order g.met.X.StepsAt.total within (GivesItem g.F.FnMut) c.args.f.now c.args.items.now.store c.in_default.ensures.first

pub f-requires : goal.f-requires
f-requires g c =
    let ix = c.in-Some-next.ix in
    let item = c.in-Some-taken.item in
    let live : get c.loop-next.items.store ix ≡ Some item = sym c.take_out_between-taken.ensures.value ∙ c.in-Some-taken.is in
    let within = is_in_bounds g.X.OrderedAt.compare c.args.bounds.now in
    takes-at g.X.OrderedAt.order within (TakesItem g.F.FnMut) (λ p x (b : Bool) q. GivesItem g.F.FnMut p x q)
    c.loop-next.items.store c.loop-next.f c.loop-next.next ix item c.loop-next.invariant.can c.in-Some-next.is live

pub loop-next-preserved : goal.loop-next-preserved
loop-next-preserved g c =
    let i = c.loop-next.invariant in
    let now = c.loop-next.items.store in
    let ix = c.in-Some-next.ix in
    let item = c.in-Some-taken.item in
    let did = c.take_out_between-taken.ensures in
    let live : get now ix ≡ Some item = sym did.value ∙ c.in-Some-taken.is in
    let gone = ap (λ (s : SizedStore _). s.store) did.removed in
    let compare = g.X.OrderedAt.order in
    let total = g.met.X.StepsAt.total in
    let cmp = g.X.OrderedAt.compare in
    let within = is_in_bounds cmp c.args.bounds.now in
    let hits = within in
    let then = c.take_out_between-taken.result.1 in
    let first : IsFirstHit itself compare now hits (Some ix) = subst (IsFirstHit itself compare now hits) c.in-Some-next.is i.first in
    let next = IsNextHit-between itself compare cmp g.met.X.StepsAt.fits now ix c.args.bounds.now.lower c.args.bounds.now.upper then first.0 did.next in
    record {
      kept = did.map;
      first = rw gone (IsFirstHit-removed itself compare total now hits ix item live first then next);
      stands = did.stands;
      can = AsksFrom-asked compare within (TakesItem g.F.FnMut) (λ p x (b : Bool) q. GivesItem g.F.FnMut p x q) total
          now ix
          item live c.loop-next.f c.f.new.self c.loop-next.next then _ false i.can c.in-Some-next.is c.f.ensures next
          (λ (yes : false ≡ true). absurd (cc)) (λ no. gone);
      leaves = λ new left. i.leaves new (LeavesOthers-hit hits now ix first.0 _ new gone left);
      removes = λ new last along.
          i.removes new last
          (RemovesAlong-first compare total within (GivesItem g.F.FnMut) c.loop-next.f c.f.new.self last now _ new ix item first live gone c.f.ensures along);
      fewer = omega (arith, i.fewer, live_count-removed now ix item i.kept.valid live, ap live_count gone);
      limit = ap (λ (s : SizedStore _). s.store.limit) did.removed ∙ i.limit;
      slots = ap (λ (s : SizedStore _). s.capacity) did.removed ∙ i.slots;
      capacity = did.capacity ∙ i.capacity;
      cells = did.cells ∙ i.cells;
    }

pub returns-clause-left : goal.returns-clause-left
returns-clause-left g c =
    let i = c.loop-next.invariant in
    let hits = is_in_bounds g.X.OrderedAt.compare c.args.bounds.now in
    let s = c.loop-next.items.store in
    let none = subst (IsFirstHit itself g.X.OrderedAt.order s hits) c.in_default-next.is i.first in
    i.leaves s (LeavesOthers-none hits s none)

pub returns-clause-handed : goal.returns-clause-handed
returns-clause-handed g c =
    let i = c.loop-next.invariant in
    let within = is_in_bounds g.X.OrderedAt.compare c.args.bounds.now in
    let s = c.loop-next.items.store in
    let none = subst (IsFirstHit itself g.X.OrderedAt.order s within) c.in_default-next.is i.first in
    i.removes s c.loop-next.f
    (RemovesAlong-none g.X.OrderedAt.order g.met.X.StepsAt.total within (GivesItem g.F.FnMut) c.loop-next.f s none)
