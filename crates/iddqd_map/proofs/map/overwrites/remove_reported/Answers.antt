use Rattle.std.proofs.Common.{rules, ◌≡◌, ◌∙◌, ◌<◌, length, Some, None, refl, sym, ap, arith}
use Rattle.iddqd.specs.ItemSet.{SizedStore}
use Rattle.iddqd.specs.Store.{get}
use Rattle.iddqd_map.proofs.OverwriteLemmas.{Taking-none, Taking-next, TakesAll-done, next_live, next_fits, no_next, place_vacant, places_left, taking_at}
use Rattle.iddqd_map.proofs.map.overwrites.remove_reported.Goals as goal

pub loop-next-init : goal.loop-next-init
loop-next-init g c = record {
  map = c.requires.map;
  enough = λ blocks enough. enough;
  taking = Taking-none _ _ c.args.items.now.store _ _ c.requires.first c.requires.vacant;
  within = omega arith;
  slots = refl;
  room = omega arith;
  roomy = λ some. absurd (omega (arith, some));
  capacity = refl;
  cells = refl;
}

pub take_out-requires-clause-live : goal.take_out-requires-clause-live
take_out-requires-clause-live g c =
    next_live _ _ c.args.items.now.store _ _ c.in-Some.ix _ (taking_at c.in-Some.is c.loop-next.invariant.taking) c.requires.live

pub put_into-requires-clause-within : goal.put_into-requires-clause-within
put_into-requires-clause-within g c =
    let t = taking_at c.in-Some.is c.loop-next.invariant.taking in
    let fits = next_fits _ _ c.args.items.now.store _ _ c.in-Some.ix _ (g.X.KeyIndex.unique_keys) t c.requires.few in
    let left = places_left _ _ c.args.items.now.store _ _ _ _ c.loop-next.invariant.taking in
    omega (arith, fits, left, c.requires.enough)

pub put_into-requires-clause-vacant : goal.put_into-requires-clause-vacant
put_into-requires-clause-vacant g c =
    let t = taking_at c.in-Some.is c.loop-next.invariant.taking in
    let fits = next_fits _ _ c.args.items.now.store _ _ c.in-Some.ix _ (g.X.KeyIndex.unique_keys) t c.requires.few in
    place_vacant _ _ c.args.items.now.store _ _ _ _ c.loop-next.invariant.taking (omega (arith, fits, c.requires.enough))

pub loop-next-smaller : goal.loop-next-smaller
loop-next-smaller g c =
    let t = taking_at c.in-Some.is c.loop-next.invariant.taking in
    let fits = next_fits _ _ c.args.items.now.store _ _ c.in-Some.ix _ (g.X.KeyIndex.unique_keys) t c.requires.few in
    omega (arith, fits, c.requires.enough)

pub loop-next-preserved : goal.loop-next-preserved
loop-next-preserved g c =
    let i = c.loop-next.invariant in
    let took = c.take_out.ensures in
    let live : get c.loop-next.items.store c.in-Some.ix ≡ Some c.in-Some-take_out.item = sym took.value ∙ c.in-Some-take_out.is in
    let t = taking_at c.in-Some.is i.taking in
    let fits = next_fits _ _ c.args.items.now.store _ _ c.in-Some.ix _ (g.X.KeyIndex.unique_keys) t c.requires.few in
    let within : c.loop-next.count < length c.args.places.now = omega (arith, fits, c.requires.enough) in
    record {
      map = took.map;
      enough = λ blocks enough. took.enough blocks (i.enough blocks enough);
      taking = Taking-next _ _ c.args.items.now.store _ _ _ _ c.in-Some.ix _ _ _ t within c.next_reported-next.ensures.next live
          c.put_into.ensures (ap (λ (s : SizedStore _). s.store) took.removed);
      within = omega (arith, within);
      slots = ap (λ (s : SizedStore _). s.capacity) took.removed ∙ i.slots;
      room = let r = i.room in let more = took.items_room in omega (arith, r, more);
      roomy = λ _ plan blocks enough. took.roomy plan blocks (i.enough blocks enough);
      capacity = took.capacity ∙ i.capacity;
      cells = took.cells ∙ i.cells;
    }

pub returns-clause-taken : goal.returns-clause-taken
returns-clause-taken g c =
    let i = c.loop-next.invariant in
    let none : c.loop-next.next ≡ None = no_next c.loop-next.next (search rules) in
    TakesAll-done _ _ c.args.items.now.store _ _ _ (taking_at none i.taking) i.within
