use Rattle.std.proofs.Common.{◌≡◌, false, refl}
use Rattle.iddqd_ord_map.specs.OrderedIndexing.{has_key}
use Rattle.iddqd_ord_map.proofs.OrderedMoveLemmas.{other_hit}
use Rattle.iddqd_ord_map.proofs.ordered_move.plan_move.Goals as goal

pub returns-in-Some : goal.returns-in-Some
returns-in-Some g c =
    let s = c.args.items.now.store in
    let own = has_key g.E.OrdKey.key_of g.E.OrdKey.cmp (g.E.OrdKey.key_of c.args.item.now) in
    let scan = c.in-Some.ensures.as_scan c.requires.sorted.in_sync in
    let (was, live, same) = c.key_at.ensures in
    let differs : own was ≡ false = rw (← same, ← c.compare.ensures, ← c.is_eq.ensures) c.if-is_eq.false in
    (other_hit s own c.args.ix c.in-Some.at was live differs ((scan c.in-Some.at).1 refl), scan)

pub returns-in-None : goal.returns-in-None
returns-in-None g c = c.in-None.ensures.as_scan c.requires.sorted.in_sync
