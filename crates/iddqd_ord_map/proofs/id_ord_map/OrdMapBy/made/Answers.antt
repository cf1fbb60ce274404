use Rattle.std.proofs.Common.{rules, ◌≡◌, Some, sym, subst}
use Rattle.std.specs.Fn.{FnOnceReturnsAt}
use Rattle.iddqd.specs.Store.{get}
use Rattle.iddqd_keys.specs.Scan.{IsLive}
use Rattle.iddqd_ord_map.proofs.id_ord_map.OrdMapBy.made.Goals as goal

pub item_at-requires : goal.item_at-requires
item_at-requires g c = subst (λ s. IsLive s c.args.ix) (sym c.parts.ensures.items) c.requires.live

pub f-requires : goal.f-requires
f-requires g c = c.requires.callable c.item_at.result (subst (λ s. get s c.args.ix ≡ Some c.item_at.result.now) c.parts.ensures.items c.item_at.ensures)

pub returns : goal.returns
returns g c =
    let gave : FnOnceReturnsAt g.F.FnOnce c.args.f c.item_at.result.now c.f.result = search rules in
    (c.item_at.result.now, subst (λ s. get s c.args.ix ≡ Some c.item_at.result.now) c.parts.ensures.items c.item_at.ensures, gave)
