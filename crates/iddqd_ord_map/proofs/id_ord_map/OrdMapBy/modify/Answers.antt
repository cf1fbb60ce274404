use Rattle.std.proofs.Common.{◌≡◌, Some, subst}
use Rattle.iddqd.specs.Store.{get}
use Rattle.iddqd_map.specs.Map.{MapState}
use Rattle.iddqd_by_order.specs.Ordered.{is_equal}
use Rattle.iddqd_map.proofs.FoundLemmas.{Modifies-found}
use Rattle.iddqd_ord_map.proofs.id_ord_map.OrdMapBy.modify.Goals as goal

pub modify_live-requires-clause-callable : goal.modify_live-requires-clause-callable
modify_live-requires-clause-callable g c = λ p live. (c.requires p (c.in_ok-ix.ix, record { live = subst (λ (m : MapState _). get m.store c.in_ok-ix.ix ≡ Some p.now) c.self.view_is live; only = c.in_ok-ix.ensures })).0

pub modify_live-requires-clause-keeps : goal.modify_live-requires-clause-keeps
modify_live-requires-clause-keeps g c = λ p live. c.requires p (c.in_ok-ix.ix, record { live = subst (λ (m : MapState _). get m.store c.in_ok-ix.ix ≡ Some p.now) c.self.view_is live; only = c.in_ok-ix.ensures })

pub returns : goal.returns
returns g c =
    let test = is_equal (g.Q.ItemRangeQuery.compare_item c.args.query) in
    Modifies-found g.F.FnOnce c.args.f c.args.self.now test c.in_ok-ix.ix c.modify_live.result c.modify_live.new.self c.in_ok-ix.ensures (rw (← c.self.view_is) c.modify_live.ensures.modifies)
