use Rattle.std.proofs.Common.{rules, ◌≡◌, true, Ok, Err, refl, subst}
use Rattle.std.specs.Ordering.{eq_by_cmp}
use Rattle.iddqd_by_order.specs.Ordered.{is_equal}
use Rattle.iddqd_map.specs.Calls.{ReplacesIfLive}
use Rattle.iddqd_map.specs.Map.{MapState, shares}
use Rattle.iddqd_map.specs.OneKey.{IsTaken}
use Rattle.iddqd_map.proofs.FoundLemmas.{hit_live}
use Rattle.iddqd_ord_map.proofs.CallLemmas.{ReplacesAt-live}
use Rattle.iddqd_ord_map.proofs.id_ord_map.OrdMapBy.change.Goals as goal

pub returns-in_default-clause-changes : goal.returns-in_default-clause-changes
returns-in_default-clause-changes g c = (c.in_default.ensures, refl)

pub made-item-requires-clause-live : goal.made-item-requires-clause-live
made-item-requires-clause-live g c =
    let test = is_equal (g.Q.ItemRangeQuery.compare_item c.args.query) in
    hit_live c.args.self.now.store test c.in-Some.ix c.in-Some.ensures

pub made-item-requires-clause-callable : goal.made-item-requires-clause-callable
made-item-requires-clause-callable g c = λ item live. c.requires item (c.in-Some.ix, record { live = live; only = c.in-Some.ensures })

pub returns-in_err-was-clause-changes : goal.returns-in_err-was-clause-changes
returns-in_err-was-clause-changes g c =
    let alike = shares g.E.OrdKey.key_of (eq_by_cmp g.E.OrdKey.cmp) in
    let refusal = c.in_err-was.field-0.0 in
    let (was, live, gave) = c.made-item.ensures in
    let is : c.from_residual.result ≡ Err refusal = search rules in
    let at = ReplacesAt-live alike true c.args.self.now c.replace_at.new.self c.in-Some.ix c.made-item.result was live (Err refusal)
    (subst (λ (m : MapState _). ReplacesIfLive alike alike true (IsTaken alike) m c.in-Some.ix c.made-item.result (Err refusal) c.replace_at.new.self) c.self.view_is c.in_err-was.ensures.replaces) in
    rw is (c.in-Some.ix, c.in-Some.ensures, (was, c.made-item.result, live, gave, at))

pub returns-clause-changes : goal.returns-clause-changes
returns-clause-changes g c =
    let alike = shares g.E.OrdKey.key_of (eq_by_cmp g.E.OrdKey.cmp) in
    let (was, live, gave) = c.made-item.ensures in
    let at = ReplacesAt-live alike true c.args.self.now c.replace_at.new.self c.in-Some.ix c.made-item.result was live (Ok c.in_ok-was.was') (rw (← c.self.view_is) c.in_ok-was.ensures.replaces) in
    (c.in-Some.ix, c.in-Some.ensures, (was, c.made-item.result, live, gave, at))

pub returns-in_err-was-clause-room : goal.returns-in_err-was-clause-room
returns-in_err-was-clause-room g c = rw (← c.self.view_is) c.replace_at.ensures.room

pub returns-in_err-was-clause-count : goal.returns-in_err-was-clause-count
returns-in_err-was-clause-count g c = rw (← c.self.view_is) c.replace_at.ensures.count

pub returns-clause-room : goal.returns-clause-room
returns-clause-room g c = rw (← c.self.view_is) c.replace_at.ensures.room

pub returns-clause-count : goal.returns-clause-count
returns-clause-count g c = rw (← c.self.view_is) c.replace_at.ensures.count
