use Rattle.std.proofs.Common.{◌≡◌, ◌∙◌, false, true, Some, IfSome, sym, subst}
use Rattle.std.specs.Ordering.{on}
use Rattle.std.specs.Range.Bound.{bound_map}
use Rattle.iddqd_keys.specs.KeyWalk.{IsNextHit}
use Rattle.iddqd_keys.specs.OrderedQuery.{is_up_to}
use Rattle.iddqd_keys.specs.Scan.{IsLive}
use Rattle.iddqd_keys.proofs.NextLemmas.{IsNextHit-none, IsNextHit-passed, IsNextHit-reached}
use Rattle.iddqd_by_order.specs.Ordered.{itself}
use Rattle.iddqd_by_order.proofs.ordered_next.if_up_to.Goals as goal

pub returns-in_err-ix-clause-next : goal.returns-in_err-ix-clause-next
returns-in_err-ix-clause-next g c after is =
    let compare = on g.E.OrdKey.key_of g.E.OrdKey.cmp in
    let cmp = g.Q.ItemRangeQuery.compare_item in
    let s = c.args.items.now.store in
    let upper = c.args.upper in
    let none = subst (IsNextHit itself compare s (λ _. true) after) c.in_err-ix.was is in
    subst (IsNextHit itself compare s (is_up_to (bound_map cmp upper)) after) (sym c.from_residual.ensures) (IsNextHit-none itself compare cmp g.met.Q.ItemRangeQuery.fits s after upper upper none)

pub key_at-requires : goal.key_at-requires
key_at-requires g c = subst (λ o. IfSome o (IsLive c.args.items.now.store)) c.in_ok-ix.was c.requires

pub returns-then-is_up_to-clause-next : goal.returns-then-is_up_to-clause-next
returns-then-is_up_to-clause-next g c after is =
    let compare = on g.E.OrdKey.key_of g.E.OrdKey.cmp in
    let cmp = g.Q.ItemRangeQuery.compare_item in
    let s = c.args.items.now.store in
    let upper = c.args.upper in
    let next = subst (IsNextHit itself compare s (λ _. true) after) c.in_ok-ix.was is in
    let (item, live, key) = c.key_at.ensures in
    let reached : is_up_to (bound_map cmp upper) item ≡ true =
    subst (λ k. is_up_to (bound_map cmp upper) k ≡ true) key (sym c.is_up_to.ensures ∙ c.if-is_up_to.true) in
    IsNextHit-reached itself compare cmp g.met.Q.ItemRangeQuery.fits s after upper upper c.in_ok-ix.ix next (item, live, reached)

pub returns-else-is_up_to-clause-next : goal.returns-else-is_up_to-clause-next
returns-else-is_up_to-clause-next g c after is =
    let compare = on g.E.OrdKey.key_of g.E.OrdKey.cmp in
    let cmp = g.Q.ItemRangeQuery.compare_item in
    let s = c.args.items.now.store in
    let upper = c.args.upper in
    let next = subst (IsNextHit itself compare s (λ _. true) after) c.in_ok-ix.was is in
    let (item, live, key) = c.key_at.ensures in
    let past : is_up_to (bound_map cmp upper) c.key_at.result.now ≡ false = sym c.is_up_to.ensures ∙ c.if-is_up_to.false in
    IsNextHit-passed itself compare cmp g.met.Q.ItemRangeQuery.fits s after upper upper c.in_ok-ix.ix next
    (λ (x, is, passed).
    let one : Some x ≡ Some item = sym is ∙ live in
    cc)
