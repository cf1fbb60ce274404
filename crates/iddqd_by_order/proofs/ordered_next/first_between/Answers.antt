use Rattle.std.proofs.Common.{ℕ, ap, option_map, ◌≡◌, ◌∙◌, true, false, None, Some, sym, subst}
use Rattle.std.specs.Ordering.{on}
use Rattle.std.specs.Range.Bound.{bound_map}
use Rattle.std.specs.declared.ops.Bound.TheVariants.{Unbounded}
use Rattle.iddqd_order.specs.declared.btree_table.spot.Spot.{Spot}
use Rattle.iddqd_keys.specs.KeyWalk.{IsFirstHit}
use Rattle.iddqd_keys.specs.OrderedQuery.{is_between, is_up_to, is_within}
use Rattle.iddqd_keys.proofs.NextLemmas.{IsFirstHit-reached, IsFirstHit-passed, IsFirstHit-missed}
use Rattle.iddqd_by_order.specs.Ordered.{itself}
use Rattle.iddqd_by_order.proofs.ordered_next.first_between.Goals as goal

pub returns-in_err-first-clause-first : goal.returns-in_err-first-clause-first
returns-in_err-first-clause-first g c =
    let compare = on g.E.OrdKey.key_of g.E.OrdKey.cmp in
    let cmp = g.Q.ItemRangeQuery.compare_item in
    let s = c.args.items.now.store in
    let lower = c.args.bounds.now.lower in
    let upper = c.args.bounds.now.upper in
    let from = is_between (bound_map cmp lower) (bound_map cmp Unbounded) in
    let first = c.first_from.ensures.first in
    let missed : IsFirstHit itself compare s (is_within cmp lower upper) None =
    IsFirstHit-missed itself compare cmp g.met.Q.ItemRangeQuery.fits s 0 lower upper
    (subst (IsFirstHit itself compare s from) (ap (option_map (λ (r : ℕ × Spot). r.0)) c.in_err-first.was) first) in
    subst (IsFirstHit itself compare s (is_within cmp lower upper)) (ap (option_map (λ (r : ℕ × Spot). r.0)) (sym c.from_residual.ensures)) missed

pub returns-then-is_up_to-clause-first : goal.returns-then-is_up_to-clause-first
returns-then-is_up_to-clause-first g c =
    let compare = on g.E.OrdKey.key_of g.E.OrdKey.cmp in
    let cmp = g.Q.ItemRangeQuery.compare_item in
    let s = c.args.items.now.store in
    let lower = c.args.bounds.now.lower in
    let upper = c.args.bounds.now.upper in
    let ix = c.in_ok-first.first in
    let from = is_between (bound_map cmp lower) (bound_map cmp Unbounded) in
    let first = c.first_from.ensures.first in
    let here : IsFirstHit itself compare s from (Some ix) =
    subst (IsFirstHit itself compare s from) (ap (option_map (λ (r : ℕ × Spot). r.0)) c.in_ok-first.was) first in
    let (item, live, key) = c.key_at.ensures in
    let reached : is_up_to (bound_map cmp upper) item ≡ true =
    subst (λ k. is_up_to (bound_map cmp upper) k ≡ true) key (sym c.is_up_to.ensures ∙ c.if-is_up_to.true) in
    IsFirstHit-reached itself compare cmp g.met.Q.ItemRangeQuery.fits s ix lower upper item live reached here

pub returns-else-is_up_to-clause-first : goal.returns-else-is_up_to-clause-first
returns-else-is_up_to-clause-first g c =
    let compare = on g.E.OrdKey.key_of g.E.OrdKey.cmp in
    let cmp = g.Q.ItemRangeQuery.compare_item in
    let s = c.args.items.now.store in
    let lower = c.args.bounds.now.lower in
    let upper = c.args.bounds.now.upper in
    let ix = c.in_ok-first.first in
    let from = is_between (bound_map cmp lower) (bound_map cmp Unbounded) in
    let first = c.first_from.ensures.first in
    let here : IsFirstHit itself compare s from (Some ix) =
    subst (IsFirstHit itself compare s from) (ap (option_map (λ (r : ℕ × Spot). r.0)) c.in_ok-first.was) first in
    let (item, live, key) = c.key_at.ensures in
    let past : is_up_to (bound_map cmp upper) item ≡ false =
    subst (λ k. is_up_to (bound_map cmp upper) k ≡ false) key (sym c.is_up_to.ensures ∙ c.if-is_up_to.false) in
    IsFirstHit-passed itself compare cmp g.met.Q.ItemRangeQuery.fits s ix lower upper item live past here
