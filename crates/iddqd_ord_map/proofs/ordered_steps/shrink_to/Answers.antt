use Rattle.std.proofs.Common.{◌≡◌, ◌+◌, max, arith, subst}
use Rattle.iddqd.specs.Store.{live_count}
use Rattle.iddqd_order.specs.MapBTreeTable.{order_of}
use Rattle.iddqd_order.specs.Sizes.{Shrinks}
use Rattle.iddqd_by_order.proofs.OrderedCountLemmas.{length-held}
use Rattle.iddqd_ord_map.proofs.SizeLemmas.{enough, shrunk-enough, shrunk-few}
use Rattle.iddqd_ord_map.proofs.ordered_steps.shrink_to.Goals as goal

pub returns-then-indexes-saturating_sub-clause-capacity_at_least :
    goal.returns-then-indexes-saturating_sub-clause-capacity_at_least
returns-then-indexes-saturating_sub-clause-capacity_at_least g c =
    let old = c.args.table.now in
    let len = live_count c.args.items.now.store in
    let held = length-held c.args.items.now.store (order_of old) c.requires in
    let wanted : c.max-indexes.result + 10 ≡ max c.args.least len + 10 =
    omega (arith, held, c.max-indexes.ensures, c.len.ensures.length) in
    let shrinks = subst (λ n. Shrinks n old c.shrink_to.new.self) wanted c.shrink_to.ensures in
    shrunk-enough old c.shrink_to.new.self len c.args.least held shrinks

pub returns-then-indexes-saturating_sub-clause-shrunk : goal.returns-then-indexes-saturating_sub-clause-shrunk
returns-then-indexes-saturating_sub-clause-shrunk g c =
    let old = c.args.table.now in
    let len = live_count c.args.items.now.store in
    let held = length-held c.args.items.now.store (order_of old) c.requires in
    let wanted : c.max-indexes.result + 10 ≡ max c.args.least len + 10 =
    omega (arith, held, c.max-indexes.ensures, c.len.ensures.length) in
    let shrinks = subst (λ n. Shrinks n old c.shrink_to.new.self) wanted c.shrink_to.ensures in
    shrunk-few old c.shrink_to.new.self len c.args.least held shrinks

pub returns-else-indexes-saturating_sub-clause-shrunk : goal.returns-else-indexes-saturating_sub-clause-shrunk
returns-else-indexes-saturating_sub-clause-shrunk g c =
    let len = live_count c.args.items.now.store in
    let held = length-held c.args.items.now.store (order_of c.args.table.now) c.requires in
    let most = enough (max c.args.least len) in
    omega (arith, held, most)
