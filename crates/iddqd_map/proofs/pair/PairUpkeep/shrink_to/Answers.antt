use Rattle.std.proofs.Common.{min, max, arith}
use Rattle.iddqd.specs.Store.{slot_count, live_count}
use Rattle.iddqd_map.proofs.SizeLemmas.{either-refused, needed-within, needed-less}
use Rattle.iddqd_map.proofs.pair.PairUpkeep.shrink_to.Goals as goal

pub returns-clause-enough : goal.returns-clause-enough
returns-clause-enough g c =
    let s = c.args.items.now.store in
    let old = c.args.self.now in
    let first = min (g.A.KeyIndex.capacity old.first) (max c.args.least (live_count s)) in
    let second = min (g.B.KeyIndex.capacity old.second) (max c.args.least (live_count s)) in
    let kept = min (min (g.A.KeyIndex.capacity old.first) (g.B.KeyIndex.capacity old.second)) (max c.args.least (live_count s)) in
    let one = needed-within g.A.KeyIndex.needed g.met.A.IndexLaws.needed_grows (slot_count s) kept first _ (omega arith) c.shrink_to-first.ensures.enough in
    let other = needed-within g.B.KeyIndex.needed g.met.B.IndexLaws.needed_grows (slot_count s) kept second _ (omega arith) c.shrink_to-second.ensures.enough in
    omega (arith, one, other)

pub returns-clause-needed : goal.returns-clause-needed
returns-clause-needed g c =
    let s = c.args.items.now.store in
    let old = c.args.self.now in
    let first = min (g.A.KeyIndex.capacity old.first) (max c.args.least (live_count s)) in
    let second = min (g.B.KeyIndex.capacity old.second) (max c.args.least (live_count s)) in
    let kept = min (min (g.A.KeyIndex.capacity old.first) (g.B.KeyIndex.capacity old.second)) (max c.args.least (live_count s)) in
    let one = needed-within g.A.KeyIndex.needed g.met.A.IndexLaws.needed_grows (slot_count s) kept first _ (omega arith) c.shrink_to-first.ensures.enough in
    let other = needed-within g.B.KeyIndex.needed g.met.B.IndexLaws.needed_grows (slot_count s) kept second _ (omega arith) c.shrink_to-second.ensures.enough in
    rw c.and.ensures
    (either-refused c.shrink_to-first.result c.shrink_to-second.result c.shrink_to-first.ensures.needed c.shrink_to-second.ensures.needed
    (λ fewer.
    let less = needed-less g.A.KeyIndex.needed g.met.A.IndexLaws.needed_grows (slot_count s) kept first _ (omega arith) fewer in
    omega (arith, less, other))
    (λ fewer.
    let less = needed-less g.B.KeyIndex.needed g.met.B.IndexLaws.needed_grows (slot_count s) kept second _ (omega arith) fewer in
    omega (arith, less, one)))
