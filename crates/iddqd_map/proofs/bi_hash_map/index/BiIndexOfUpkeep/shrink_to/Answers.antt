use Rattle.std.proofs.Common.{min, max, arith}
use Rattle.iddqd.specs.Store.{live_count}
use Rattle.iddqd_hash.specs.HashTable.{capacity}
use Rattle.iddqd_hash.proofs.LeastCellsLemmas.{least_cells-grows}
use Rattle.iddqd_map.proofs.SizeLemmas.{either-refused}
use Rattle.iddqd_map.proofs.bi_hash_map.index.BiIndexOfUpkeep.shrink_to.Goals as goal

pub returns-clause-enough : goal.returns-clause-enough
returns-clause-enough g c =
    let wanted = max c.args.least (live_count c.args.items.now.store) in
    let first = capacity c.args.self.now.first.table in
    let second = capacity c.args.self.now.second.table in
    let one = least_cells-grows (min (min first second) wanted) (min first wanted) (omega arith) in
    let other = least_cells-grows (min (min first second) wanted) (min second wanted) (omega arith) in
    omega (arith, one, other, c.shrink_to-first.ensures.enough, c.shrink_to-second.ensures.enough)

pub returns-clause-needed : goal.returns-clause-needed
returns-clause-needed g c =
    let wanted = max c.args.least (live_count c.args.items.now.store) in
    let first = capacity c.args.self.now.first.table in
    let second = capacity c.args.self.now.second.table in
    let one = least_cells-grows (min (min first second) wanted) (min first wanted) (omega arith) in
    let other = least_cells-grows (min (min first second) wanted) (min second wanted) (omega arith) in
    rw c.and.ensures
    (either-refused c.shrink_to-first.result c.shrink_to-second.result c.shrink_to-first.ensures.needed c.shrink_to-second.ensures.needed
    (λ fewer. omega (arith, one, other, fewer, c.shrink_to-second.ensures.enough))
    (λ fewer. omega (arith, one, other, fewer, c.shrink_to-first.ensures.enough)))
