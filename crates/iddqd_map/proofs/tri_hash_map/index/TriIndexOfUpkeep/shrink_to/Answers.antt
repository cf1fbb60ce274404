use Rattle.std.proofs.Common.{min, max, arith}
use Rattle.iddqd.specs.Store.{live_count}
use Rattle.iddqd_hash.specs.HashTable.{capacity}
use Rattle.iddqd_hash.proofs.LeastCellsLemmas.{least_cells-grows}
use Rattle.iddqd_map.proofs.SizeLemmas.{one-refused}
use Rattle.iddqd_map.proofs.tri_hash_map.index.TriIndexOfUpkeep.shrink_to.Goals as goal

pub returns-clause-enough : goal.returns-clause-enough
returns-clause-enough g c =
    let wanted = max c.args.least (live_count c.args.items.now.store) in
    let first = capacity c.args.self.now.first.table in
    let second = capacity c.args.self.now.second.table in
    let third = capacity c.args.self.now.third.table in
    let kept = min (min first (min second third)) wanted in
    let one = least_cells-grows kept (min first wanted) (omega arith) in
    let two = least_cells-grows kept (min second wanted) (omega arith) in
    let three = least_cells-grows kept (min third wanted) (omega arith) in
    omega (arith, one, two, three, c.shrink_to-first.ensures.enough, c.shrink_to-second.ensures.enough, c.shrink_to-third.ensures.enough)

pub returns-clause-needed : goal.returns-clause-needed
returns-clause-needed g c =
    let wanted = max c.args.least (live_count c.args.items.now.store) in
    let first = capacity c.args.self.now.first.table in
    let second = capacity c.args.self.now.second.table in
    let third = capacity c.args.self.now.third.table in
    let kept = min (min first (min second third)) wanted in
    let one = least_cells-grows kept (min first wanted) (omega arith) in
    let two = least_cells-grows kept (min second wanted) (omega arith) in
    let three = least_cells-grows kept (min third wanted) (omega arith) in
    let enough_first = c.shrink_to-first.ensures.enough in
    let enough_second = c.shrink_to-second.ensures.enough in
    let enough_third = c.shrink_to-third.ensures.enough in
    rw (c.and-2.ensures, c.and.ensures)
    (one-refused c.shrink_to-first.result c.shrink_to-second.result c.shrink_to-third.result c.shrink_to-first.ensures.needed c.shrink_to-second.ensures.needed c.shrink_to-third.ensures.needed
    (λ fewer. omega (arith, one, two, three, fewer, enough_second, enough_third))
    (λ fewer. omega (arith, one, two, three, fewer, enough_first, enough_third))
    (λ fewer. omega (arith, one, two, three, fewer, enough_first, enough_second)))
