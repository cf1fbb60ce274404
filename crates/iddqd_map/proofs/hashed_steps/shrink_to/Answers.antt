use Rattle.std.proofs.Common.{◌≡◌, ◌≤◌, ◌<◌, arith, subst, max, min, OnOk, OnErr}
use Rattle.std.specs.FinMap as finite
use Rattle.iddqd_hash.specs.HashTable.{capacity, memory}
use Rattle.iddqd_hash.specs.MapHashTable.{filed}
use Rattle.iddqd_hash.specs.Sizes.{most_cells}
use Rattle.iddqd_by_hash.proofs.HashedCountLemmas.{len-held}
use Rattle.iddqd_map.proofs.SizeLemmas.{needed-kept, enough-kept}
use Rattle.iddqd_map.proofs.hashed_steps.shrink_to.Goals as goal

pub returns-clause-capacity_at_least : goal.returns-clause-capacity_at_least
returns-clause-capacity_at_least g c =
    let m = filed c.args.table.now in
    let counted = len-held c.args.items.now.store m c.requires in
    subst (λ n. min (capacity c.args.table.now) (max c.args.least n) ≤ capacity c.shrink_to.new.self) counted c.shrink_to.ensures.capacity

pub returns-clause-shrunk : goal.returns-clause-shrunk
returns-clause-shrunk g c =
    let m = filed c.args.table.now in
    let counted = len-held c.args.items.now.store m c.requires in
    subst (λ n. OnOk c.shrink_to.result (memory c.shrink_to.new.self ≤ most_cells (max c.args.least n))) counted c.shrink_to.ensures.memory.shrunk

pub returns-clause-refused : goal.returns-clause-refused
returns-clause-refused g c =
    let m = filed c.args.table.now in
    let counted = len-held c.args.items.now.store m c.requires in
    subst (λ n. OnErr c.shrink_to.result (max c.args.least n < memory c.shrink_to.new.self)) counted c.shrink_to.ensures.memory.refused

pub returns-clause-needed : goal.returns-clause-needed
returns-clause-needed g c =
    let m = filed c.args.table.now in
    let counted = len-held c.args.items.now.store m c.requires in
    needed-kept c.shrink_to.result _ (max c.args.least (finite.len m)) _ (omega (arith, counted)) c.shrink_to.ensures.needed

pub returns-clause-enough : goal.returns-clause-enough
returns-clause-enough g c =
    let m = filed c.args.table.now in
    let counted = len-held c.args.items.now.store m c.requires in
    enough-kept _ (capacity c.shrink_to.new.self) _ (omega (arith, counted, c.shrink_to.ensures.capacity)) c.shrink_to.ensures.enough

pub returns-clause-succeeds : goal.returns-clause-succeeds
returns-clause-succeeds g c = λ none.
    let m = filed c.args.table.now in
    let counted = len-held c.args.items.now.store m c.requires in
    let nothing : max c.args.least (finite.len m) ≡ 0 = omega (arith, none, counted) in
    c.shrink_to.ensures.memory.succeeds nothing
