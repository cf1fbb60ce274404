use Rattle.std.proofs.Common.{◌≡◌, ◌≤◌, ◌<◌, max, min, IsOk, OnOk, OnErr, subst}
use Rattle.iddqd.specs.Store.{slot_count}
use Rattle.iddqd_groups.specs.LinkedTable.{kept_linked, needed_linked}
use Rattle.iddqd_by_hash.proofs.HashedCountLemmas.{len-held}
use Rattle.iddqd_groups.proofs.linked_steps.shrink_to.Goals as goal

pub returns-clause-capacity_at_least : goal.returns-clause-capacity_at_least
returns-clause-capacity_at_least g c =
    let counted = len-held c.args.items.now.store c.args.table.now.filed c.requires.held in
    subst (λ n. min c.args.table.now.capacity (max c.args.least n) ≤ c.shrink_to.new.self.capacity) counted
    c.shrink_to.ensures.capacity_at_least

pub returns-clause-shrunk : goal.returns-clause-shrunk
returns-clause-shrunk g c =
    let counted = len-held c.args.items.now.store c.args.table.now.filed c.requires.held in
    subst (λ n. OnOk c.shrink_to.result (c.shrink_to.new.self.memory ≤ kept_linked
    (max c.args.least (slot_count c.args.items.now.store)) (max c.args.least n))) counted
    (rw c.requires.linked at c.shrink_to.ensures.shrunk)

pub returns-clause-refused : goal.returns-clause-refused
returns-clause-refused g c =
    let counted = len-held c.args.items.now.store c.args.table.now.filed c.requires.held in
    subst (λ n. OnErr c.shrink_to.result (max c.args.least n < c.shrink_to.new.self.memory)) counted
    c.shrink_to.ensures.refused

pub returns-clause-succeeds : goal.returns-clause-succeeds
returns-clause-succeeds g c =
    let counted = len-held c.args.items.now.store c.args.table.now.filed c.requires.held in
    subst (λ n. kept_linked (max c.args.least (slot_count c.args.items.now.store)) (max c.args.least n) ≡ 0
    → IsOk c.shrink_to.result) counted
    (rw c.requires.linked at c.shrink_to.ensures.succeeds)

pub returns-clause-needed : goal.returns-clause-needed
returns-clause-needed g c =
    let counted = len-held c.args.items.now.store c.args.table.now.filed c.requires.held in
    subst (λ n. let kept = min c.args.table.now.capacity (max c.args.least n) in
    OnErr c.shrink_to.result (needed_linked (max (slot_count c.args.items.now.store) kept) kept < c.shrink_to.new.self.memory)) counted
    (rw c.requires.linked at c.shrink_to.ensures.needed)

pub returns-clause-enough : goal.returns-clause-enough
returns-clause-enough g c =
    let counted = len-held c.args.items.now.store c.args.table.now.filed c.requires.held in
    subst (λ n. let kept = min c.args.table.now.capacity (max c.args.least n) in
    needed_linked (max (slot_count c.args.items.now.store) kept) kept ≤ c.shrink_to.new.self.memory) counted
    (rw c.requires.linked at c.shrink_to.ensures.enough)
