use Rattle.std.proofs.Common.{◌≡◌, length}
use Rattle.iddqd_groups.proofs.GroupModifyLemmas.{ModifyingHits}
use Rattle.iddqd_groups.proofs.group_modify.modify_hits.Given as goal

abbrev pub invariant-loop-ix : goal.invariant-loop-ix
invariant-loop-ix g l =
    let test = g.Q.ItemHashQuery.stands_for_item l.query in
    let under = l.fn.indexes.rest in
    record {
      modifying : ModifyingHits g.F.FnMut test l.fn.f under l.fn.items.store l.items.store l.indexes.rest l.f l.count;
      slots : l.items.capacity ≡ l.fn.items.capacity;
    }

abbrev pub decreases-loop-ix : goal.decreases-loop-ix
decreases-loop-ix g l = length l.indexes.rest
