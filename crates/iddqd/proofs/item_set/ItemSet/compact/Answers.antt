use Rattle.std.proofs.Common.{sym, arith}
use Rattle.std.proofs.lemmas.Grind.{common_steps}
use Rattle.iddqd.proofs.SlotLemmas.{store-is-valid}
use Rattle.iddqd.proofs.CompactionLemmas.{rank_rises, compacted_same}
use Rattle.iddqd.proofs.CompactedSlotLemmas.{free_none, free_some}
use Rattle.iddqd.proofs.item_set.ItemSet.compact.Goals as goal

pub returns-then-len-self-clause-remap : goal.returns-then-len-self-clause-remap
returns-then-len-self-clause-remap g c = rw (← c.self.view_is) (free_none c.self.invariant (omega arith))

pub returns-then-len-self-clause-compacted : goal.returns-then-len-self-clause-compacted
returns-then-len-self-clause-compacted g c =
    let none = free_none c.self.invariant (omega arith) in
    rw (← c.self.view_is) (sym (compacted_same _ (store-is-valid c.self.invariant) none))

pub returns-then-len-self-clause-ranks : goal.returns-then-len-self-clause-ranks
returns-then-len-self-clause-ranks g c = rank_rises c.args.self.now.store

pub returns-in_err-names-clause-dense : goal.returns-in_err-names-clause-dense
returns-in_err-names-clause-dense g c =
    let some = free_some c.self.invariant (omega arith) in
    rw (← c.self.view_is) (λ none. absurd (some none))

pub returns-in_err-names-clause-ranks : goal.returns-in_err-names-clause-ranks
returns-in_err-names-clause-ranks g c = rank_rises c.args.self.now.store

pub returns-clause-remap : goal.returns-clause-remap
returns-clause-remap g c =
    let some = free_some c.self.invariant (omega arith) in
    (rw (← c.self.view_is) some, c.in_ok-names.ensures)

pub returns-clause-ranks : goal.returns-clause-ranks
returns-clause-ranks g c = rank_rises c.args.self.now.store

pub returns-clause-compacted : goal.returns-clause-compacted
returns-clause-compacted g c = grind (arith, common_steps)

pub returns-clause-capacity : goal.returns-clause-capacity
returns-clause-capacity g c = grind (arith, common_steps)
