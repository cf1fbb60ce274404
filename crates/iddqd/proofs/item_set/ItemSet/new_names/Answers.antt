use Rattle.std.proofs.Common.{◌≡◌, ◌<◌, ◌+◌, ◌∷◌, ◌++◌, [], None, length, map, is_some, IsSome, sym, ap, ◌∙◌, arith}
use Rattle.std.proofs.lemmas.List.{length-map}
use Rattle.iddqd.specs.Slots.{item_of}
use Rattle.iddqd.specs.Store.{get, slot_count, sentinel}
use Rattle.iddqd.specs.Compaction.{new_name, numbers}
use Rattle.iddqd.proofs.CompactionLemmas.{names_more, rank-le, new_name-live, new_name-vacant, rank_more-live, rank_more-vacant}
use Rattle.iddqd.proofs.CompactedSlotLemmas.{item_read}
use Rattle.iddqd.proofs.item_set.ItemSet.new_names.Goals as goal
use Rattle.iddqd.proofs.item_set.ItemSet.new_names.Goals.{in-Occupied, in-Vacant}

pub loop-slot-preserved : goal.loop-slot-preserved
loop-slot-preserved g c =
    let slots = c.self.inside.slots.items in
    let s = c.args.self.now.store in
    let at = c.loop-slot.slot-index in
    let before = c.loop-slot.invariant in
    let read = rw c.deref-slot-items.ensures.value at c.slot-item.is in
    let inside : at < length slots = omega (arith, ap length c.deref-slot-items.ensures.value) in
    let within : at < slot_count s = rw (← c.self.view_is) (omega (arith, inside, length-map slots item_of)) in
    let item : get s at ≡ item_of c.slot-item.result = rw (← c.self.view_is) (item_read slots at c.slot-item.result inside read) in
    let more = names_more s at in
    elim c.match-slot.branch [
      | in-Occupied w ↦
          let live : IsSome (get s at) = ap is_some (item ∙ ap item_of w.in-Occupied.is) in
          let name = new_name-live s at live in
          record {
            named = rw w.names-is (w.push_reserved.ensures.items ∙ ap (λ xs. xs ++ w.new.result ∷ []) before.named ∙ ap (λ n. map (new_name s) (numbers at) ++ n ∷ []) (w.new.ensures ∙ before.ranked ∙ sym name) ∙ sym more);
            ranked = w.next-is ∙ ap (λ n. n + 1) before.ranked ∙ sym (rank_more-live s at within live);
            pushed = rw (w.names-is, w.push_reserved.ensures.len) (ap (λ n. n + 1) before.pushed);
            fits = rw (w.names-is, w.push_reserved.ensures.capacity) before.fits;
          }
      | in-Vacant w ↦
          let none : get s at ≡ None = item ∙ ap item_of w.in-Vacant.is in
          let name = new_name-vacant s at none in
          record {
            named = rw w.names-is (w.push_reserved-in-Vacant.ensures.items ∙ ap (λ xs. xs ++ sentinel ∷ []) before.named ∙ ap (λ n. map (new_name s) (numbers at) ++ n ∷ []) (sym name) ∙ sym more);
            ranked = w.next-is ∙ before.ranked ∙ sym (rank_more-vacant s at within none);
            pushed = rw (w.names-is, w.push_reserved-in-Vacant.ensures.len) (ap (λ n. n + 1) before.pushed);
            fits = rw (w.names-is, w.push_reserved-in-Vacant.ensures.capacity) before.fits;
          }
    ]

pub overflow_add-next : goal.overflow_add-next
overflow_add-next g c =
    omega (arith, c.loop-slot.invariant.ranked, rank-le c.args.self.now.store c.loop-slot.slot-index, c.loop-slot-test.true, ap length c.deref-slot-items.ensures.value, c.self.invariant.small, c.self.invariant.named)

pub returns : goal.returns
returns g c =
    let s = c.args.self.now.store in
    let slots = c.self.inside.slots.items in
    let all : c.loop-slot.slot-index ≡ slot_count s = rw (← c.self.view_is) (omega (arith, ap length c.deref-slot-items.ensures.value, length-map slots item_of)) in
    c.loop-slot.invariant.named ∙ ap (λ n. map (new_name s) (numbers n)) all
