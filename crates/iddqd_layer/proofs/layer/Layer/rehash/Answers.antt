use Rattle.std.proofs.Common.{◌≡◌, ◌∙◌, ◌<◌, ℕ, length, get_or, set, refl, ap, subst, rules}
use Rattle.std.proofs.lemmas.List.{get_or_default}
use Rattle.iddqd_keys.specs.Scan.{IsLive}
use Rattle.iddqd.specs.ItemSet as slots
use Rattle.iddqd_hash.specs.HashTable as hash_table
use Rattle.iddqd_order.specs.MapBTreeTable as order_table
use Rattle.iddqd_layer.specs.Layer.{IsRefiled, least_of, room}
use Rattle.iddqd_layer.proofs.LayerLemmas.{hashed-refiled}
use Rattle.iddqd_layer.proofs.RoomLemmas.{least-set}
use Rattle.iddqd_layer.proofs.layer.Layer.rehash.Goals as goal

pub invariant_of-self : goal.invariant_of-self
invariant_of-self c =
    let l = c.self.inside in let s = l.items.store in let old = l.hashed.items in
    let d = c.index_mut.result.now in let v = c.rehash_one.new.table in
    let lt : c.args.key < length old = search rules in
    let live : IsLive s c.args.ix = search rules in
    let was : d ≡ get_or old c.args.key v = c.index_mut.ensures.value ∙ get_or_default old c.args.key d v lt in
    record {
      valid = c.self.invariant.valid;
      hashed =
          hashed-refiled s old _ c.args.ix c.args.to c.args.key v c.self.invariant.hashed refl
          ((c.self.invariant.hashed c.args.key v lt c.args.ix).1 live)
          (subst (λ z. IsRefiled c.args.ix c.args.to z v) was c.rehash_one.ensures.filed);
      ordered = c.self.invariant.ordered;
    }

pub returns-clause-room : goal.returns-clause-room
returns-clause-room c =
    let l = c.self.inside in let old = l.hashed.items in
    let d = c.index_mut.result.now in let v = c.rehash_one.new.table in
    let lt : c.args.key < length old = search rules in
    let was : d ≡ get_or old c.args.key v = c.index_mut.ensures.value ∙ get_or_default old c.args.key d v lt in
    let n = least_of order_table.room (slots.room l.items) l.ordered.items in
    subst (λ z. least_of hash_table.room n (set old c.args.key v) ≡ room z) c.self.view_is
    (least-set hash_table.room n old c.args.key v v lt (c.rehash_one.ensures.room ∙ ap (hash_table.room {T = ℕ}) was))
