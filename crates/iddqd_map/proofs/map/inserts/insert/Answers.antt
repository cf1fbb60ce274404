use Rattle.std.proofs.Common.{◌∙◌, sym, ap, subst}
use Rattle.iddqd.specs.ItemSet.{SizedStore}
use Rattle.iddqd.specs.Store.{IsFull, next_index}
use Rattle.iddqd_keys.specs.Scan.{HasNoHit}
use Rattle.iddqd_map.proofs.MapLemmas.{IsIndexed-inserted}
use Rattle.iddqd_map.proofs.map.inserts.insert.Goals as goal

pub returns-in-Ok-clause-map : goal.returns-in-Ok-clause-map
returns-in-Ok-clause-map g c =
    let item = c.args.item in
    let state = c.args.state.now in
    let s = c.prepare.new.items.store in
    let did = c.in-Ok.ensures in
    let stays = sym did.prepares.store_stays in
    let free = subst (λ t. IsFull t → ⊥) stays did.prepares.not_full in
    let apart = subst (λ t. HasNoHit t (g.X.KeyIndex.alike item)) stays did.prepares.no_conflict in
    let next = did.prepares.index ∙ ap next_index stays in
    IsIndexed-inserted _ state s _ item (ap (λ (t : SizedStore _). t.store) c.store_in_room.ensures.stored) did.map.valid free
    (c.insert.ensures.indexed state s item did.map.indexed did.map.valid free next apart c.requires.hashed did.planned)
