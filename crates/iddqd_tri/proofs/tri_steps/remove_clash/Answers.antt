use Rattle.std.proofs.Common.{◌∙◌}
use Rattle.iddqd.proofs.LiveLemmas.{item_at}
use Rattle.iddqd_tri.specs.TriTables.{maps_of}
use Rattle.iddqd_tri.proofs.TriLemmas.{HoldLive-removed}
use Rattle.iddqd_tri.proofs.tri_steps.remove_clash.Goals as goal

pub returns-clause-held : goal.returns-clause-held
returns-clause-held g c =
    let s = c.args.items.now.store in
    let ix = c.in_ok-ix.field-0 in
    let live = rw c.in_ok-ix.was at c.requires.live in
    let (item, is) = item_at s ix live in
    let gives = c.remove_item.ensures.value ∙ is in
    let removed = rw gives at c.remove_item.ensures.removed in
    let taken = rw gives at c.remove_item.ensures.taken in
    rw (removed, taken) (HoldLive-removed s (maps_of c.args.tables.now) ix item is c.requires.held)
