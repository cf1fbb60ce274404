use Rattle.iddqd_order.proofs.Names.{◌<◌, ◌∙◌, ap, length, arith, rules, CanRemap, remapped, out-Node, roll-Node, out-roll-Node, children}
use Rattle.iddqd_order.proofs.NodeLemmas.{formed-leaf, row-roll, children-roll, room-roll}
use Rattle.iddqd_order.proofs.MendLemmas.{formed-sized}
use Rattle.iddqd_order.proofs.NodeRenameLemmas.{own-can, next-can, renamed}
use Rattle.iddqd_order.proofs.btree_table.node.Node.+rename.Goals as goal

pub rename_row-requires : goal.rename_row-requires
rename_row-requires t c =
    own-can (CanRemap c.args.remap.now) c.args.height c.args.self.now c.requires.formed c.requires.can_remap

pub returns-then-height-eq0 : goal.returns-then-height-eq0
returns-then-height-eq0 t c =
    let none = ap length (formed-leaf c.args.height c.args.self.now c.if-height-eq0.true c.requires.formed).childless in
    let r = renamed (remapped c.args.remap.now) c.args.height c.args.self.now (roll-Node (record { row = c.rename_row.new.row; children = (out-Node c.args.self.now).children })) c.requires.formed (row-roll _ ∙ c.rename_row.ensures) (rw room-roll (formed-sized c.args.height c.args.self.now c.requires.formed).0.has_room)
    (ap length (children-roll _)) (λ j d lt. absurd (omega arith)) in
    record { formed = r.formed; same_length = r.same_length; items = r.items; inners = r.inners }

pub rename-requires : goal.rename-requires
rename-requires t c =
    let lt : c.loop-i.i < length (children c.loop-i.self) = search (rules, out-roll-Node) in
    let k = next-can (CanRemap c.args.remap.now) (remapped c.args.remap.now) c.args.height c.loop-i.i c.args.self.now c.loop-i.self c.index_mut.result.now c.if-height-eq0.false c.requires.formed c.requires.can_remap c.loop-i.invariant lt (search rules) in
    (omega arith, k)

pub returns : goal.returns
returns t c =
    let i = c.loop-i.invariant in
    let r = renamed (remapped c.args.remap.now) c.args.height c.args.self.now c.loop-i.self c.requires.formed i.row_is (omega (arith, (formed-sized c.args.height c.args.self.now c.requires.formed).0.has_room, i.room_is)) i.length_is
    (λ j d lt. i.done j d (search (rules, out-roll-Node)) lt) in
    record { formed = r.formed; same_length = r.same_length; items = r.items; inners = r.inners }
