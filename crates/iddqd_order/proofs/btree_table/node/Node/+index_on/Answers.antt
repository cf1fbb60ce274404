use Rattle.iddqd_order.proofs.Names.{◌≡◌, ◌-◌, slice_index, arith, rules, subst, sym, ◌∙◌, child, flat, place_at_level}
use Rattle.iddqd_order.proofs.RemovalLemmas.{goes-below}
use Rattle.iddqd_order.proofs.DescentLemmas.{child_is}
use Rattle.iddqd_order.proofs.SpotCursorLemmas.{ends-here, read-below}
use Rattle.iddqd_order.proofs.btree_table.node.Node.+index_on.Goals as goal

pub index-requires : goal.index-requires
index-requires t c =
    let b = goes-below c.args.height c.args.level c.get-i.result c.args.self.now c.args.path.now c.if-height-level.true c.get-i.ensures c.requires.formed c.requires.holds in
    search (rules, b.here)

pub index_on-requires : goal.index_on-requires
index_on-requires t c =
    let b = goes-below c.args.height c.args.level c.get-i.result c.args.self.now c.args.path.now c.if-height-level.true c.get-i.ensures c.requires.formed c.requires.holds in
    let same : c.index.result.now ≡ child c.args.self.now c.get-i.result =
    child_is c.args.self.now c.get-i.result c.index.result.now b.here c.index.ensures in
    let levels = c.requires.levels in
    (omega arith, (rw same b.formed, (omega arith, rw same b.holds)))

pub returns-then-height-level : goal.returns-then-height-level
returns-then-height-level t c =
    let b = goes-below c.args.height c.args.level c.get-i.result c.args.self.now c.args.path.now c.if-height-level.true c.get-i.ensures c.requires.formed c.requires.holds in
    let same : c.index.result.now ≡ child c.args.self.now c.get-i.result =
    child_is c.args.self.now c.get-i.result c.index.result.now b.here c.index.ensures in
    read-below c.args.height c.args.level c.get-i.result c.index_on.result c.args.self.now c.args.path.now b c.requires.formed
    (subst (λ z. c.index_on.result ≡ slice_index (flat (c.args.height - 1) z) (place_at_level c.args.level (c.args.height - 1) z c.args.path.now)) same c.index_on.ensures)

pub get-requires : goal.get-requires
get-requires t c = (ends-here c.if-height-level.false c.get-i.ensures c.requires.formed c.requires.holds).within

pub returns : goal.returns
returns t c =
    c.get.ensures ∙ sym (ends-here c.if-height-level.false c.get-i.ensures c.requires.formed c.requires.holds).spot_is
