use Rattle.iddqd_order.proofs.Names.{◌∙◌, refl, arith, rules, roll-Node}
use Rattle.iddqd_order.proofs.NodeLemmas.{row-roll, children-roll}
use Rattle.iddqd_order.proofs.RemovalLemmas.{goes-below, child-below, room-kept}
use Rattle.iddqd_order.proofs.SpotCursorLemmas.{ends-here, put-here, put-below}
use Rattle.iddqd_order.proofs.RecountLemmas.{inners-same, inners-set}
use Rattle.iddqd_order.proofs.btree_table.node.Node.+replace.Goals as goal

pub index_mut-requires : goal.index_mut-requires
index_mut-requires t c =
    let b = goes-below c.args.height c.args.level c.get-i.result c.args.self.now c.args.path.now c.if-height-level.true c.get-i.ensures c.requires.formed c.requires.holds in
    search (rules, b.here)

pub replace-requires : goal.replace-requires
replace-requires t c =
    let k =
    child-below c.args.level c.args.height c.get-i.result c.args.self.now c.index_mut.result.now c.args.path.now
    (λ e. absurd (omega arith)) (λ e. absurd (omega arith)) c.get-i.ensures c.requires.formed c.requires.holds
    (search rules) in
    let levels = c.requires.levels in
    (omega arith, (k.formed.1, (omega arith, k.holds)))

pub returns-then-height-level : goal.returns-then-height-level
returns-then-height-level t c =
    let d = c.replace.ensures in
    let k = put-below c.args.height c.args.level c.get-i.result c.args.ix c.args.self.now c.index_mut.result.now c.replace.new.self (roll-Node _) c.args.path.now c.if-height-level.true c.get-i.ensures c.requires.formed c.requires.holds (search rules)
    (record { items = d.items; formed = d.formed; same_length = d.same_length; same_places = d.same_places })
    (row-roll _) (children-roll _) (room-kept c.args.self.now _ refl) in
    let b = goes-below c.args.height c.args.level c.get-i.result c.args.self.now c.args.path.now c.if-height-level.true c.get-i.ensures c.requires.formed c.requires.holds in
    let same =
    inners-set c.args.height c.get-i.result c.args.self.now
    (roll-Node _) c.index_mut.result.now c.replace.new.self b.inner b.here (search rules) d.inners
    (children-roll _) in
    record {
      items = k.items;
      formed = k.formed;
      same_length = k.same_length;
      inners = same;
      same_places = k.same_places;
    }

pub set-requires : goal.set-requires
set-requires t c = (ends-here c.if-height-level.false c.get-i.ensures c.requires.formed c.requires.holds).within

pub returns : goal.returns
returns t c =
    let e = ends-here c.if-height-level.false c.get-i.ensures c.requires.formed c.requires.holds in
    let k =
    put-here c.args.height c.args.level c.get-i.result c.args.ix c.args.self.now
    (roll-Node _) c.args.path.now e.level c.get-i.ensures c.requires.formed c.requires.holds
    (row-roll _ ∙ c.set.ensures) (children-roll _) (room-kept c.args.self.now _ refl) in
    record {
      items = k.items;
      formed = k.formed;
      same_length = k.same_length;
      inners = inners-same c.args.height c.args.self.now (roll-Node _) (children-roll _);
      same_places = k.same_places;
    }
