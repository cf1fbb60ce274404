use Rattle.iddqd_order.proofs.Names.{rules, ◌∙◌, refl, sym, roll-Node}
use Rattle.iddqd_order.proofs.RecountLemmas.{inners-leaf}
use Rattle.iddqd_order.proofs.NodeLemmas.{row-roll, children-roll}
use Rattle.iddqd_order.proofs.TreeLemmas.{first_root}
use Rattle.iddqd_order.proofs.btree_table.tree.put_in.Goals as goal

pub returns-in-None-clause-tree : goal.returns-in-None-clause-tree
returns-in-None-clause-tree c =
    let r =
    first_root (roll-Node (record { row = c.insert.new.self; children = c.new-children.result })) c.args.ix
    (row-roll _ ∙ search rules) (children-roll _ ∙ c.new-children.ensures.items) in
    (r.formed, r.root, r.low)

pub returns-in-None-clause-items : goal.returns-in-None-clause-items
returns-in-None-clause-items c =
    let r =
    first_root (roll-Node (record { row = c.insert.new.self; children = c.new-children.result })) c.args.ix
    (row-roll _ ∙ search rules) (children-roll _ ∙ c.new-children.ensures.items) in
    rw c.in-None.is r.items

pub returns-in-None-clause-inners : goal.returns-in-None-clause-inners
returns-in-None-clause-inners c = rw c.in-None.is at c.requires.inners ∙ sym (inners-leaf 0 _ refl)

pub returns-then-full-eq0 : goal.returns-then-full-eq0
returns-then-full-eq0 c = record {
  reserved = search rules;
  items = search rules;
  tree = search rules;
  inners = search rules;
}
