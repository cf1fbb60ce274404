use Rattle.std.proofs.Common.{rules}
use Rattle.std.proofs.Common.{◌+◌, arith, ◌∙◌}
use Rattle.iddqd_order.proofs.InsertLemmas.{Split, all_full}
use Rattle.iddqd_order.proofs.InnerLemmas.{inners-root}
use Rattle.iddqd_order.proofs.TreeLemmas.{new_root, new_root-inners}
use Rattle.iddqd_order.proofs.btree_table.tree.put_and_split.Goals as goal

pub split-middle-requires-clause-full : goal.split-middle-requires-clause-full
split-middle-requires-clause-full c =
    all_full c.args.full (c.args.height + 1) _ _ _ (omega arith) (omega (arith, c.if-full-height.false)) c.requires.full

pub returns : goal.returns
returns c =
    let split : Split c.args.height c.args.node.now c.split-middle.new.self c.split-middle.result.0 c.split-middle.result.1 c.args.path.now c.args.ix =
    record {
      items = c.split-middle.ensures.items;
      low = c.split-middle.ensures.low;
      high = c.split-middle.ensures.high;
      inner = c.split-middle.ensures.inner;
    } in
    let r = new_root _ _ _ _ _ _ _ _ c.requires.formed c.requires.goes split c.grow.ensures.root_row c.grow.ensures.root_children c.grow.ensures.has_room c.requires.fits in
    let taken = c.take-children.ensures in
    record {
      levels = r.low;
      formed = r.formed;
      root = r.root;
      items = r.items;
      inners = omega (arith, new_root-inners _ _ _ _ _ _ _ _ split c.grow.ensures.root_children, taken.one_more, c.split-middle.ensures.counted, c.requires.inners);
      reserved = taken.reserved ∙ c.split-middle.ensures.reserved;
    }

-- few inner nodes, so that their count fits
pub put_through_full-requires-clause-fits : goal.put_through_full-requires-clause-fits
put_through_full-requires-clause-fits c =
    let few = inners-root _ _ c.requires.formed c.requires.root in
    omega (arith, c.requires.levels, c.requires.fits, c.requires.inners, c.if-full-height.true)

pub split-middle-requires-clause-fits : goal.split-middle-requires-clause-fits
split-middle-requires-clause-fits c =
    let few = inners-root _ _ c.requires.formed c.requires.root in
    omega (arith, c.requires.levels, c.requires.fits, c.requires.inners)

pub take-children-requires-clause-fits : goal.take-children-requires-clause-fits
take-children-requires-clause-fits c =
    let few = inners-root _ _ c.requires.formed c.requires.root in
    omega (arith, c.requires.levels, c.requires.fits, c.requires.inners, c.split-middle.ensures.counted)

pub returns-then-full-height : goal.returns-then-full-height
returns-then-full-height c = record {
  reserved = search rules;
  levels = search rules;
  formed = search rules;
  inners = omega arith;
  items = search rules;
  root = search rules;
}
