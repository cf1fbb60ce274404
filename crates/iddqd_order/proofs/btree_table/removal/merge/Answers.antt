use Rattle.std.proofs.Common.{rules, arith}
use Rattle.iddqd_order.proofs.MendLemmas.{join-fits, merged}
use Rattle.iddqd_order.proofs.RecountLemmas.{children-room, children-some, inners-merged}
use Rattle.iddqd_order.proofs.btree_table.removal.merge.Goals as goal

pub join-requires-clause-room : goal.join-requires-clause-room
join-requires-clause-room c =
    let k = c.requires.lacks.1 in let f = k.1 in
    let j = join-fits c.requires.lacks.0 k.0 c.args.left c.args.row.now c.args.children.now.items c.index_mut.result.now c.remove-other.result f.0 f.1.0 c.requires.within f.1.1 c.requires.few (search rules) (search rules) in
    j.room_is

pub returns : goal.returns
returns c = record {
  counted = λ h i low high f.
      let j = join-fits h i c.args.left c.args.row.now c.args.children.now.items c.index_mut.result.now c.remove-other.result low high c.requires.within f c.requires.few (search rules) (search rules) in
      let one = f.one_more in let within = c.requires.within in
      let m = inners-merged h c.args.left c.args.children.now.items c.index_mut.result.now c.remove-other.result c.join.new.self (omega arith) (search rules) (search rules) c.join.ensures.children in
      record {
        inners =
            rw c.remove-other.ensures.items
            (omega (arith, m, c.join.ensures.given, children-some h c.remove-other.result j.pair.right_is.1));
        reserved = c.join.ensures.reserved;
      };
  mended = λ h i low high f.
      let k = join-fits h i c.args.left c.args.row.now c.args.children.now.items c.index_mut.result.now c.remove-other.result low high c.requires.within f c.requires.few (search rules) (search rules) in
      let j = c.join.ensures in
      rw (c.remove-middle.ensures.items, c.remove-other.ensures.items) (merged h c.args.left c.args.row.now c.args.children.now.items c.index_mut.result.now c.remove-other.result c.join.new.self c.remove-middle.result k (search rules) j.row j.children j.room);
  capacity = search rules;
}

pub join-requires-clause-block : goal.join-requires-clause-block
join-requires-clause-block c =
    let k = c.requires.lacks.1 in let f = k.1 in
    let j = join-fits c.requires.lacks.0 k.0 c.args.left c.args.row.now c.args.children.now.items c.index_mut.result.now c.remove-other.result f.0 f.1.0 c.requires.within f.1.1 c.requires.few (search rules) (search rules) in
    children-room c.requires.lacks.0 c.remove-other.result j.pair.right_is.1
