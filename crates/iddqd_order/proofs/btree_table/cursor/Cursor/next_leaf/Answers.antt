use Rattle.std.proofs.Common.{arith}
use Rattle.std.proofs.lemmas.Grind.{common_steps}
use Rattle.iddqd_order.proofs.Names.{◌≡◌, ◌<◌, ◌+◌, length, slice_index, arith, rules, refl, row, children, child}
use Rattle.iddqd_order.proofs.DescentLemmas.{child_is}
use Rattle.iddqd_order.proofs.CursorLemmas.{NextLeafParent, next-leaf_parent}
use Rattle.iddqd_order.proofs.btree_table.cursor.Cursor.next_leaf.Goals as goal

pub index-requires : goal.index-requires
index-requires c =
    let leaf_parent = rw c.in-Some.is at c.requires.stands.leaf_parent in
    let len : c.len.result ≡ length (row c.in-Some.leaf_parent.now) = c.len.ensures.length in
    let test = c.if-place-len.true in let is = c.get-place.ensures in
    let lt : slice_index c.args.self.now.path 1 < length (row c.in-Some.leaf_parent.now) = omega arith in
    let s = next-leaf_parent _ _ c.in-Some.leaf_parent _ _ _ _ c.requires.tree c.requires.stands.at c.requires.end leaf_parent lt (rw is at c.set.ensures.place) in
    let lt : c.get-place.result + 1 < length (children c.in-Some.leaf_parent.now) = rw is s.inside in
    search (rules, lt)

-- the node above the leaf has a next index
stepped :
    (c : goal.After-get)
    → NextLeafParent c.args.root.now c.args.height c.in-Some.leaf_parent.now c.args.self.now.path c.args.self.now.at
    c.set.new.self
stepped c =
    let leaf_parent = rw c.in-Some.is at c.requires.stands.leaf_parent in
    let len : c.len.result ≡ length (row c.in-Some.leaf_parent.now) = c.len.ensures.length in
    let test = c.if-place-len.true in let is = c.get-place.ensures in
    let lt : slice_index c.args.self.now.path 1 < length (row c.in-Some.leaf_parent.now) = omega arith in
    next-leaf_parent _ _ c.in-Some.leaf_parent _ _ _ _ c.requires.tree c.requires.stands.at c.requires.end leaf_parent lt (rw is at c.set.ensures.place)

pub returns-then-place-len-clause-stands : goal.returns-then-place-len-clause-stands
returns-then-place-len-clause-stands c =
    let s = stepped c in
    let is : c.index.result.now ≡ child c.in-Some.leaf_parent.now (slice_index c.args.self.now.path 1 + 1) =
    child_is c.in-Some.leaf_parent.now _ c.index.result.now s.inside (rw c.get-place.ensures at c.index.ensures) in
    record {
      at = rw (c.as_slice-self.ensures, is) s.at_is;
      leaf_parent = rw c.in-Some.is (s.leaf_parent_is c.in-Some.leaf_parent refl);
    }

pub returns-then-place-len-clause-next : goal.returns-then-place-len-clause-next
returns-then-place-len-clause-next c =
    let item : c.get.result ≡ slice_index (row c.in-Some.leaf_parent.now) (slice_index c.args.self.now.path 1) =
    rw c.get-place.ensures at c.get.ensures in
    rw item (stepped c).steps

pub returns-clause-stands : goal.returns-clause-stands
returns-clause-stands c = grind (arith, common_steps)
