-- What a copy of a tree is.
use Rattle.std.specs.Prelude.{◌≡◌, ℕ, Option, length}
use Rattle.iddqd_order.specs.declared.btree_table.node.Node.{Node}
use Rattle.iddqd_order.specs.Node.{row, flat, inners, IsFormed}
use Rattle.iddqd_order.specs.Tree.{in_order, inners_in, IsTree}

-- a copy of a node and of all below it: well-formed, with the same indexes in order and as many inner nodes
pub record IsCopy (h : ℕ) (n copy : Node) : Type 0 where
  pub formed : IsFormed h copy
  pub same_length : length (row copy) ≡ length (row n)
  pub items : flat h copy ≡ flat h n
  pub inners : inners h copy ≡ inners h n

-- a copy of a tree: the same indexes in order, and as many inner nodes
pub record IsTreeCopy (h : ℕ) (old copy : Option Node) : Type 0 where
  pub tree : IsTree copy h
  pub items : in_order copy h ≡ in_order old h
  pub inners : inners_in copy h ≡ inners_in old h
