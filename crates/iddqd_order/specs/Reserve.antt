-- The blocks that a table keeps beside its tree.
use Rattle.std.specs.Prelude.{◌≡◌, ◌-◌, ◌≤◌, ℕ, All, refl, vec_len, vec_capacity, Vec}
use Rattle.std.specs.Coded.{Coded, code_by, coded×, coded_ℕ}
use Rattle.std.specs.declared.alloc.Global.{Global}
use Rattle.iddqd_order.specs.declared.btree_table.node.Node.{Node}
use Rattle.iddqd_order.specs.Node.{IsSpare}

-- the number of inner nodes of the tree, and the least number of blocks in the tree and beside it together
pub record Reserved : Type 0 where
  pub inners : ℕ
  pub reserved : ℕ

abbrev pub reserved_code : Coded Reserved
reserved_code =
    code_by
    (ℕ × ℕ)
    (coded× coded_ℕ coded_ℕ)
    (λ r. (r.inners, r.reserved))
    (λ p. record { inners = p.0; reserved = p.1 })
    (λ _. refl)

-- how many empty blocks lie beside the tree
abbrev pub spare : Reserved → ℕ
spare r = r.reserved - r.inners

-- the most blocks that can be reserved: those of a tree with as many indexes as there can be
abbrev pub most_blocks : ℕ
most_blocks = 143165577

-- the parts of a reserve: a list of the empty blocks beside the tree, with room for all that are reserved
pub record IsReserve (blocks : Vec (Vec Node Global) Global) (inners reserved : ℕ) : Type 0 where
  pub empty : All IsSpare blocks.items
  pub count : vec_len blocks ≡ reserved - inners
  pub places : reserved ≤ vec_capacity blocks
  pub few : reserved ≤ most_blocks
