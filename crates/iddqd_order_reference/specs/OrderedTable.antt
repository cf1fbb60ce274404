-- What a contract sees of an `OrderedTable`.
use Rattle.std.specs.Prelude.{◌<◌, ℕ, List, length}

-- The model of a table: its indexes in their order, and for how many the vector has memory. Callers read it by the
-- functions below.
pub record Listing : Type 0 where
  pub indexes : List ℕ
  pub memory : ℕ

-- the indexes in their order
unfoldable pub order_of : Listing → List ℕ
order_of t = t.indexes

-- how many indexes the table can hold without asking for memory
unfoldable pub capacity : Listing → ℕ
capacity t = t.memory

-- it can hold one more index without asking for memory
abbrev pub HasRoom : Listing → Type 0
HasRoom t = length (order_of t) < capacity t
