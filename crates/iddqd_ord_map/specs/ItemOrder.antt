-- What a call for the items within bounds of an order removes.
use Rattle.std.specs.Prelude.{Bool}
use Rattle.std.specs.Fn.{Mut}
use Rattle.std.specs.declared.cmp.Ordering.{Ordering}
use Rattle.iddqd.specs.Store.{Store}
use Rattle.iddqd_keys.specs.Bounds.{is_in_bounds}
use Rattle.iddqd_keys.specs.declared.bounds.Bounds.{Bounds}
use Rattle.iddqd_map.specs.RangeRetain.{GivesRefusedWithin, RetainsWithin}
use Rattle.iddqd_map.specs.Ranges.{GivesItem, RemovesAlong}

-- The items within the bounds were removed, or kept where the closure answered true: f was called with each, or at
-- each, in order and then by index. `order` compares items, and `compare` a query with an item.
module _ {F Q T : Type 0} (order : T → T → Ordering) (compare : Q → T → Ordering) (bounds : Bounds Q) where
  abbrev pub RemovesBetween : (F → T → F → Type 0) → F → Store T → Store T → Type 0
  RemovesBetween give f old new =
      (last : F) × RemovesAlong order (is_in_bounds compare bounds) give f old new last

  abbrev pub RetainsBetween : (F → T → Bool → F → Type 0) → F → Store T → Store T → Type 0
  RetainsBetween ask f old new =
      (last : F) × RetainsWithin order (is_in_bounds compare bounds) ask f old new last

  -- and each that was removed was passed to a second closure
  abbrev pub GivesRefusedBetween :
      {G : Type 0}
      → (F → T → Bool → F → Type 0) → Mut G (T × Unit {0}) (Unit {0}) → F → G → Store T → Store T → Type 0
  GivesRefusedBetween ask g keep gone old new =
      GivesRefusedWithin order (is_in_bounds compare bounds) ask (GivesItem g) keep gone old new
