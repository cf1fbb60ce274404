-- What an `ItemSet` is once the `&mut` to one of its items, which a call returned, has ended.
use Rattle.std.specs.Prelude.{ℕ, Option}
use Rattle.std.specs.Borrow.{Lends, LendsIf, Fml, RattleType, MutBor}
use Rattle.iddqd.specs.ItemSet.{SizedStore, with_item}
use Rattle.iddqd.specs.contracts.item_set.ItemSet.{the_row}

module _ (T : RattleType) (s : MutBor (SizedStore T.Denot)) (ix : ℕ) where
  -- once the borrow r ends, the index has the last item written through r
  abbrev pub lends_item : MutBor T.Denot → Fml
  lends_item r = Lends (the_row T) T s r (with_item s.now ix)

  -- if a reference is returned, `lends_item` holds of it; if `None` is returned, the set stays as it is
  abbrev pub lends_get : Option (MutBor T.Denot) → Fml
  lends_get r = LendsIf (the_row T) T s r (with_item s.now ix) s.now
