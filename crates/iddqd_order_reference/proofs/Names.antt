-- The names of std and of the crates below that proofs cite.
pub use Rattle.iddqd_order.specs.MapBTreeTable.{IsIndexList, sentinel, without}
pub use Rattle.iddqd_order.specs.Search.{Askable, CanSearch, Searches, SearchesWithin}
unfoldable pub use Rattle.iddqd_order.specs.Digits.{digits}
pub use Rattle.iddqd_order.specs.declared.btree_table.asking.Asking.{Asking}
pub use Rattle.std.proofs.Common.{All, Bool, Contains, Err, List, None, Ok, Option, Ordering, Result, Some, ap, arith, eqb-true, get_or, is_some, length, nat_eq, refl, rules, subst, sym, true, ℕ, ◌∙◌, ◌≡◌, ◌≢◌}
pub use Rattle.std.specs.Fn.{Mut}
unfoldable pub use Rattle.std.specs.List.{IsDistinct}
