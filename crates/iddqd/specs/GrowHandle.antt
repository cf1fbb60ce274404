-- What a contract sees of a `GrowHandle`.
use Rattle.std.specs.Borrow.{GName}
use Rattle.iddqd.specs.Store.{Store}
use Rattle.iddqd.specs.ItemSet.{SizedStore}
use Rattle.iddqd.specs.declared.item_set.GrowHandle.{GrowHandle}

module _ {T : Type 0} where
  -- the set as the handle holds it
  abbrev pub handle_set : GrowHandle T → SizedStore T
  handle_set h = h.set.now

  -- the store as the handle holds it
  abbrev pub handle_store : GrowHandle T → Store T
  handle_store h = (handle_set h).store

  -- the ghost name of the reference to the set
  abbrev pub handle_lender : GrowHandle T → GName
  handle_lender h = h.set.ghost_name
