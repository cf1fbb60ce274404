-- When two maps are equal: by their items, under whatever indexes these are.
use Rattle.std.specs.Prelude.{Bool, ◌&&◌, List}
use Rattle.std.specs.List.{list_any, list_all}
use Rattle.iddqd.specs.Store.{Store}
use Rattle.iddqd.specs.LiveItems.{live_items}

-- `same x y` says that two items have equal keys, and are equal
module _ {T : Type 0} (same : T → T → Bool) where
  -- each item of the first list has one in the second that is the same
  abbrev pub each_among : List T → List T → Bool
  each_among xs ys = list_all (λ x. list_any (same x) ys) xs

  -- each item of either store has one in the other that is the same
  abbrev pub has_same_items : Store T → Store T → Bool
  has_same_items s t = each_among (live_items s) (live_items t) && each_among (live_items t) (live_items s)
