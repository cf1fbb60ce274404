-- When two maps are equal: by their items in the order of the keys, under whatever indexes these are.
use Rattle.std.specs.Prelude.{Bool, List, [], ◌∷◌, if◌then◌else◌}
use Rattle.std.specs.Ordering.{is_lt}
use Rattle.std.specs.declared.cmp.Ordering.{Ordering}
use Rattle.iddqd.specs.Store.{Store}
use Rattle.iddqd.specs.LiveItems.{live_items}

module _ {X : Type 0} (stands_before : X → X → Bool) where
  -- the list with x inserted before the first element that x stands before
  abbrev pub put_in_order : X → List X → List X
  put_in_order x [] = x ∷ []
  put_in_order x (y ∷ ys) = if stands_before x y then x ∷ y ∷ ys else y ∷ put_in_order x ys

  -- the list, sorted
  abbrev pub sorted : List X → List X
  sorted [] = []
  sorted (x ∷ xs) = put_in_order x (sorted xs)

-- the items in the order of their keys
abbrev pub items_in_order : {T K : Type 0} → (T → K) → (K → K → Ordering) → Store T → List T
items_in_order key_of compare s = sorted (λ x y. is_lt (compare (key_of x) (key_of y))) (live_items s)
