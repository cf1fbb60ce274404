-- Items whose clones compare Equal share their key.
use Rattle.std.specs.Prelude.{◌≡◌, true}
use Rattle.std.proofs.Common.{ap}
use Rattle.std.specs.Ordering.{is_eq}
use Rattle.std.specs.declared.cmp.Ordering.{Ordering}
use Rattle.std.specs.declared.cmp.Ordering.TheVariants.{Equal}
use Rattle.iddqd_ord_map.specs.OrderedIndexing.{alike_in_order}

module _ {T K : Type 0} (key_of : T → K) (compare : K → K → Ordering) (is_clone : T → T → Type 0) where
  pub clones_are_alike :
      ((x y : T) → is_clone x y → compare (key_of x) (key_of y) ≡ Equal)
      → (x y : T)
      → is_clone x y
      → alike_in_order key_of compare x y ≡ true
  clones_are_alike equal x y is = ap is_eq (equal x y is)
