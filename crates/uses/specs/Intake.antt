-- What calls leave that add the items of an iterator, and what calls do that hand items on.
use Rattle.std.specs.Prelude.{◌≡◌, ℕ, List, Option, Some, length}
use Rattle.std.specs.Fn.{Mut}
use Rattle.std.specs.Iterator.{Drains, YieldsThen}
use Rattle.std.specs.List.{Contains, FoldsTo}
use Rattle.iddqd_maps.specs.Bulk.{inserted_all}
use Rattle.iddqd_maps.specs.Ranges.{GivesItem}
use Rattle.iddqd_maps.specs.Refusal.{insert_refusal_item}
use Rattle.iddqd_maps.specs.Store.{Store, get}
use Rattle.iddqd_maps.specs.Sweep.{GivesPair}
use Rattle.iddqd_maps.specs.declared.refusal.Stopped.{Stopped}

-- `gives` says what a call of the iterator's `next` gives
module _ {I T : Type 0} (gives : I → Option T → I → Type 0) where
  -- the iterator gave so many items up to its end, and each was stored in turn
  abbrev pub AddsAll : I → Store T → ℕ → Store T → Type 0
  AddsAll it old count new =
      (items : List T) × Drains gives it items × (count ≡ length items) × (new ≡ inserted_all old items)

  -- The iterator gave as many items as were inserted, and each was stored in turn. Then it gave the one that comes
  -- back, and the rest is what is left of it.
  abbrev pub AddsUntil : {C : Type 0} → I → Store T → Stopped T C I → Store T → Type 0
  AddsUntil it old stopped new =
      (items : List T) × YieldsThen gives it items (Some (insert_refusal_item stopped.refusal)) stopped.rest
      × (stopped.inserted ≡ length items) × (new ≡ inserted_all old items)

-- the closure was called with some items, one after the other, and this holds of each of them
abbrev pub IsHandedOnly : {F T : Type 0} → Mut F (T × Unit {0}) (Unit {0}) → (T → Type 0) → F → Type 0
IsHandedOnly {F} {T} g IsOne f =
    (items : List T) × (last : F) × FoldsTo (GivesItem g) f items last
    × ((item : T) → Contains items item → IsOne item)

-- the closure was called with some items of the store, each with its index, one after the other, and this holds of each
-- of them
abbrev pub IsHandedWithIndexes :
    {F T : Type 0} → Mut F (ℕ × (T × Unit {0})) (Unit {0}) → Store T → (T → Type 0) → F → Type 0
IsHandedWithIndexes {F} {T} g s IsOne f =
    (pairs : List (ℕ × T)) × (last : F) × FoldsTo (GivesPair g) f pairs last
    × ((ix : ℕ) (item : T) → Contains pairs (ix, item) → (get s ix ≡ Some item) × IsOne item)
