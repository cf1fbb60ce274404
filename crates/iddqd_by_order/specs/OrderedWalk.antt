-- What an iteration between two bounds of a key returns, and the items at its indexes.
use Rattle.std.specs.Prelude.{◌≡◌, ◌++◌, ℕ, Bool, List, Option, nat_eq}
use Rattle.std.specs.List.{IsDistinct}
use Rattle.std.specs.Option.{option_map}
use Rattle.std.specs.declared.cmp.Ordering.{Ordering}
use Rattle.iddqd.specs.Store.{Store}
use Rattle.iddqd_order.specs.declared.btree_table.spot.Spot.{Spot}
use Rattle.iddqd_keys.specs.Scan.{passes_by}
use Rattle.iddqd_by_order.specs.Ordered.{AreLive, IsInPlace}
pub use Rattle.iddqd_keys.specs.KeyWalk.{index_with_item, pairs_at, ComesBefore, IsFirstHit, SortsWithin}

-- `run` has consecutive members of `whole`, in their order
pub record IsRunOf (whole run : List ℕ) : Type 0 where
  pub before : List ℕ
  pub after : List ℕ
  pub joined : whole ≡ before ++ (run ++ after)

-- What an iteration between two bounds returns of a table's list: a run of it, of live indexes, each once; and if the
-- list is sorted by the keys, exactly the live indexes whose items' keys are within, in the order of the keys.
pub record WalksWithin
    {T K : Type 0} (key_of : T → K) (compare : K → K → Ordering) (within : K → Bool) (s : Store T) (order : List ℕ)
    (indexes : List ℕ) : Type 0 where
  pub run : IsRunOf order indexes
  pub live : AreLive s indexes
  pub once : IsDistinct nat_eq indexes
  pub in_place : IsInPlace key_of compare s order → SortsWithin key_of compare within s indexes

-- the first hit was found with its spot, or there is none
abbrev pub FindsFirst :
    {T K : Type 0} (key_of : T → K) (compare : K → K → Ordering) (within : K → Bool) (s : Store T)
    (found : Option (ℕ × Spot))
    → Type 0
FindsFirst key_of compare within s found =
    IsFirstHit key_of compare s (passes_by key_of within) (option_map (λ (r : ℕ × Spot). r.0) found)
