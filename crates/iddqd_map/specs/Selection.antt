-- The order in which a call goes over a selection of a store's items, as lists of live indexes.
use Rattle.std.specs.Prelude.{if◌then◌else◌, ◌&&◌, ℕ, Bool, true, List, [], ◌∷◌, map, filter}
use Rattle.std.specs.Ordering.{is_eq, is_lt}
use Rattle.std.specs.declared.cmp.Ordering.{Ordering}
use Rattle.std.specs.declared.cmp.Ordering.TheVariants.{Equal}
use Rattle.iddqd.specs.LiveItems.{live_pairs}
use Rattle.iddqd.specs.Store.{Store}
use Rattle.iddqd_keys.specs.KeyWalk.{by_key_then_index}
use Rattle.iddqd_keys.specs.Scan.{itself}

-- the list with the index put before the first one that comes after it, unless it is there already
abbrev pub put_in : (ℕ → ℕ → Ordering) → ℕ → List ℕ → List ℕ
put_in compare ix [] = ix ∷ []
put_in compare ix (j ∷ rest) =
    if is_lt (compare ix j) then ix ∷ j ∷ rest
    else if is_eq (compare ix j) then j ∷ rest
    else j ∷ put_in compare ix rest

-- the indexes in this order
abbrev pub sorted_by : (ℕ → ℕ → Ordering) → List ℕ → List ℕ
sorted_by compare [] = []
sorted_by compare (ix ∷ rest) = put_in compare ix (sorted_by compare rest)

module _ {T : Type 0} where
  -- the live indexes, rising
  abbrev pub live_indexes : Store T → List ℕ
  live_indexes s = map (λ p. p.0) (live_pairs s)

  -- the live indexes whose items are within and come after this one, by the order of the items and then by index
  abbrev pub hits_behind : (T → T → Ordering) → (T → Bool) → Store T → ℕ → List ℕ
  hits_behind order within s ix =
      let behind = by_key_then_index itself order s in
      sorted_by behind (map (λ p. p.0) (filter (λ p. within p.1 && is_lt (behind ix p.0)) (live_pairs s)))

  -- those of any item, by index alone
  abbrev pub live_behind : Store T → ℕ → List ℕ
  live_behind s ix = hits_behind (λ _ _. Equal) (λ _. true) s ix
