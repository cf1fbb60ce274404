-- The links of the indexes of a table. A link has the hash of its index, and the next and the previous index under that
-- hash: its neighbours.
use Rattle.std.specs.Prelude.{◌≡◌, ◌≢◌, ◌==◌, ◌↔◌, ◌<◌, ◌≤◌, ℕ, zero, suc, List, [], ◌∷◌, Some, if◌then◌else◌, slice_index_or, IsSome, length, nat_eq}
use Rattle.std.specs.List.{Contains, IsDistinct}
use Rattle.std.specs.Ordering.{nat_cmp}
use Rattle.std.specs.FinMap as finite
use Rattle.std.specs.FinMap.{FinMap}
use Rattle.iddqd.specs.Store.{sentinel}
use Rattle.iddqd_hash.specs.MapHashTable.{Renames}
use Rattle.iddqd_groups.specs.declared.linked_table.links.Link.{Link}

-- The link of an index that isn't in the table has that index itself as the previous one.
abbrev pub absent_link : ℕ → Link
absent_link ix = record { hash = 0; next = sentinel; prev = ix }

-- the indexes that are in the table, each with its hash; `links` are the links from index `at` on
abbrev pub hashed_from : ℕ → List Link → List (ℕ × ℕ)
hashed_from at [] = []
hashed_from at (l ∷ links) =
    if l.prev == at then hashed_from (suc at) links
    else (at, l.hash) ∷ hashed_from (suc at) links

-- the hash of each index that is in the table
unfoldable pub filed_by : List Link → FinMap nat_cmp ℕ
filed_by links = finite.from_sorted (hashed_from 0 links)

-- the next index under the same hash, or `SENTINEL` if there is none; `SENTINEL` too for an index without a link
abbrev pub next_of : List Link → ℕ → ℕ
next_of links ix = (slice_index_or links ix (absent_link ix)).next

-- the previous index under the same hash, or `SENTINEL` if there is none; for an index not in the table, that index
abbrev pub prev_of : List Link → ℕ → ℕ
prev_of links ix = (slice_index_or links ix (absent_link ix)).prev

-- the indexes from `ix` on along `next`, at most `most` of them
abbrev pub chain : (ℕ → ℕ) → ℕ → ℕ → List ℕ
chain next zero ix = []
chain next (suc most) ix = if ix == sentinel then [] else ix ∷ chain next most (next ix)

-- the chain from `ix` ends after at most `most` indexes, and each of them is below `bound`
abbrev pub EndsWithin : (ℕ → ℕ) → ℕ → ℕ → ℕ → Type 0
EndsWithin next bound zero ix = ix ≡ sentinel
EndsWithin next bound (suc most) ix = ix ≢ sentinel → (ix < bound) × EndsWithin next bound most (next ix)

-- Each index has a depth, which grows from each to the next, so no chain is a cycle.
pub record IsAcyclic (filed : FinMap nat_cmp ℕ) (next : ℕ → ℕ) : Type 0 where
  pub depth : ℕ → ℕ
  pub top : ℕ
  pub below : (ix : ℕ) → IsSome (finite.get filed ix) → depth ix < top
  pub rises : (ix : ℕ) → IsSome (finite.get filed ix) → next ix ≢ sentinel → depth ix < depth (next ix)

-- if an index leads to another one, that one has the same hash and leads back
abbrev pub LeadsBack : FinMap nat_cmp ℕ → (ℕ → ℕ) → (ℕ → ℕ) → Type 0
LeadsBack filed there back =
    (ix hash : ℕ) → finite.get filed ix ≡ Some hash → there ix ≢ sentinel
    → (finite.get filed (there ix) ≡ Some hash) × (back (there ix) ≡ ix)

-- The indexes are linked in chains, each under one hash, and no chain is a cycle.
pub record IsChained (filed : FinMap nat_cmp ℕ) (next prev : ℕ → ℕ) : Type 0 where
  pub forth : LeadsBack filed next prev
  pub back : LeadsBack filed prev next
  pub acyclic : IsAcyclic filed next
  pub not_sentinel : (ix : ℕ) → IsSome (finite.get filed ix) → ix ≢ sentinel

-- The heads are the indexes that have no previous one, and no two have the same hash. So all indexes with a hash are
-- one chain.
pub record AreHeads (heads filed : FinMap nat_cmp ℕ) (next prev : ℕ → ℕ) : Type 0 where
  pub chained : IsChained filed next prev
  pub firsts :
      (ix hash : ℕ) → finite.get heads ix ≡ Some hash ↔ ((finite.get filed ix ≡ Some hash) × (prev ix ≡ sentinel))
  pub one_head : (i j hash : ℕ) → finite.get heads i ≡ Some hash → finite.get heads j ≡ Some hash → i ≡ j

-- what `next` becomes when `ix` is linked between `head` and `follower`
abbrev pub next_behind : ℕ → ℕ → ℕ → (ℕ → ℕ) → ℕ → ℕ
next_behind head ix follower next j = if j == head then ix else if j == ix then follower else next j

-- what `prev` becomes when `ix` is linked between `head` and `follower`
abbrev pub prev_behind : ℕ → ℕ → ℕ → (ℕ → ℕ) → ℕ → ℕ
prev_behind head ix follower prev j = if j == follower then ix else if j == ix then head else prev j

-- the heads after one of them was removed: the index that followed it takes its place, if one did
abbrev pub heads_after : FinMap nat_cmp ℕ → ℕ → ℕ → ℕ → FinMap nat_cmp ℕ
heads_after heads head hash follower =
    if follower == sentinel then finite.remove heads head
    else finite.insert (finite.remove heads head) follower hash

-- The neighbours of each index in the table are in the table, or `SENTINEL`. No index in the table is `SENTINEL`, or
-- its own previous one.
pub record AreNeighbours (filed : FinMap nat_cmp ℕ) (next prev : ℕ → ℕ) : Type 0 where
  pub nexts : (ix : ℕ) → IsSome (finite.get filed ix) → next ix ≢ sentinel → IsSome (finite.get filed (next ix))
  pub prevs : (ix : ℕ) → IsSome (finite.get filed ix) → prev ix ≢ sentinel → IsSome (finite.get filed (prev ix))
  pub others : (ix : ℕ) → IsSome (finite.get filed ix) → prev ix ≢ ix
  pub not_sentinel : (ix : ℕ) → IsSome (finite.get filed ix) → ix ≢ sentinel

-- the new name of a neighbour; `SENTINEL`, which stands for none, stays
abbrev pub renamed : (ℕ → ℕ) → ℕ → ℕ
renamed name ix = if ix == sentinel then sentinel else name ix

-- Each index was given its new name, with its hash and the new names of its neighbours, and `new` has no other index.
pub record RenamesLinks (name : ℕ → ℕ) (old new : List Link) : Type 0 where
  pub filed : Renames name (filed_by old) (filed_by new)
  pub nexts :
      (ix : ℕ) → IsSome (finite.get (filed_by old) ix) → next_of new (name ix) ≡ renamed name (next_of old ix)
  pub prevs :
      (ix : ℕ) → IsSome (finite.get (filed_by old) ix) → prev_of new (name ix) ≡ renamed name (prev_of old ix)

-- an iterator along the links that goes on at `at` comes to an end, and at most `most` indexes are left
pub record IsWalk (links : List Link) (at most : ℕ) : Type 0 where
  pub ends : EndsWithin (next_of links) (length links) (length links) at
  pub counted : length (chain (next_of links) (length links) at) ≤ most
  pub few : most ≤ sentinel

-- the list has exactly the indexes under the hash, each once, in any order
pub record AreUnder (filed : FinMap nat_cmp ℕ) (hash : ℕ) (indexes : List ℕ) : Type 0 where
  pub each : (ix : ℕ) → Contains indexes ix ↔ (finite.get filed ix ≡ Some hash)
  pub once : IsDistinct nat_eq indexes
