-- What a contract sees of a table of indexes under hashes, where many indexes may share a hash.
use Rattle.std.specs.Prelude.{◌≡◌, ◌+◌, ◌≤◌, ℕ, List, length, map, min, max, refl, slice_index_or}
use Rattle.std.specs.Coded.{Coded, code_by, coded×, coded_list, coded_ℕ}
use Rattle.std.specs.Ordering.{nat_cmp}
use Rattle.std.specs.FinMap as finite
use Rattle.std.specs.FinMap.{FinMap}
use Rattle.iddqd.specs.Store.{sentinel}
use Rattle.iddqd_hash.specs.OpenTableSizes.{least_cells}
use Rattle.iddqd_hash.specs.Sizes.{most_cells}
use Rattle.iddqd_groups.specs.Links.{chain, filed_by, next_of, prev_of, AreHeads}
use Rattle.iddqd_groups.specs.declared.linked_table.links.Link.{Link}

-- What a table has.
pub record LinkedState : Type 0 where
  -- the hash of each index
  pub filed : FinMap nat_cmp ℕ
  -- the next index of each index under the same hash, by index, or `SENTINEL` if there is none
  pub nexts : List ℕ
  -- the length of the array of links: link i belongs to index i, whether or not that index is in the table
  pub slots : ℕ
  -- how many indexes it can hold without more memory
  pub capacity : ℕ
  -- how many cells and links its memory holds
  pub memory : ℕ

-- the state is coded as the tuple of its fields
abbrev pub linked_code : Coded LinkedState
linked_code =
    code_by
    (FinMap nat_cmp ℕ × (List ℕ × (ℕ × (ℕ × ℕ))))
    (coded× (finite.code coded_ℕ coded_ℕ) (coded× (coded_list coded_ℕ) (coded× coded_ℕ (coded× coded_ℕ coded_ℕ))))
    (λ t. (t.filed, (t.nexts, (t.slots, (t.capacity, t.memory)))))
    (λ p. record { filed = p.0; nexts = p.1.0; slots = p.1.1.0; capacity = p.1.1.1.0; memory = p.1.1.1.1 })
    (λ _. refl)

-- the next index of each index that has one of these links
abbrev pub nexts_of : List Link → List ℕ
nexts_of links = map (λ l. l.next) links

-- the indexes that come behind an index under its hash, in the order of an iteration
abbrev pub behind : LinkedState → ℕ → List ℕ
behind t ix =
    let next = λ (j : ℕ). slice_index_or t.nexts j sentinel in
    chain next (length t.nexts) (next ix)

-- the most that a table takes for `count` indexes: cells for as many heads, and a link each
abbrev pub most_linked : ℕ → ℕ
most_linked count = most_cells count + count

-- the most that a shrink leaves, with `slots` links and `count` heads
abbrev pub kept_linked : ℕ → ℕ → ℕ
kept_linked slots count = most_cells count + slots

-- the least that `count` heads and `slots` links need
abbrev pub needed_linked : ℕ → ℕ → ℕ
needed_linked slots count = least_cells count + slots

-- how many indexes a table can still hold after a shrink to `least`
abbrev pub kept_room : LinkedState → ℕ → ℕ
kept_room t least = min t.capacity (max least (finite.len t.filed))

-- no memory was taken or given back
pub record KeepsLinkMemory (old new : LinkedState) : Type 0 where
  pub same_capacity : new.capacity ≡ old.capacity
  pub same_memory : new.memory ≡ old.memory

-- the indexes that are in a table by these links form chains, and `heads` has the first index of each chain
abbrev pub AreHeadsOf : FinMap nat_cmp ℕ → List Link → Type 0
AreHeadsOf heads links = AreHeads heads (filed_by links) (next_of links) (prev_of links)

-- the invariant of a table; its memory can hold `most` heads
pub record IsLinkedTable (heads : FinMap nat_cmp ℕ) (most : ℕ) (links : List Link) (len : ℕ) : Type 0 where
  pub linked : AreHeadsOf heads links
  pub counted : len ≡ finite.len (filed_by links)
  pub roomy : len ≤ most
  pub small : length links ≤ sentinel
