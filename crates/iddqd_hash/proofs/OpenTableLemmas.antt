-- What is read of a table with open addressing, and what it keeps.
use lib.Dec.{eqb}
use mir.Val.{bool_byte}
use Rattle.std.proofs.Common.{not, inl, inr, ◌⊎◌, Bool, true, false, cond, ◌≡◌, ◌∙◌, ℕ, zero, suc, ◌+◌, ◌-◌, ◌^◌, ◌<◌, ◌≤◌, List, [], ◌∷◌, Option, Some, None, IfSome, Result, Ok, Err, OnOk, OnErr, length, max, replicate, set, get_or, slice_get, slice_index, count_by, refl, sym, ap, subst, arith}
use Rattle.std.proofs.lemmas.List.{length-set, length-replicate, nil_from_length, get_or_default}
use Rattle.std.proofs.lemmas.List.Sorted.{IsPermutation-refl, length_permutation}
use Rattle.std.specs.List.Sorted.{IsPermutation}
use Rattle.std.proofs.lemmas.Nat.{pow_pos}
use Rattle.std.specs.Option.{option_flatten}
use Rattle.iddqd_hash.specs.Asks.{FindsPlace, HitsPair, Misses}
use Rattle.iddqd_hash.specs.HashTable.{Table, entries, pair_at, under, room, capacity, memory, HasNoMemory, KeepsMemory, UsesRoom}
use Rattle.iddqd_hash.specs.Sizes.{most_cells, Reserves}
use Rattle.iddqd_hash.specs.OpenTable.{tag_of, limit_of, usable_of, is_used, slot_at, hashes_of, pairs, Suits, HasEmpty, IsPowerOfTwo, IsReached, IsProbed, IsSound, table_of}
use Rattle.iddqd_hash.proofs.OpenSlotLemmas.{IsProbed-put, IsProbed-taken, IsProbed-empty, length-put, length-taken, used-set, used_one, used_count, used-cons, unused, pairs-empty, free_slot, IsProbed-rewritten, length-rewritten}

module _ {T : Type 0} (slots : List (Option (ℕ × T))) where
  pub entries-table_of : entries (table_of slots) ≡ pairs slots
  unfolding entries table_of
  entries-table_of = refl

  pub room-table_of : room (table_of slots) ≡ usable_of (length slots) - length (pairs slots)
  unfolding room table_of
  room-table_of = refl

  pub memory-table_of : memory (table_of slots) ≡ length slots
  unfolding memory table_of
  memory-table_of = refl

  pub capacity-table_of :
      length (pairs slots) ≤ usable_of (length slots)
      → capacity (table_of slots) ≡ usable_of (length slots)
  capacity-table_of fits = rw (entries-table_of, room-table_of) (omega arith)

  pub pair_at-table_of : (place : ℕ) → pair_at (table_of slots) place ≡ slot_at slots place
  unfolding pair_at table_of
  pair_at-table_of place = flattened slots place
    where
      flattened :
          (slots : List (Option (ℕ × T))) (place : ℕ)
          → option_flatten (slice_get slots place) ≡ slot_at slots place
      flattened [] place = refl
      flattened (None ∷ slots) zero = refl
      flattened (Some pair ∷ slots) zero = refl
      flattened (slot ∷ slots) (suc place) = flattened slots place

module _
    {T : Type 0} (old new : List (Option (ℕ × T))) (same : length new ≡ length old)
    (fits : length (pairs old) ≤ usable_of (length old))
  where
    pub KeepsMemory-table_of : length (pairs new) ≤ length (pairs old) → KeepsMemory (table_of old) (table_of new)
    KeepsMemory-table_of fewer =
        record {
          room_stays = rw (room-table_of old, room-table_of new, same) (omega arith);
          same_capacity =
              rw (entries-table_of old, entries-table_of new, room-table_of old, room-table_of new, same) (omega arith);
          same_memory = rw (memory-table_of old, memory-table_of new) same;
        }

    pub UsesRoom-table_of :
        length (pairs new) ≡ length (pairs old) + 1
        → length (pairs old) < usable_of (length old)
        → UsesRoom (table_of old) (table_of new)
    UsesRoom-table_of more some =
        record {
          one_less = rw (room-table_of old, room-table_of new, same) (omega arith);
          same_capacity =
              rw (entries-table_of old, entries-table_of new, room-table_of old, room-table_of new, same) (omega arith);
          same_memory = rw (memory-table_of old, memory-table_of new) same;
        }

-- if no pair is left, the room is the capacity
pub KeepsMemory-cleared :
    {T : Type 0} (old new : Table T)
    → KeepsMemory old new
    → entries new ≡ []
    → room new ≡ capacity old
KeepsMemory-cleared old new kept none = omega (arith, kept.same_capacity, ap length none)

pub HasNoMemory-table_of : {T : Type 0} (slots : List (Option (ℕ × T))) → slots ≡ [] → HasNoMemory (table_of slots)
HasNoMemory-table_of slots none =
    record {
      no_room = room-table_of slots ∙ ap (λ xs. usable_of (length xs) - length (pairs xs)) none;
      no_cell = memory-table_of slots ∙ ap length none;
    }

-- a place that is found in slots
pub FindsPlace-table_of :
    {F T : Type 0} (ask : F → T → Bool → F → Type 0) (f : F) (hash : ℕ) (xs : List T) (slots : List (Option (ℕ × T)))
    (r : Option ℕ)
    → FindsPlace ask f hash xs (slot_at slots) r
    → FindsPlace ask f hash xs (pair_at (table_of slots)) r
FindsPlace-table_of ask f hash xs slots None finds = finds
FindsPlace-table_of ask f hash xs slots (Some place) finds =
    subst (λ o. HitsPair ask f hash xs o) (sym (pair_at-table_of slots place)) finds

-- what is said of the pair that it hit, if it hit one
pub IfSome-table_of :
    {T V : Type 0} (value : V → T) (hash : ℕ) (slots : List (Option (ℕ × T))) (r : Option (ℕ × V))
    → IfSome r (λ found. slot_at slots found.0 ≡ Some (hash, value found.1))
    → IfSome r (λ found. pair_at (table_of slots) found.0 ≡ Some (hash, value found.1))
IfSome-table_of value hash slots None is = tt
IfSome-table_of value hash slots (Some found) is = pair_at-table_of slots found.0 ∙ is

-- a look-up in a table without cells
pub Misses-nothing :
    {F T : Type 0} (ask : F → T → Bool → F → Type 0) (f : F) (hash : ℕ) (slots : List (Option (ℕ × T)))
    → length slots ≡ 0
    → Misses ask f (under hash (pairs slots))
Misses-nothing {T} ask f hash slots none =
    rw (nil_from_length slots none) (record { asked = []; each_once = IsPermutation-refl []; last = f; were_refused = refl })

either_counts : (b : Bool) → bool_byte b + cond (not b) 1 0 ≡ 1
either_counts true = refl
either_counts false = refl

-- a cell that is full or marked from now on counts as one more if it was empty
pub was_empty_counts :
    (tags : List ℕ) (place tag : ℕ)
    → place < length tags
    → tag ≡ get_or tags place tag
    → bool_byte (eqb tag 0) + used_count (slice_index tags place) ≡ 1
was_empty_counts tags place tag inside read =
    let is : tag ≡ slice_index tags place = read ∙ get_or_default tags place tag 0 inside in
    ap (λ t. bool_byte (eqb tag 0) + used_count t) (sym is) ∙ either_counts (eqb tag 0)

pub some_empty : (tags : List ℕ) → count_by is_used tags < length tags → HasEmpty tags
some_empty [] less = absurd (omega arith)
some_empty (zero ∷ tags) less = (0, omega arith, refl)
some_empty (suc tag ∷ tags) less =
    let rest = some_empty tags (omega (arith, used-cons (suc tag) tags, used_one (suc tag) (omega arith))) in
    (suc rest.0, omega (arith, rest.1), rest.2)

-- each pair stands in a cell that counts as used
pairs_used :
    {T : Type 0} (tags : List ℕ) (slots : List (Option (ℕ × T)))
    → length slots ≡ length tags
    → ((place : ℕ) → place < length tags → Suits (slice_index tags place) (slot_at slots place))
    → length (pairs slots) ≤ count_by is_used tags
pairs_used [] [] same suited = omega arith
pairs_used [] (slot ∷ slots) same suited = absurd (omega arith)
pairs_used (tag ∷ tags) [] same suited = absurd (omega arith)
pairs_used {T} (tag ∷ tags) (slot ∷ slots) same suited =
    by_slot slot (suited 0 (omega arith)) (used-cons tag tags) (pairs_used tags slots (omega arith) (λ place below. suited (suc place) (omega arith)))
  where
    by_slot :
        (slot : Option (ℕ × T))
        → Suits tag slot
        → count_by is_used (tag ∷ tags) ≡ used_count tag + count_by is_used tags
        → length (pairs slots) ≤ count_by is_used tags
        → length (pairs (slot ∷ slots)) ≤ count_by is_used (tag ∷ tags)
    by_slot None is counts rest = omega (arith, counts, rest)
    by_slot (Some pair) is counts rest =
        let some : 0 < tag = omega arith in
        let one : used_count tag ≡ 1 = used_one tag some in
        omega (arith, counts, rest)

-- if there are cells
module _
    {T : Type 0} (tags : List ℕ) (slots : List (Option (ℕ × T))) (len used : ℕ) (sound : IsSound tags slots len used)
  where
    pub power_from : 0 < length tags → IsPowerOfTwo (length tags)
    power_from some = elim sound.count [ inl none ↦ absurd (omega arith) | inr power ↦ power ]

    pub empty_from : 0 < length tags → HasEmpty tags
    empty_from some = some_empty tags (omega (arith, sound.marked, sound.limited))

    -- not more pairs stand in the cells than may
    pub fits_from : length (pairs slots) ≤ usable_of (length slots)
    fits_from = rw sound.probed.same_length (omega (arith, sound.counted, sound.fits))

    -- if there is room, the cells have fewer pairs than they may
    pub room_of : 1 ≤ room (table_of slots) → len < usable_of (length tags)
    room_of some =
        let more : 1 ≤ usable_of (length slots) - length (pairs slots) = rw room-table_of at some in
        omega (arith, more, sound.counted, sound.probed.same_length)

    -- if no cell is full or marked, there is no pair
    pub unused_empty : used ≡ 0 → pairs slots ≡ []
    unused_empty none =
        nil_from_length (pairs slots) (omega (arith, sound.marked, pairs_used tags slots sound.probed.same_length sound.probed.suited))

module _ {T : Type 0} where
  pub IsSound-none :
      (tags : List ℕ) (slots : List (Option (ℕ × T)))
      → tags ≡ []
      → slots ≡ []
      → IsSound tags slots 0 0
  IsSound-none tags slots no_tag no_slot = rw (no_tag, no_slot) nothing
    where
      nothing : IsSound {T = T} [] [] 0 0
      nothing =
          record {
            count = inl refl;
            probed = IsProbed-empty 0;
            counted = refl;
            fits = omega arith;
            marked = refl;
            limited = omega arith;
          }

  module _ (tags : List ℕ) (slots : List (Option (ℕ × T))) (len used : ℕ) (sound : IsSound tags slots len used) where
    same_power : (place tag : ℕ) → (length (set tags place tag) ≡ 0) ⊎ IsPowerOfTwo (length (set tags place tag))
    same_power place tag = rw (length-set tags place tag) sound.count

    -- a pair that was taken out, and the mark that it left
    pub IsSound-taken :
        (place : ℕ) (pair : ℕ × T)
        → place < length tags
        → slot_at slots place ≡ Some pair
        → IsSound (set tags place 1) (set slots place None) (len - 1) used
    IsSound-taken place pair inside full =
        let within : place < length slots = omega (arith, sound.probed.same_length) in
        let fewer = length-taken slots place pair within full in
        let suits : slice_index tags place ≡ tag_of pair.0 =
        subst (λ o. Suits (slice_index tags place) o) full (sound.probed.suited place inside) in
        let was : used_count (slice_index tags place) ≡ 1 = used_one (slice_index tags place) (omega arith) in
        let counts = used-set tags place 1 inside in
        record {
          count = same_power place 1;
          probed = IsProbed-taken tags slots sound.probed place inside;
          counted = omega (arith, sound.counted);
          fits = omega (arith, sound.fits, length-set tags place 1);
          marked = omega (arith, sound.marked);
          limited = omega (arith, sound.limited, length-set tags place 1);
        }

    -- a pair that was put into a free cell, which was empty or marked
    pub IsSound-put :
        (place hash : ℕ) (value : T) (now : ℕ)
        → place < length tags
        → slice_index tags place < 128
        → IsReached tags hash place
        → now + used_count (slice_index tags place) ≡ used + 1
        → now ≤ limit_of (length tags)
        → len < usable_of (length tags)
        → IsSound (set tags place (tag_of hash)) (set slots place (Some (hash, value))) (len + 1) now
    IsSound-put place hash value now inside small reached counts limited some =
        let within : place < length slots = omega (arith, sound.probed.same_length) in
        let free : slot_at slots place ≡ None =
        free_slot (slice_index tags place) (slot_at slots place) (sound.probed.suited place inside) small in
        let more = length-put slots place (hash, value) within free in
        let is : used_count (tag_of hash) ≡ 1 = used_one (tag_of hash) (omega arith) in
        let counted = used-set tags place (tag_of hash) inside in
        record {
          count = same_power place (tag_of hash);
          probed = IsProbed-put tags slots sound.probed place inside hash value reached;
          counted = omega (arith, sound.counted);
          fits = rw (length-set tags place (tag_of hash)) (omega arith);
          marked = omega (arith, sound.marked);
          limited = rw (length-set tags place (tag_of hash)) limited;
        }

  -- what is left after some pairs were taken out, with marks in their places
  pub IsSound-retained :
      (tags now_tags : List ℕ) (slots now_slots : List (Option (ℕ × T))) (len used removed : ℕ)
      → IsSound tags slots len used
      → length now_tags ≡ length tags
      → IsProbed now_tags now_slots
      → count_by is_used now_tags ≡ count_by is_used tags
      → removed + length (pairs now_slots) ≡ length (pairs slots)
      → IsSound now_tags now_slots (len - removed) used
  IsSound-retained tags now_tags slots now_slots len used removed sound same probed marked counted =
      record {
        count = rw same sound.count;
        probed = probed;
        counted = omega (arith, sound.counted);
        fits = rw same (omega (arith, sound.fits));
        marked = sound.marked ∙ sym marked;
        limited = rw same sound.limited;
      }

  -- a table with the pairs that it had, after they were placed anew
  pub IsSound-placed :
      (tags : List ℕ) (slots : List (Option (ℕ × T))) (len : ℕ)
      → IsPowerOfTwo (length tags)
      → IsProbed tags slots
      → count_by is_used tags ≡ length (pairs slots)
      → len ≡ length (pairs slots)
      → len ≤ usable_of (length tags)
      → IsSound tags slots len len
  IsSound-placed tags slots len power probed marked counted fits =
      record {
        count = inr power;
        probed = probed;
        counted = counted;
        fits = fits;
        marked = counted ∙ sym marked;
        limited = omega (arith, fits);
      }

  -- a table with the pairs that it had, in the same cells, fewer of which are full or marked than may
  pub IsSound-rebuilt :
      (tags now_tags : List ℕ) (slots now_slots : List (Option (ℕ × T))) (len used now : ℕ)
      → IsSound tags slots len used
      → length now_tags ≡ length tags
      → IsProbed now_tags now_slots
      → IsPermutation (pairs slots) (pairs now_slots)
      → now ≡ count_by is_used now_tags
      → now < limit_of (length tags)
      → IsSound now_tags now_slots len now
  IsSound-rebuilt tags now_tags slots now_slots len used now sound same probed moved marked limited =
      record {
        count = rw same sound.count;
        probed = probed;
        counted = omega (arith, sound.counted, length_permutation _ _ moved);
        fits = rw same sound.fits;
        marked = marked;
        limited = rw same (omega (arith, limited));
      }

  -- cells that are all empty
  pub IsSound-cleared :
      (tags now_tags : List ℕ) (slots now_slots : List (Option (ℕ × T))) (len used : ℕ)
      → IsSound tags slots len used
      → now_tags ≡ replicate (length tags) 0
      → now_slots ≡ replicate (length tags) None
      → IsSound now_tags now_slots 0 0
  IsSound-cleared tags now_tags slots now_slots len used sound no_tag no_pair =
      rw (no_tag, no_pair)
      (record {
        count = rw (length-replicate {A = ℕ} (length tags) 0) sound.count;
        probed = IsProbed-empty (length tags);
        counted = sym (ap length (pairs-empty (length tags)));
        fits = omega arith;
        marked = sym (unused (length tags));
        limited = omega arith;
      })

  -- slots with other values under the same hashes
  pub IsSound-rewritten :
      (tags : List ℕ) (slots now : List (Option (ℕ × T))) (len used : ℕ)
      → IsSound tags slots len used
      → hashes_of now ≡ hashes_of slots
      → IsSound tags now len used
  IsSound-rewritten tags slots now len used sound same =
      record {
        count = sound.count;
        probed = IsProbed-rewritten tags slots now sound.probed same;
        counted = sound.counted ∙ sym (length-rewritten slots now same);
        fits = sound.fits;
        marked = sound.marked;
        limited = sound.limited;
      }

pub pow_some : (k : ℕ) → 0 < 2 ^ k
pow_some k = pow_pos k

-- a table whose pairs were placed anew, since there was less room than was asked for
pub Reserves-placed :
    {T A E : Type 0} (additional : ℕ) (old new : Table T) (r : Result A E) (usable count : ℕ)
    → room old < additional
    → additional ≤ usable - length (entries old)
    → memory old ≤ count
    → count ≤ most_cells (length (entries old) + additional)
    → OnErr r (new ≡ old)
    → OnOk r (room new ≡ usable - length (entries old))
    → OnOk r (memory new ≡ count)
    → Reserves additional old r new
Reserves-placed additional old new (Ok x) usable count short enough more few refused roomy cells =
    record {
      reserved = omega arith;
      refused = tt;
      had_room = λ had. absurd (omega arith);
      room_stays = omega arith;
      memory_stays = omega arith;
      few = omega arith;
    }
Reserves-placed additional old new (Err e) usable count short enough more few refused roomy cells =
    record {
      reserved = tt;
      refused = refused;
      had_room = λ had. absurd (omega arith);
      room_stays = subst (λ t. room old ≤ room t) (sym refused) (omega arith);
      memory_stays = subst (λ t. memory old ≤ memory t) (sym refused) (omega arith);
      few =
          subst (λ t. memory t ≤ max (memory old) (most_cells (length (entries old) + additional))) (sym refused) (omega arith);
    }
