-- A pair that is added to a table with open addressing, which is rebuilt first if it has to be.
use lib.Dec.{eqb}
use mir.Val.{bool_byte}
use Rattle.std.proofs.Common.{◌≡◌, ◌∙◌, ℕ, ◌+◌, ◌^◌, ◌<◌, ◌≤◌, Bool, List, ◌∷◌, Option, Some, None, length, set, get_or, slice_index, count_by, Fits, w64, refl, sym, ap, arith}
use Rattle.std.proofs.lemmas.List.{with_items_is, get_or-set_same, length-set}
use Rattle.std.proofs.lemmas.List.Sorted.{IsPermutation-trans, IsPermutation-cons, length_permutation}
use Rattle.std.specs.List.Sorted.{IsPermutation}
use Rattle.std.specs.Vec.{with_items, vec_len}
use Rattle.std.specs.Global.{Vec}
use Rattle.iddqd_hash.specs.HashTable.{Table, entries, room, pair_at, UsesRoom}
use Rattle.iddqd_hash.specs.OpenTable.{tag_of, limit_of, usable_of, is_used, slots_of, slot_at, pairs, table_of, IsFree, IsPowerOfTwo, HasEmpty, IsProbed, IsSound}
use Rattle.iddqd_hash.specs.OpenRebuild.{IsPastFull}
use Rattle.iddqd_hash.proofs.OpenCellLemmas.{cells_long}
use Rattle.iddqd_hash.proofs.OpenPastFullLemmas.{IsReached-past_full}
use Rattle.iddqd_hash.proofs.OpenSlotLemmas.{pairs-put, free_slot, used_count}
use Rattle.iddqd_hash.proofs.OpenTableLemmas.{IsSound-rebuilt, IsSound-put, entries-table_of, pair_at-table_of, power_from, empty_from, fits_from, room_of, was_empty_counts, UsesRoom-table_of}

-- a table, and the same table after it was rebuilt, if it had to be
pub record Roomy
    {T : Type 0} (tags : List ℕ) (slots : List (Option (ℕ × T))) (len : ℕ) (now_tags : List ℕ)
    (now_slots : List (Option (ℕ × T))) (now : ℕ)
    : Type 0 where
  pub same : length now_tags ≡ length tags
  pub sound : IsSound now_tags now_slots len now
  pub moved : IsPermutation (pairs slots) (pairs now_slots)
  pub limited : now < limit_of (length tags)
  pub room : len < usable_of (length tags)

module _ {T : Type 0} where
  pub Roomy-rebuilt :
      (tags now_tags : List ℕ) (slots now_slots : List (Option (ℕ × T))) (len used now : ℕ)
      → IsSound tags slots len used
      → len < usable_of (length tags)
      → length now_tags ≡ length tags
      → IsProbed now_tags now_slots
      → IsPermutation (pairs slots) (pairs now_slots)
      → now ≡ count_by is_used now_tags
      → now < limit_of (length tags)
      → Roomy tags slots len now_tags now_slots now
  Roomy-rebuilt tags now_tags slots now_slots len used now sound room same probed moved marked limited =
      record {
        same = same;
        sound = IsSound-rebuilt tags now_tags slots now_slots len used now sound same probed moved marked limited;
        moved = moved;
        limited = limited;
        room = room;
      }

  module _
      (tags now_tags : List ℕ) (slots now_slots : List (Option (ℕ × T))) (len now : ℕ)
      (roomy : Roomy tags slots len now_tags now_slots now) (place hash : ℕ) (value : T) (free : IsFree now_tags place)
    where
      pub add-free : slot_at now_slots place ≡ None
      add-free =
          free_slot (slice_index now_tags place) (slot_at now_slots place) (roomy.sound.probed.suited place free.within) free.free

      pub add-within : place < length now_slots
      add-within = omega (arith, free.within, roomy.sound.probed.same_length)

      pub add-sound :
          IsPastFull now_tags hash place
          → (after : ℕ)
          → after + used_count (slice_index now_tags place) ≡ now + 1
          → IsSound (set now_tags place (tag_of hash)) (set now_slots place (Some (hash, value))) (len + 1) after
      add-sound walk after counts =
          IsSound-put now_tags now_slots len now roomy.sound place hash value after free.within free.free (IsReached-past_full now_tags hash place walk) counts
          (rw roomy.same (omega (arith, roomy.limited, counts))) (rw roomy.same roomy.room)

      pub add-pairs : IsPermutation ((hash, value) ∷ pairs slots) (pairs (set now_slots place (Some (hash, value))))
      add-pairs =
          IsPermutation-trans _ _ _ (IsPermutation-cons (hash, value) _ _ roomy.moved) (pairs-put now_slots place (hash, value) add-within add-free)

      pub add-counted : length (pairs (set now_slots place (Some (hash, value)))) ≡ length (pairs slots) + 1
      add-counted = omega (arith, length_permutation _ _ add-pairs)

-- `add` of a table: its vectors, their slices, and what is written there
module _
    {C T : Type 0} (slot : Bool → C → Option (ℕ × T)) (tags : Vec ℕ) (cells : Vec C) (len used : ℕ)
    (sound : IsSound tags.items (slots_of slot tags.items cells.items) len used)
    (some : 1 ≤ room (table_of (slots_of slot tags.items cells.items)))
  where
    few : len < usable_of (length tags.items)
    few = room_of _ _ _ _ sound some

    pub add-power : (read : List ℕ) → read ≡ tags.items → IsPowerOfTwo (length read)
    add-power read is = rw is (power_from _ _ _ _ sound (let less : len < usable_of (length tags.items) = few in omega arith))

    pub add-fits : (read : List ℕ) → read ≡ tags.items → len < limit_of (length read)
    add-fits read is = rw is (let less : len < usable_of (length tags.items) = few in omega arith)

    -- the table was rebuilt, if it had to be
    pub record Rebuilt (now_tags : List ℕ) (now_cells : List C) (now : ℕ) : Type 0 where
      pub tags_are : (with_items tags now_tags).items ≡ now_tags
      pub cells_are : (with_items cells now_cells).items ≡ now_cells
      pub roomy :
          Roomy tags.items (slots_of slot tags.items cells.items) len now_tags (slots_of slot now_tags now_cells)
          now

    pub Rebuilt-by :
        (read_tags : List ℕ) (read_cells : List C) (now_tags : List ℕ) (now_cells : List C) (now : ℕ)
        → read_tags ≡ tags.items
        → length read_tags ≡ vec_len tags
        → read_cells ≡ cells.items
        → length read_cells ≡ vec_len cells
        → length now_tags ≡ length read_tags
        → length now_cells ≡ length read_cells
        → IsPermutation (pairs (slots_of slot read_tags read_cells)) (pairs (slots_of slot now_tags now_cells))
        → IsProbed now_tags (slots_of slot now_tags now_cells)
        → now ≡ count_by is_used now_tags
        → now < limit_of (length read_tags)
        → Rebuilt now_tags now_cells now
    Rebuilt-by read_tags read_cells now_tags now_cells now tags-is tags-long cells-is cells-long long-tags long-cells moved probed marked limited =
        record {
          tags_are = with_items_is tags now_tags (long-tags ∙ tags-long);
          cells_are = with_items_is cells now_cells (long-cells ∙ cells-long);
          roomy =
              Roomy-rebuilt _ _ _ _ _ _ _ sound few (long-tags ∙ ap length tags-is) probed (rw (tags-is, cells-is) at moved) marked (rw tags-is at limited);
        }

    module _ (now_tags : List ℕ) (now_cells : List C) (now : ℕ) (state : Rebuilt now_tags now_cells now) where
      any : 0 < length now_tags
      any = let less : len < usable_of (length tags.items) = few in omega (arith, state.roomy.same)

      pub add-power-now : (read : List ℕ) → read ≡ (with_items tags now_tags).items → IsPowerOfTwo (length read)
      add-power-now read is = rw (is, state.tags_are) (power_from _ _ _ _ state.roomy.sound any)

      pub add-ends : (read : List ℕ) → read ≡ (with_items tags now_tags).items → HasEmpty read
      add-ends read is = rw (is, state.tags_are) (empty_from _ _ _ _ state.roomy.sound any)

      pub add-len-fits :
          (read : List ℕ)
          → read ≡ (with_items tags now_tags).items
          → length read < 2 ^ 64
          → Fits w64 (len + 1)
      add-len-fits read is within =
          let less : len < usable_of (length tags.items) = few in
          omega (arith, state.roomy.same, ap length (is ∙ state.tags_are))

      -- at a place that isn't full, whose tag was read
      module _
          (place hash : ℕ) (value : T) (read : List ℕ) (read-is : read ≡ (with_items tags now_tags).items)
          (free_read : IsFree read place)
        where
          free : IsFree now_tags place
          free = rw (read-is, state.tags_are) at free_read

          module _ (tag : ℕ) (tag-is : tag ≡ get_or (with_items tags now_tags).items place tag) where
            counts : bool_byte (eqb tag 0) + used_count (slice_index now_tags place) ≡ 1
            counts = was_empty_counts now_tags place tag free.within (rw state.tags_are at tag-is)

            pub add-used-fits : length read < 2 ^ 64 → Fits w64 (now + bool_byte (eqb tag 0))
            add-used-fits within = omega (arith, counts, state.roomy.limited, state.roomy.same, ap length (read-is ∙ state.tags_are))

          -- the slices to which the pair is written
          module _
              (old_tags : List ℕ) (old_cells : List C) (old_tags-is : old_tags ≡ (with_items tags now_tags).items)
              (old_cells-is : old_cells ≡ (with_items cells now_cells).items)
            where
              pub put-long : length old_cells ≡ length old_tags
              put-long =
                  rw (old_tags-is, old_cells-is, state.tags_are, state.cells_are)
                  (sym (cells_long slot now_tags now_cells) ∙ state.roomy.sound.probed.same_length)

              pub put-free : slot_at (slots_of slot old_tags old_cells) place ≡ None
              put-free =
                  rw (old_tags-is, old_cells-is, state.tags_are, state.cells_are)
                  (add-free _ _ _ _ _ _ state.roomy place hash value free)

              module _
                  (put_tags : List ℕ) (put_cells : List C) (tags-long : length put_tags ≡ length old_tags)
                  (was-long : length old_tags ≡ vec_len (with_items tags now_tags))
                  (cells-long : length put_cells ≡ length old_cells)
                  (cells-were-long : length old_cells ≡ vec_len (with_items cells now_cells))
                  (put_tags-is : put_tags ≡ set old_tags place (tag_of hash))
                  (put_slots-is :
                  slots_of slot put_tags put_cells
                  ≡ set (slots_of slot old_tags old_cells) place (Some (hash, value)))
                where
                  end_tags : Vec ℕ
                  end_tags = with_items (with_items tags now_tags) put_tags

                  end_cells : Vec C
                  end_cells = with_items (with_items cells now_cells) put_cells

                  end_tags-are :
                      (with_items (with_items tags now_tags) put_tags).items
                      ≡ set now_tags place (tag_of hash)
                  end_tags-are =
                      with_items_is (with_items tags now_tags) put_tags (tags-long ∙ was-long) ∙ put_tags-is
                      ∙ ap (λ xs. set xs place (tag_of hash)) (old_tags-is ∙ state.tags_are)

                  end_slots-are :
                      slots_of slot (with_items (with_items tags now_tags) put_tags).items
                      (with_items (with_items cells now_cells) put_cells).items
                      ≡ set (slots_of slot now_tags now_cells) place (Some (hash, value))
                  end_slots-are =
                      rw (with_items_is (with_items tags now_tags) put_tags (tags-long ∙ was-long), with_items_is (with_items cells now_cells) put_cells (cells-long ∙ cells-were-long), put_slots-is, old_tags-is, old_cells-is, state.tags_are, state.cells_are)
                      refl

                  pub put-sound :
                      IsPastFull read hash place
                      → (tag : ℕ)
                      → tag ≡ get_or (with_items tags now_tags).items place tag
                      → IsSound (with_items (with_items tags now_tags) put_tags).items
                      (slots_of slot (with_items (with_items tags now_tags) put_tags).items (with_items (with_items cells now_cells) put_cells).items)
                      (len + 1)
                      (now + bool_byte (eqb tag 0))
                  put-sound walk tag tag-is =
                      rw (end_slots-are, end_tags-are)
                      (add-sound _ _ _ _ _ _ state.roomy place hash value free (rw (read-is, state.tags_are) at walk) _ (omega (arith, counts tag tag-is)))

                  pub put-pair :
                      pair_at (table_of (slots_of slot (with_items (with_items tags now_tags) put_tags).items (with_items (with_items cells now_cells) put_cells).items))
                      place
                      ≡ Some (hash, value)
                  put-pair =
                      rw (pair_at-table_of, end_slots-are)
                      (get_or-set_same (slots_of slot now_tags now_cells) place _ None (add-within _ _ _ _ _ _ state.roomy place hash value free))

                  pub put-entries :
                      (old : Table T)
                      → old ≡ table_of (slots_of slot tags.items cells.items)
                      → IsPermutation ((hash, value) ∷ entries old)
                      (entries (table_of (slots_of slot (with_items (with_items tags now_tags) put_tags).items (with_items (with_items cells now_cells) put_cells).items)))
                  put-entries old is =
                      rw (is, entries-table_of, entries-table_of, end_slots-are)
                      (add-pairs _ _ _ _ _ _ state.roomy place hash value free)

                  pub put-memory :
                      (old : Table T)
                      → old ≡ table_of (slots_of slot tags.items cells.items)
                      → UsesRoom old
                      (table_of (slots_of slot (with_items (with_items tags now_tags) put_tags).items (with_items (with_items cells now_cells) put_cells).items))
                  put-memory old is =
                      let long : length (slots_of slot now_tags now_cells) ≡ length (slots_of slot tags.items cells.items) =
                      omega (arith, state.roomy.same, state.roomy.sound.probed.same_length, sound.probed.same_length) in
                      let more = add-counted _ _ _ _ _ _ state.roomy place hash value free in
                      rw is
                      (UsesRoom-table_of _ _ (ap length end_slots-are ∙ length-set (slots_of slot now_tags now_cells) place _ ∙ long) (fits_from _ _ _ _ sound) (rw end_slots-are more) (omega (arith, state.roomy.room, sound.counted, sound.probed.same_length)))
