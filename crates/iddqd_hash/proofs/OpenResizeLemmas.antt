-- What the calls that write to the vectors of a table leave: `resize` moves all pairs into new vectors; `retain` and
-- `rewrite` write to the slices of the old ones.
use Rattle.std.proofs.Common.{◌≡◌, ◌∙◌, ℕ, ◌+◌, ◌-◌, ◌*◌, ◌/◌, ◌≤◌, Bool, List, Option, length, count_by, sym, ap, arith}
use Rattle.std.proofs.lemmas.List.{with_items_is}
use Rattle.std.proofs.lemmas.List.Sorted.{length_permutation}
use Rattle.std.specs.List.Sorted.{IsPermutation}
use Rattle.std.specs.Vec.{with_items, vec_len}
use Rattle.std.specs.Global.{Vec}
use Rattle.iddqd_hash.specs.Asks.{RetainsPairs, RetainsPairsTo}
use Rattle.iddqd_hash.specs.HashTable.{Table, entries, room, memory, Rewrites, KeepsMemory}
use Rattle.iddqd_hash.specs.OpenTable.{usable_of, is_used, slots_of, pairs, hashes_of, table_of, IsPowerOfTwo, IsProbed, IsSound}
use Rattle.iddqd_hash.proofs.OpenCellLemmas.{cells_long}
use Rattle.iddqd_hash.proofs.OpenSlotLemmas.{length-rewritten}
use Rattle.iddqd_hash.proofs.OpenTableLemmas.{entries-table_of, room-table_of, memory-table_of, fits_from, IsSound-placed, IsSound-retained, IsSound-rewritten, KeepsMemory-table_of}

module _
    {C T : Type 0} (slot : Bool → C → Option (ℕ × T)) (tags : Vec ℕ) (cells : Vec C) (len used : ℕ)
    (sound : IsSound tags.items (slots_of slot tags.items cells.items) len used) (old : Table T)
    (is_old : old ≡ table_of (slots_of slot tags.items cells.items))
  where
    module _ (count : ℕ) (power : IsPowerOfTwo count) (fits : length (entries old) ≤ usable_of count) where
      few : length (pairs (slots_of slot tags.items cells.items)) ≤ usable_of count
      few = rw (is_old, entries-table_of) at fits

      pub resize-fits :
          (read : List ℕ) (n : ℕ)
          → read ≡ tags.items
          → n ≡ count
          → length (pairs (slots_of slot read cells.items)) ≤ n / 8 * 7
      resize-fits read n is same = rw (is, same) (omega (arith, few))

      module _
          (new_tags : Vec ℕ) (new_cells end_cells : Vec C) (put_tags read : List ℕ) (put_cells : List C)
          (tags-long : length put_tags ≡ vec_len new_tags) (tags-count : vec_len new_tags ≡ count)
          (cells-long : length put_cells ≡ vec_len new_cells) (end-is : end_cells ≡ with_items new_cells put_cells)
          (read-is : read ≡ tags.items) (probed : IsProbed put_tags (slots_of slot put_tags put_cells))
          (moved : IsPermutation (pairs (slots_of slot read cells.items)) (pairs (slots_of slot put_tags put_cells)))
        where
          tags-are : (with_items new_tags put_tags).items ≡ put_tags
          tags-are = with_items_is new_tags put_tags tags-long

          cells-are : end_cells.items ≡ put_cells
          cells-are = ap (λ (v : Vec C). v.items) end-is ∙ with_items_is new_cells put_cells cells-long

          same_length : length (pairs (slots_of slot put_tags put_cells)) ≡ len
          same_length = omega (arith, length_permutation _ _ (rw read-is at moved), sound.counted)

          long : length put_tags ≡ count
          long = tags-long ∙ tags-count

          pub resize-sound :
              count_by is_used put_tags ≡ length (pairs (slots_of slot put_tags put_cells))
              → IsSound (with_items new_tags put_tags).items
              (slots_of slot (with_items new_tags put_tags).items end_cells.items) len len
          resize-sound unmarked =
              rw (tags-are, cells-are)
              (IsSound-placed put_tags (slots_of slot put_tags put_cells) len (rw long power) probed unmarked (sym same_length) (rw long (omega (arith, few, sound.counted))))

          pub resize-contents :
              IsPermutation (entries old) (entries (table_of (slots_of slot (with_items new_tags put_tags).items end_cells.items)))
          resize-contents =
              rw (is_old, entries-table_of, entries-table_of, tags-are, cells-are) (rw read-is at moved)

          pub resize-room :
              room (table_of (slots_of slot (with_items new_tags put_tags).items end_cells.items)) ≡ usable_of count - length (entries old)
          resize-room =
              let slots_long : length (slots_of slot put_tags put_cells) ≡ count = probed.same_length ∙ long in
              rw (is_old, entries-table_of, room-table_of, tags-are, cells-are, slots_long) (omega (arith, same_length, sound.counted))

          pub resize-memory :
              memory (table_of (slots_of slot (with_items new_tags put_tags).items end_cells.items))
              ≡ count
          resize-memory = rw (memory-table_of, tags-are, cells-are) (probed.same_length ∙ long)

    -- slices of the vectors, what is written to them, and the cells that they have then
    module _
        (read_tags put_tags : List ℕ) (read_cells put_cells : List C) (read_tags-is : read_tags ≡ tags.items)
        (read_cells-is : read_cells ≡ cells.items) (tags-long : length put_tags ≡ length read_tags)
        (tags-were : length read_tags ≡ vec_len tags) (cells-long : length put_cells ≡ length read_cells)
        (cells-were : length read_cells ≡ vec_len cells)
      where
        put_tags-are : (with_items tags put_tags).items ≡ put_tags
        put_tags-are = with_items_is tags put_tags (tags-long ∙ tags-were)

        put_cells-are : (with_items cells put_cells).items ≡ put_cells
        put_cells-are = with_items_is cells put_cells (cells-long ∙ cells-were)

        module _
            (removed : ℕ)
            (counted :
            removed + length (pairs (slots_of slot put_tags put_cells))
            ≡ length (pairs (slots_of slot read_tags read_cells)))
          where
            fewer :
                removed + length (pairs (slots_of slot put_tags put_cells))
                ≡ length (pairs (slots_of slot tags.items cells.items))
            fewer = rw (read_tags-is, read_cells-is) at counted

            pub retain-few : removed ≤ len
            retain-few = omega (arith, fewer, sound.counted)

            pub retain-sound :
                IsProbed put_tags (slots_of slot put_tags put_cells)
                → count_by is_used put_tags ≡ count_by is_used read_tags
                → IsSound (with_items tags put_tags).items
                (slots_of slot (with_items tags put_tags).items (with_items cells put_cells).items) (len - removed) used
            retain-sound probed marked =
                rw (put_tags-are, put_cells-are)
                (IsSound-retained tags.items put_tags (slots_of slot tags.items cells.items) (slots_of slot put_tags put_cells) _ _ _ sound (tags-long ∙ ap length read_tags-is) probed (rw read_tags-is at marked) fewer)

            pub retain-memory :
                KeepsMemory old (table_of (slots_of slot (with_items tags put_tags).items (with_items cells put_cells).items))
            retain-memory =
                let long : length (slots_of slot put_tags put_cells) ≡ length (slots_of slot tags.items cells.items) =
                cells_long slot put_tags put_cells ∙ cells-long ∙ ap length read_cells-is ∙ sym (cells_long slot tags.items cells.items) in
                rw (is_old, put_tags-are, put_cells-are) (KeepsMemory-table_of _ _ long (fits_from _ _ _ _ sound) (omega (arith, fewer)))

        pub retain-kept :
            {F : Type 0} (ask : F → T → Bool → F → Type 0) (f last : F)
            → RetainsPairsTo ask f (pairs (slots_of slot read_tags read_cells))
            (pairs (slots_of slot put_tags put_cells)) last
            → RetainsPairs ask f (entries old)
            (entries (table_of (slots_of slot (with_items tags put_tags).items (with_items cells put_cells).items)))
        retain-kept ask f last kept =
            rw (is_old, entries-table_of, entries-table_of, put_tags-are, put_cells-are, ← read_tags-is, ← read_cells-is)
            (record { last = last; kept = kept })

    -- the cells alone, whose pairs keep their hashes
    module _
        (read_tags : List ℕ) (read_cells put_cells : List C) (read_tags-is : read_tags ≡ tags.items)
        (read_cells-is : read_cells ≡ cells.items) (cells-long : length put_cells ≡ length read_cells)
        (cells-were : length read_cells ≡ vec_len cells)
      where
        written-are : (with_items cells put_cells).items ≡ put_cells
        written-are = with_items_is cells put_cells (cells-long ∙ cells-were)

        pub rewrite-rewritten :
            (gives : T → T → Type 0)
            → Rewrites gives (pairs (slots_of slot read_tags read_cells)) (pairs (slots_of slot read_tags put_cells))
            → Rewrites gives (entries old)
            (entries (table_of (slots_of slot tags.items (with_items cells put_cells).items)))
        rewrite-rewritten gives rewritten =
            rw (is_old, entries-table_of, entries-table_of, written-are, ← read_tags-is, ← read_cells-is) rewritten

        module _
            (same : hashes_of (slots_of slot read_tags put_cells) ≡ hashes_of (slots_of slot read_tags read_cells))
          where
            same_hashes :
                hashes_of (slots_of slot tags.items put_cells)
                ≡ hashes_of (slots_of slot tags.items cells.items)
            same_hashes = rw (read_tags-is, read_cells-is) at same

            pub rewrite-sound :
                IsSound tags.items (slots_of slot tags.items (with_items cells put_cells).items) len used
            rewrite-sound =
                rw written-are
                (IsSound-rewritten _ (slots_of slot tags.items cells.items) (slots_of slot tags.items put_cells) _ _ sound same_hashes)

            pub rewrite-memory :
                KeepsMemory old (table_of (slots_of slot tags.items (with_items cells put_cells).items))
            rewrite-memory =
                let long : length (slots_of slot tags.items put_cells) ≡ length (slots_of slot tags.items cells.items) =
                cells_long slot tags.items put_cells ∙ cells-long ∙ ap length read_cells-is ∙ sym (cells_long slot tags.items cells.items) in
                let kept = length-rewritten (slots_of slot tags.items cells.items) (slots_of slot tags.items put_cells) same_hashes in
                rw (is_old, written-are) (KeepsMemory-table_of _ _ long (fits_from _ _ _ _ sound) (omega (arith, kept)))
