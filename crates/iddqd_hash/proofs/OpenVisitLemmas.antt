-- The steps of the loops that visit each pair: one that asks of it and takes it out if refused, and one that puts an
-- answer in the place of its value.
use Rattle.std.proofs.Common.{◌≡◌, ◌∙◌, ℕ, ◌+◌, ◌-◌, ◌^◌, ◌<◌, ◌≤◌, Bool, true, false, List, Option, Some, None, IsSome, length, drop, set, slice_index, count_by, Fits, w64, refl, sym, ap, subst, arith, Contains}
use Rattle.std.proofs.lemmas.List.{drop-set-lt}
use Rattle.iddqd_hash.specs.Asks.{CanAsk, RetainsPairsTo}
use Rattle.iddqd_hash.specs.HashTable.{values, Rewrites}
use Rattle.iddqd_hash.specs.OpenTable.{slot_at, pairs, is_used, NoneFull, IsProbed}
use Rattle.iddqd_hash.specs.OpenWalk.{IsAhead, IsMultipleOf16, SomeFull}
use Rattle.iddqd_hash.proofs.AskLemmas.{CanAsk-takes, CanAsk-asked}
use Rattle.iddqd_hash.proofs.OpenAheadLemmas.{IsAhead-none, IsAhead-set, SomeFull-pairs, pairs-full}
use Rattle.iddqd_hash.proofs.OpenSlotLemmas.{full_slot, length-taken, used-set, used_one, used_count, IsProbed-taken, IsProbed-rewritten}
use Rattle.iddqd_hash.proofs.OpenRetainLemmas.{Keeping, Keeping-start, Keeping-gaps, Keeping-keep, Keeping-drop, Contains-asked, RetainsPairs-at_end, drop-taken, Rewriting, Rewriting-start, Rewriting-gaps, Rewriting-more, Contains-rewritten, Rewrites-at_end}

module _
    {F T : Type 0} (takes : F → T → Type 0) (ask : F → T → Bool → F → Type 0) (f : F) (before : List ℕ)
    (old : List (Option (ℕ × T)))
  where
    -- what is known when the pairs before the place `at` were asked about, and `left` are still to be
    pub record Retaining (now_f : F) (tags : List ℕ) (now : List (Option (ℕ × T))) (at end mask removed left : ℕ) :
        Type 0 where
      pub can : CanAsk takes ask now_f (values (pairs old))
      pub keeping : Keeping ask f old now_f now at
      pub probed : IsProbed tags now
      pub marked : count_by is_used tags ≡ count_by is_used before
      pub counted : removed + length (pairs now) ≡ length (pairs old)
      pub ahead : IsAhead tags at end mask
      pub ahead_count : left ≡ length (pairs (drop at now))

    pub Retaining-start :
        (at end mask left : ℕ)
        → at ≡ 0
        → end ≡ 0
        → mask ≡ 0
        → CanAsk takes ask f (values (pairs old))
        → IsProbed before old
        → left ≡ length (pairs old)
        → Retaining f before old at end mask 0 left
    Retaining-start at end mask left no_at no_end no_mask can probed counted =
        record {
          can = can;
          keeping = rw no_at (Keeping-start ask f old);
          probed = probed;
          marked = refl;
          counted = omega arith;
          ahead = IsAhead-none before at end mask no_at no_end no_mask;
          ahead_count = rw no_at counted;
        }

    module _
        (begun : IsProbed before old) (now_f : F) (tags : List ℕ) (now : List (Option (ℕ × T)))
        (at end mask removed left : ℕ) (state : Retaining now_f tags now at end mask removed left)
      where
        same_count : length before ≡ length tags
        same_count = omega (arith, begun.same_length, state.keeping.same_length, state.probed.same_length)

        pub Retaining-sixteens : IsMultipleOf16 (length before) → IsMultipleOf16 (length tags)
        Retaining-sixteens many = subst IsMultipleOf16 same_count many

        pub Retaining-some : 0 < left → SomeFull tags at
        Retaining-some some =
            SomeFull-pairs tags now state.probed (length tags) at (omega arith) (omega (arith, state.ahead_count))

        pub Retaining-end : left ≤ 0 → RetainsPairsTo ask f (pairs old) (pairs now) now_f
        Retaining-end none =
            RetainsPairs-at_end ask f old now_f now at (omega (arith, state.ahead_count)) state.keeping

        module _
            (here : ℕ) (onward : at ≤ here) (inside : here < length tags) (gaps : NoneFull tags at (here - at))
            (full : 128 ≤ slice_index tags here)
          where
            pub Retaining-full : IsSome (slot_at now here)
            Retaining-full = full_slot _ (slot_at now here) (state.probed.suited here inside) full

            skipped : Keeping ask f old now_f now here
            skipped = Keeping-gaps ask f old now_f now at here tags state.probed onward inside gaps state.keeping

            within : here < length old
            within = omega (arith, begun.same_length, same_count)

            module _ (hash : ℕ) (value : T) (found : slot_at now here ≡ Some (hash, value)) where
              asked : Contains (values (pairs old)) value
              asked = Contains-asked ask f old now_f now here within skipped (hash, value) found

              pub Retaining-takes : takes now_f value
              Retaining-takes = CanAsk-takes takes ask now_f _ value state.can asked

              fewer : length (pairs (set now here None)) + 1 ≡ length (pairs now)
              fewer = length-taken now here (hash, value) (omega (arith, state.probed.same_length)) found

              pub Retaining-fits : (len : ℕ) → len ≡ length (pairs old) → len < 2 ^ 64 → Fits w64 (removed + 1)
              Retaining-fits len is fits = omega (arith, fewer, state.counted)

              next_count : length (pairs (drop at now)) ≡ length (pairs (drop (here + 1) now)) + 1
              next_count =
                  omega (arith, ap length (pairs-full tags now state.probed at here (hash, value) onward inside gaps found))

              pub Retaining-keep :
                  (last : F) (next further ahead : ℕ)
                  → ask now_f value true last
                  → next ≡ here + 1
                  → IsAhead tags next further ahead
                  → Retaining last tags now next further ahead removed (left - 1)
              Retaining-keep last next further ahead called is walk =
                  record {
                    can = CanAsk-asked takes ask now_f _ value true last state.can asked called;
                    keeping = rw is (Keeping-keep ask f old now_f now here within skipped (hash, value) found last called);
                    probed = state.probed;
                    marked = state.marked;
                    counted = state.counted;
                    ahead = walk;
                    ahead_count = rw is (omega (arith, next_count, state.ahead_count));
                  }

              pub Retaining-drop :
                  (last : F) (next further ahead : ℕ) (marked : List ℕ) (rest : List (Option (ℕ × T)))
                  → ask now_f value false last
                  → next ≡ here + 1
                  → IsAhead tags next further ahead
                  → marked ≡ set tags here 1
                  → rest ≡ set now here None
                  → Retaining last marked rest next further ahead (removed + 1) (left - 1)
              Retaining-drop last next further ahead marked rest called is walk tags-is slots-is =
                  let was : used_count (slice_index tags here) ≡ 1 = used_one (slice_index tags here) (omega (arith, full)) in
                  let now_used : used_count 1 ≡ 1 = used_one 1 (omega arith) in
                  let later : length (pairs (drop (here + 1) (set now here None))) ≡ length (pairs (drop (here + 1) now)) =
                  ap length (drop-taken now here) in
                  rw (is, tags-is, slots-is)
                  (record {
                    can = CanAsk-asked takes ask now_f _ value false last state.can asked called;
                    keeping = Keeping-drop ask f old now_f now here within skipped (hash, value) found last called;
                    probed = IsProbed-taken tags now state.probed here inside;
                    marked = omega (arith, used-set tags here 1 inside, was, now_used, state.marked);
                    counted = omega (arith, fewer, state.counted);
                    ahead = IsAhead-set tags (here + 1) further ahead here 1 (omega arith) (rw is at walk);
                    ahead_count = omega (arith, next_count, later, state.ahead_count);
                  })

module _ {T : Type 0} (gives : T → T → Type 0) (tags : List ℕ) (old : List (Option (ℕ × T))) where
  -- what is known when the pairs before the place `at` have their new values, and `left` don't
  pub record Rewritten (now : List (Option (ℕ × T))) (at end mask left : ℕ) : Type 0 where
    pub rewriting : Rewriting gives old now at
    pub ahead : IsAhead tags at end mask
    pub ahead_count : left ≡ length (pairs (drop at now))

  pub Rewritten-start :
      (at end mask left : ℕ)
      → at ≡ 0
      → end ≡ 0
      → mask ≡ 0
      → left ≡ length (pairs old)
      → Rewritten old at end mask left
  Rewritten-start at end mask left no_at no_end no_mask counted =
      record {
        rewriting = rw no_at (Rewriting-start gives old);
        ahead = IsAhead-none tags at end mask no_at no_end no_mask;
        ahead_count = rw no_at counted;
      }

  module _
      (begun : IsProbed tags old) (now : List (Option (ℕ × T))) (at end mask left : ℕ)
      (state : Rewritten now at end mask left)
    where
      pub Rewritten-probed : IsProbed tags now
      Rewritten-probed = IsProbed-rewritten tags old now begun state.rewriting.same_hashes

      same : length now ≡ length old
      same = Rewritten-probed.same_length ∙ sym begun.same_length

      pub Rewritten-some : 0 < left → SomeFull tags at
      Rewritten-some some =
          SomeFull-pairs tags now Rewritten-probed (length tags) at (omega arith) (omega (arith, state.ahead_count))

      pub Rewritten-end : left ≤ 0 → Rewrites gives (pairs old) (pairs now)
      Rewritten-end none = Rewrites-at_end gives old now at (omega (arith, state.ahead_count)) state.rewriting

      module _
          (here : ℕ) (onward : at ≤ here) (inside : here < length tags) (gaps : NoneFull tags at (here - at)) (hash : ℕ)
          (value : T) (found : slot_at now here ≡ Some (hash, value))
        where
          in_old : here < length old
          in_old = omega (arith, begun.same_length)

          passed : Rewriting gives old now here
          passed = Rewriting-gaps gives old now at here tags same Rewritten-probed onward inside gaps state.rewriting

          pub Rewritten-asked : Contains (values (pairs old)) value
          Rewritten-asked = Contains-rewritten gives old now here in_old same passed hash value found

          pub Rewritten-more :
              (answer : T) (rest : List (Option (ℕ × T))) (next further ahead : ℕ)
              → gives value answer
              → next ≡ here + 1
              → IsAhead tags next further ahead
              → rest ≡ set now here (Some (hash, answer))
              → Rewritten rest next further ahead (left - 1)
          Rewritten-more answer rest next further ahead given is walk slots-is =
              let here_is = pairs-full tags now Rewritten-probed at here (hash, value) onward inside gaps found in
              let later : length (pairs (drop (here + 1) (set now here (Some (hash, answer))))) ≡ length (pairs (drop (here + 1) now)) =
              ap (λ xs. length (pairs xs)) (drop-set-lt (here + 1) now here (Some (hash, answer)) (omega arith)) in
              rw (is, slots-is)
              (record {
                rewriting = Rewriting-more gives old now here in_old same passed hash value found answer given;
                ahead = rw is at walk;
                ahead_count = omega (arith, ap length here_is, later, state.ahead_count);
              })
