-- The steps of loops over slots: one that asks of each pair and takes out those refused, and one that puts an answer
-- in the place of each value.
use Rattle.std.proofs.Common.{◌≡◌, ◌∙◌, ℕ, zero, suc, ◌+◌, ◌-◌, ◌<◌, ◌≤◌, Bool, true, false, List, [], ◌∷◌, ◌++◌, Option, Some, None, map, filter, length, take, drop, set, refl, sym, ap, subst, arith, Contains}
use Rattle.std.specs.List.{FoldsTo, AllZip}
use Rattle.std.specs.Option.{option_map}
use Rattle.std.proofs.Math.Seq.{map-set_same}
use Rattle.std.proofs.lemmas.List.{take_more, take_more_set, drop_more, drop-set-lt, take-append-drop, map-append, append-nil, length-set}
use Rattle.std.proofs.lemmas.List.Elements.{filter-append, filter_map-append, Contains-append_right, AllZip-push}
use Rattle.std.proofs.lemmas.List.Sorted.{IsPermutation-refl}
use Rattle.std.proofs.lemmas.Fn.{FoldsTo-push}
use Rattle.iddqd_hash.specs.Asks.{RetainsPairsTo}
use Rattle.iddqd_hash.specs.HashTable.{values, Rewrites}
use Rattle.iddqd_hash.specs.OpenTable.{slot_at, pairs, hashes_of, NoneFull, IsProbed}
use Rattle.iddqd_hash.proofs.OpenSlotLemmas.{pairs-push, free_slot}
use Rattle.iddqd_hash.proofs.RetainLemmas.{Contains-values}

module _ {T : Type 0} where
  pairs_more :
      (slots : List (Option (ℕ × T))) (at : ℕ) (slot : Option (ℕ × T))
      → at < length slots
      → slot_at slots at ≡ slot
      → pairs (take (at + 1) slots) ≡ pairs (take at slots) ++ pairs (slot ∷ [])
  pairs_more slots at slot below is =
      ap pairs (take_more slots at None below ∙ ap (λ s. take at slots ++ s ∷ []) is) ∙ pairs-push (take at slots) slot

  pairs_more_set :
      (slots : List (Option (ℕ × T))) (at : ℕ) (slot : Option (ℕ × T))
      → at < length slots
      → pairs (take (at + 1) (set slots at slot)) ≡ pairs (take at slots) ++ pairs (slot ∷ [])
  pairs_more_set slots at slot below = ap pairs (take_more_set slots at slot below) ∙ pairs-push (take at slots) slot

  -- what two lists have from a place on is the same there and after it
  both_ways :
      (old now : List (Option (ℕ × T))) (at : ℕ)
      → at < length old
      → at < length now
      → drop at now ≡ drop at old
      → (slot_at old at ≡ slot_at now at) × (drop (at + 1) now ≡ drop (at + 1) old)
  both_ways old now at in_old in_now same =
      let both : slot_at old at ∷ drop (at + 1) old ≡ slot_at now at ∷ drop (at + 1) now =
      sym (drop_more old at None in_old) ∙ sym same ∙ drop_more now at None in_now in
      (cc, sym (ap (drop 1) both))

  Contains-slot :
      (slots : List (Option (ℕ × T))) (at : ℕ) (pair : ℕ × T)
      → at < length slots
      → slot_at slots at ≡ Some pair
      → Contains (values (pairs slots)) pair.1
  Contains-slot slots at pair below is =
      let split : pairs slots ≡ pairs (take at slots) ++ (pair ∷ pairs (drop (at + 1) slots)) =
      ap pairs (sym (take-append-drop at slots) ∙ ap (λ xs. take at slots ++ xs) (drop_more slots at None below ∙ ap (λ s. s ∷ drop (at + 1) slots) is))
      ∙ filter_map-append (λ (slot : Option (ℕ × T)). slot) (take at slots) (Some pair ∷ drop (at + 1) slots) in
      Contains-values (pairs slots) pair (subst (λ es. Contains es pair) (sym split) (Contains-append_right (pairs (take at slots)) (pair ∷ pairs (drop (at + 1) slots)) pair (0, omega arith, refl)))

  none_of_length : (es : List (ℕ × T)) → length es ≡ 0 → es ≡ []
  none_of_length [] none = refl
  none_of_length (e ∷ es) none = absurd (omega arith)

  -- if no pair is at a place or after it, all are before it
  all_taken :
      (slots : List (Option (ℕ × T))) (at : ℕ)
      → pairs (drop at slots) ≡ []
      → pairs (take at slots) ≡ pairs slots
  all_taken slots at none =
      sym (append-nil _) ∙ ap (λ es. pairs (take at slots) ++ es) (sym none)
      ∙ sym (filter_map-append (λ (slot : Option (ℕ × T)). slot) (take at slots) (drop at slots))
      ∙ ap pairs (take-append-drop at slots)

  -- the pairs behind one that was taken out
  pub drop-taken :
      (slots : List (Option (ℕ × T))) (at : ℕ)
      → pairs (drop (at + 1) (set slots at None)) ≡ pairs (drop (at + 1) slots)
  drop-taken slots at = ap pairs (drop-set-lt (at + 1) slots at None (omega arith))

module _ {F T : Type 0} (ask : F → T → Bool → F → Type 0) (f : F) (old : List (Option (ℕ × T))) where
  -- the pairs before a place were asked in turn, and the refused ones were taken out
  pub record Keeping (now_f : F) (now : List (Option (ℕ × T))) (at : ℕ) : Type 0 where
    pub same_length : length now ≡ length old
    pub asks : List ((ℕ × T) × Bool)
    pub asked : map (λ a. a.0) asks ≡ pairs (take at old)
    pub were_asked : FoldsTo (λ p a q. ask p a.0.1 a.1 q) f asks now_f
    pub kept : map (λ a. a.0) (filter (λ a. a.1) asks) ≡ pairs (take at now)
    pub behind : drop at now ≡ drop at old

  pub Keeping-start : Keeping f old 0
  Keeping-start = record { same_length = refl; asks = []; asked = refl; were_asked = refl; kept = refl; behind = refl }

  module _
      (before : F) (now : List (Option (ℕ × T))) (at : ℕ) (within : at < length old) (state : Keeping before now at)
    where
      in_now : at < length now
      in_now = omega (arith, state.same_length)

      pub Keeping-none : slot_at now at ≡ None → Keeping before now (at + 1)
      Keeping-none is =
          let both = both_ways old now at within in_now state.behind in
          record {
            same_length = state.same_length;
            asks = state.asks;
            asked = state.asked ∙ sym (pairs_more old at None within (both.0 ∙ is) ∙ append-nil _);
            were_asked = state.were_asked;
            kept = state.kept ∙ sym (pairs_more now at None in_now is ∙ append-nil _);
            behind = both.1;
          }

      module _ (pair : ℕ × T) (is : slot_at now at ≡ Some pair) where
        pub Contains-asked : Contains (values (pairs old)) pair.1
        Contains-asked = Contains-slot old at pair within ((both_ways old now at within in_now state.behind).0 ∙ is)

        asks_more : (b : Bool) → map (λ a. a.0) (state.asks ++ (pair, b) ∷ []) ≡ pairs (take (at + 1) old)
        asks_more b =
            map-append (λ a. a.0) state.asks ((pair, b) ∷ []) ∙ ap (λ xs. xs ++ pair ∷ []) state.asked
            ∙ sym (pairs_more old at (Some pair) within ((both_ways old now at within in_now state.behind).0 ∙ is))

        pub Keeping-keep : (last : F) → ask before pair.1 true last → Keeping last now (at + 1)
        Keeping-keep last called =
            record {
              same_length = state.same_length;
              asks = state.asks ++ (pair, true) ∷ [];
              asked = asks_more true;
              were_asked = FoldsTo-push _ f _ before (pair, true) last state.were_asked called;
              kept =
                  ap (map (λ a. a.0)) (filter-append (λ a. a.1) state.asks ((pair, true) ∷ []))
                  ∙ map-append (λ a. a.0) (filter (λ a. a.1) state.asks) ((pair, true) ∷ [])
                  ∙ ap (λ xs. xs ++ pair ∷ []) state.kept ∙ sym (pairs_more now at (Some pair) in_now is);
              behind = (both_ways old now at within in_now state.behind).1;
            }

        pub Keeping-drop : (last : F) → ask before pair.1 false last → Keeping last (set now at None) (at + 1)
        Keeping-drop last called =
            record {
              same_length = length-set now at None ∙ state.same_length;
              asks = state.asks ++ (pair, false) ∷ [];
              asked = asks_more false;
              were_asked = FoldsTo-push _ f _ before (pair, false) last state.were_asked called;
              kept =
                  ap (map (λ a. a.0)) (filter-append (λ a. a.1) state.asks ((pair, false) ∷ []) ∙ append-nil (filter (λ a. a.1) state.asks))
                  ∙ state.kept ∙ sym (pairs_more_set now at None in_now ∙ append-nil _);
              behind =
                  drop-set-lt (at + 1) now at None (omega arith) ∙ (both_ways old now at within in_now state.behind).1;
            }

  -- places without a pair
  pub Keeping-skip :
      (before : F) (now : List (Option (ℕ × T))) (at run : ℕ)
      → at + run ≤ length old
      → ((k : ℕ) → at ≤ k → k < at + run → slot_at now k ≡ None)
      → Keeping before now at
      → Keeping before now (at + run)
  Keeping-skip before now at zero within none state =
      subst (Keeping before now) (let same : at ≡ at + 0 = omega arith in same) state
  Keeping-skip before now at (suc run) within none state =
      subst (Keeping before now) (let same : at + run + 1 ≡ at + suc run = omega arith in same)
      (Keeping-none before now (at + run) (omega arith) (Keeping-skip before now at run (omega arith) (λ k from to. none k from (omega arith)) state) (none (at + run) (omega arith) (omega arith)))

  pub Keeping-gaps :
      (before : F) (now : List (Option (ℕ × T))) (at to : ℕ) (tags : List ℕ)
      → IsProbed tags now
      → at ≤ to
      → to < length tags
      → NoneFull tags at (to - at)
      → Keeping before now at
      → Keeping before now to
  Keeping-gaps before now at to tags probed onward inside gaps state =
      subst (Keeping before now) (let same : at + (to - at) ≡ to = omega arith in same)
      (Keeping-skip before now at (to - at) (omega (arith, state.same_length, probed.same_length)) (λ k from below. free_slot _ _ (probed.suited k (omega arith)) (gaps k from below)) state)

  -- if no pair is left, all were asked about
  pub RetainsPairs-at_end :
      (last : F) (now : List (Option (ℕ × T))) (at : ℕ)
      → length (pairs (drop at now)) ≡ 0
      → Keeping last now at
      → RetainsPairsTo ask f (pairs old) (pairs now) last
  RetainsPairs-at_end last now at ended state =
      let none_now : pairs (drop at now) ≡ [] = none_of_length (pairs (drop at now)) ended in
      let none_old : pairs (drop at old) ≡ [] = ap pairs (sym state.behind) ∙ none_now in
      record {
        asks = state.asks;
        each_once = rw (state.asked ∙ all_taken old at none_old) (IsPermutation-refl (pairs old));
        were_asked = state.were_asked;
        kept = rw (state.kept ∙ all_taken now at none_now) (IsPermutation-refl (pairs now));
      }

module _ {T : Type 0} (gives : T → T → Type 0) (old : List (Option (ℕ × T))) where
  -- the pairs before a place have their new values, and the others are as they were
  pub record Rewriting (now : List (Option (ℕ × T))) (at : ℕ) : Type 0 where
    pub same_hashes : hashes_of now ≡ hashes_of old
    pub each : AllZip (λ e w. (w.0 ≡ e.0) × gives e.1 w.1) (pairs (take at old)) (pairs (take at now))
    pub behind : drop at now ≡ drop at old

  pub Rewriting-start : Rewriting old 0
  Rewriting-start = record { same_hashes = refl; each = tt; behind = refl }

  module _
      (now : List (Option (ℕ × T))) (at : ℕ) (within : at < length old) (same_length : length now ≡ length old)
      (state : Rewriting now at)
    where
      Rewriting-none : slot_at now at ≡ None → Rewriting now (at + 1)
      Rewriting-none is =
          let both = both_ways old now at within (omega arith) state.behind in
          record {
            same_hashes = state.same_hashes;
            each =
                rw (pairs_more old at None within (both.0 ∙ is), pairs_more now at None (omega arith) is, append-nil, append-nil) state.each;
            behind = both.1;
          }

      module _ (hash : ℕ) (value : T) (is : slot_at now at ≡ Some (hash, value)) where
        pub Contains-rewritten : Contains (values (pairs old)) value
        Contains-rewritten =
            Contains-slot old at (hash, value) within ((both_ways old now at within (omega arith) state.behind).0 ∙ is)

        pub Rewriting-more : (answer : T) → gives value answer → Rewriting (set now at (Some (hash, answer))) (at + 1)
        Rewriting-more answer given =
            let both = both_ways old now at within (omega arith) state.behind in
            record {
              same_hashes =
                  map-set_same (λ slot. option_map (λ pair. pair.0) slot) now at (Some (hash, answer)) None (ap (option_map (λ pair. pair.0)) (sym is))
                  ∙ state.same_hashes;
              each =
                  rw (pairs_more old at (Some (hash, value)) within (both.0 ∙ is), pairs_more_set now at (Some (hash, answer)) (omega arith))
                  (AllZip-push _ (pairs (take at old)) (pairs (take at now)) (hash, value) (hash, answer) state.each (refl, given));
              behind = drop-set-lt (at + 1) now at (Some (hash, answer)) (omega arith) ∙ both.1;
            }

  -- places without a pair
  pub Rewriting-skip :
      (now : List (Option (ℕ × T))) (at run : ℕ)
      → length now ≡ length old
      → at + run ≤ length old
      → ((k : ℕ) → at ≤ k → k < at + run → slot_at now k ≡ None)
      → Rewriting now at
      → Rewriting now (at + run)
  Rewriting-skip now at zero same_length within none state =
      subst (Rewriting now) (let same : at ≡ at + 0 = omega arith in same) state
  Rewriting-skip now at (suc run) same_length within none state =
      subst (Rewriting now) (let same : at + run + 1 ≡ at + suc run = omega arith in same)
      (Rewriting-none now (at + run) (omega arith) same_length (Rewriting-skip now at run same_length (omega arith) (λ k from to. none k from (omega arith)) state) (none (at + run) (omega arith) (omega arith)))

  pub Rewriting-gaps :
      (now : List (Option (ℕ × T))) (at to : ℕ) (tags : List ℕ)
      → length now ≡ length old
      → IsProbed tags now
      → at ≤ to
      → to < length tags
      → NoneFull tags at (to - at)
      → Rewriting now at
      → Rewriting now to
  Rewriting-gaps now at to tags same_length probed onward inside gaps state =
      subst (Rewriting now) (let same : at + (to - at) ≡ to = omega arith in same)
      (Rewriting-skip now at (to - at) same_length (omega (arith, same_length, probed.same_length)) (λ k from below. free_slot _ _ (probed.suited k (omega arith)) (gaps k from below)) state)

  -- if no pair is left, all have their new values
  pub Rewrites-at_end :
      (now : List (Option (ℕ × T))) (at : ℕ)
      → length (pairs (drop at now)) ≡ 0
      → Rewriting now at
      → Rewrites gives (pairs old) (pairs now)
  Rewrites-at_end now at ended state =
      let none_now : pairs (drop at now) ≡ [] = none_of_length (pairs (drop at now)) ended in
      let none_old : pairs (drop at old) ≡ [] = ap pairs (sym state.behind) ∙ none_now in
      record {
        rewritten = pairs now;
        each = rw (all_taken old at none_old, all_taken now at none_now) at state.each;
        moved = IsPermutation-refl (pairs now);
      }
