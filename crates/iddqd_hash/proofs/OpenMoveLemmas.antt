-- The steps of a loop that moves each pair into cells that began empty.
use Rattle.std.proofs.Common.{◌≡◌, ◌≢◌, ◌∙◌, ℕ, ◌<◌, ◌≤◌, inl, inr, List, [], ◌∷◌, ◌++◌, Option, Some, None, length, set, replicate, slice_index, count_by, sym, ap, subst, arith}
use Rattle.std.proofs.lemmas.Bool.{cases_eq}
use Rattle.std.proofs.lemmas.List.{append-nil, append_assoc, length-append, get_or-set_same, get_or-set_other}
use Rattle.std.proofs.lemmas.List.Sorted.{IsPermutation-refl, IsPermutation-trans, IsPermutation-to_front, IsPermutation-append_left, length_permutation}
use Rattle.std.specs.List.Sorted.{IsPermutation}
use Rattle.iddqd_hash.specs.OpenTable.{tag_of, limit_of, is_used, slot_at, pairs, Suits, HasEmpty, IsReached, IsProbed}
use Rattle.iddqd_hash.proofs.OpenSlotLemmas.{pairs-push, zero_everywhere, IsProbed-empty, IsProbed-put, pairs-empty, pairs-put, length-put, unused, used-set, used_one, used_count, free_slot}
use Rattle.iddqd_hash.proofs.OpenTableLemmas.{some_empty}

module _ {T : Type 0} where
  -- some pairs were moved into the slots, which no pair has left, and the others are left
  pub record Moving (old left : List (Option (ℕ × T))) (tags : List ℕ) (slots : List (Option (ℕ × T))) : Type 0 where
    pub probed : IsProbed tags slots
    pub moved : IsPermutation (pairs old) (pairs slots ++ pairs left)
    pub unmarked : (k : ℕ) → slice_index tags k ≢ 1
    pub counted : count_by is_used tags ≡ length (pairs slots)

  pub Moving-start :
      (old : List (Option (ℕ × T))) (tags : List ℕ) (slots : List (Option (ℕ × T))) (n : ℕ)
      → tags ≡ replicate n 0
      → slots ≡ replicate n None
      → Moving old old tags slots
  Moving-start old tags slots n no_tag no_pair =
      rw (no_tag, no_pair)
      (record {
        probed = IsProbed-empty n;
        moved = rw (pairs-empty n) (IsPermutation-refl (pairs old));
        unmarked = λ k is. absurd (let zero_here : slice_index (replicate n 0) k ≡ 0 = zero_everywhere n k in omega arith);
        counted = unused n ∙ sym (ap length (pairs-empty n));
      })

  module _
      (old left : List (Option (ℕ × T))) (tags : List ℕ) (slots : List (Option (ℕ × T)))
      (state : Moving old left tags slots)
    where
      few : count_by is_used tags ≤ length (pairs old)
      few = omega (arith, state.counted, length_permutation _ _ state.moved, length-append (pairs slots) (pairs left))

      pub Moving-room : 0 < length tags → length (pairs old) ≤ limit_of (length tags) → HasEmpty tags
      Moving-room some fits = some_empty tags (omega (arith, few))

      pub Moving-skip : (rest : List (Option (ℕ × T))) → left ≡ rest ++ None ∷ [] → Moving old rest tags slots
      Moving-skip rest is =
          record {
            probed = state.probed;
            moved =
                subst (λ xs. IsPermutation (pairs old) (pairs slots ++ xs)) (ap pairs is ∙ pairs-push rest None ∙ append-nil (pairs rest)) state.moved;
            unmarked = state.unmarked;
            counted = state.counted;
          }

      pub Moving-put :
          (rest : List (Option (ℕ × T))) (place hash : ℕ) (value : T)
          → left ≡ rest ++ Some (hash, value) ∷ []
          → place < length tags
          → slice_index tags place < 128
          → IsReached tags hash place
          → Moving old rest (set tags place (tag_of hash)) (set slots place (Some (hash, value)))
      Moving-put rest place hash value is inside small reached =
          let within : place < length slots = omega (arith, state.probed.same_length) in
          let suits : Suits (slice_index tags place) (slot_at slots place) = state.probed.suited place inside in
          let free : slot_at slots place ≡ None =
          free_slot (slice_index tags place) (slot_at slots place) suits small in
          let low : slice_index tags place ≤ 1 = subst (λ o. Suits (slice_index tags place) o) free suits in
          let empty : slice_index tags place ≡ 0 = omega (arith, state.unmarked place) in
          let was : used_count (slice_index tags place) ≡ 0 = ap used_count empty in
          let now : used_count (tag_of hash) ≡ 1 = used_one (tag_of hash) (omega arith) in
          let counts = used-set tags place (tag_of hash) inside in
          let more = length-put slots place (hash, value) within free in
          let last : IsPermutation (pairs slots ++ pairs left) (((hash, value) ∷ pairs slots) ++ pairs rest) =
          rw (is, pairs-push rest (Some (hash, value)), ← append_assoc) (IsPermutation-to_front (pairs slots ++ pairs rest) (hash, value)) in
          record {
            probed = IsProbed-put tags slots state.probed place inside hash value reached;
            moved =
                IsPermutation-trans _ _ _ state.moved (IsPermutation-trans _ _ _ last (IsPermutation-append_left (pairs rest) _ _ (pairs-put slots place (hash, value) within free)));
            unmarked = λ k one.
                elim (cases_eq k place) [
                  | inl same ↦ absurd (let tag : slice_index (set tags place (tag_of hash)) k ≡ tag_of hash = rw same (get_or-set_same tags place (tag_of hash) 0 inside) in omega arith)
                  | inr other ↦ state.unmarked k (sym (get_or-set_other tags place k (tag_of hash) 0 other) ∙ one)
                ];
            counted = omega (arith, state.counted);
          }

  pub Moving-end :
      (old left : List (Option (ℕ × T))) (tags : List ℕ) (slots : List (Option (ℕ × T)))
      → Moving old left tags slots
      → left ≡ []
      → IsPermutation (pairs old) (pairs slots)
  Moving-end old left tags slots state none =
      subst (λ xs. IsPermutation (pairs old) xs) (ap (λ xs. pairs slots ++ pairs xs) none ∙ append-nil (pairs slots)) state.moved
