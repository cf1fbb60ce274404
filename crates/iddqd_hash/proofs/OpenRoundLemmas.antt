-- What a walk round from the home of a hash meets of the pairs under it.
use Rattle.std.proofs.Common.{inl, inr, ◌⊎◌, Bool, true, false, ltb, ltb-true, ltb-false, eq-eqb, ne_eqb, ◌≡◌, ◌≢◌, ◌∙◌, ℕ, zero, suc, ◌+◌, ◌-◌, ◌*◌, ◌/◌, ◌%◌, ◌<◌, ◌≤◌, List, [], ◌∷◌, ◌++◌, Option, Some, None, length, take, drop, get_or, slice_index, refl, sym, ap, subst, arith, Contains, add-zero}
use Rattle.std.proofs.Math.Nat.{mod-eq_of_lt, mod-lt, mul-add-mod_self_left, div-add-mod}
use Rattle.std.specs.List.Sorted.{IsPermutation}
use Rattle.std.proofs.lemmas.List.{append-nil, take_more, drop_more, take-append-drop, get_or_append_left, get_or-append_right, get_or-drop, get_or-take, length-drop, length-append, length-take-le}
use Rattle.std.proofs.lemmas.List.Elements.{filter_map-append, Contains-append_right}
use Rattle.std.proofs.lemmas.List.Sorted.{IsPermutation-append_comm}
use Rattle.iddqd_hash.specs.HashTable.{under}
use Rattle.iddqd_hash.specs.OpenTable.{tag_of, slot_at, pairs, Suits, HasEmpty, IsReached, IsProbed, PassesBy}
use Rattle.iddqd_hash.specs.OpenWalkUnder.{from_home}
use Rattle.iddqd_hash.proofs.UnderLemmas.{under-append, under-cons_same, under-cons_other}
use Rattle.iddqd_hash.proofs.OpenWalkLemmas.{onward, same_steps, steps_within}

-- a step round from a home, as an index before or behind the last place
round :
    (n from k : ℕ)
    → 0 < n
    → k < n
    → ((k < n - from % n) × ((from + k) % n ≡ from % n + k)) ⊎
    ((n - from % n ≤ k) × ((from + k) % n ≡ k - (n - from % n)))
round n from k some below = by_side (ltb k (n - from % n)) refl
  where
    home_below : from % n < n
    home_below = mod-lt from some

    parts : n * (from / n) + from % n ≡ from
    parts = div-add-mod from n

    by_side :
        (b : Bool)
        → ltb k (n - from % n) ≡ b
        → ((k < n - from % n) × ((from + k) % n ≡ from % n + k)) ⊎
        ((n - from % n ≤ k) × ((from + k) % n ≡ k - (n - from % n)))
    by_side true is =
        let near : k < n - from % n = ltb-true _ _ is in
        let low : from % n < n = home_below in
        let split : n * (from / n) + from % n ≡ from = parts in
        let as_parts : from + k ≡ n * (from / n) + (from % n + k) = omega arith in
        inl (near, ap (λ x. x % n) as_parts ∙ mul-add-mod_self_left n (from / n) (from % n + k) ∙ mod-eq_of_lt (omega arith))
    by_side false is =
        let far : n - from % n ≤ k = ltb-false _ _ is in
        let low : from % n < n = home_below in
        let split : n * (from / n) + from % n ≡ from = parts in
        let more : n * (from / n + 1) ≡ n * (from / n) + n = grind arith in
        let as_parts : from + k ≡ n * (from / n + 1) + (k - (n - from % n)) = omega arith in
        inr (far, ap (λ x. x % n) as_parts ∙ mul-add-mod_self_left n (from / n + 1) (k - (n - from % n)) ∙ mod-eq_of_lt (omega arith))

from_home-at :
    {X : Type 0} (hash : ℕ) (xs : List X) (k : ℕ) (d : X)
    → k < length xs
    → get_or (from_home hash xs) k d ≡ get_or xs ((hash + k) % length xs) d
from_home-at hash xs k d below =
    let home : ℕ = hash % length xs in
    let home_below : home < length xs = mod-lt hash (omega arith) in
    elim (round (length xs) hash k (omega arith) below) [
      | inl near ↦
          get_or_append_left (drop home xs) (take home xs) d k (omega (arith, length-drop home xs, near.0))
          ∙ get_or-drop home xs k d ∙ ap (λ n. get_or xs n d) (sym near.1)
      | inr far ↦
          get_or-append_right (drop home xs) (take home xs) (length xs - home) k d (length-drop home xs) far.0
          ∙ get_or-take home xs (k - (length xs - home)) d (omega (arith, far.0, home_below))
          ∙ ap (λ n. get_or xs n d) (sym far.1)
    ]

from_home-length : {X : Type 0} (hash : ℕ) (xs : List X) → 0 < length xs → length (from_home hash xs) ≡ length xs
from_home-length hash xs some =
    let home : ℕ = hash % length xs in
    let home_below : home < length xs = mod-lt hash some in
    length-append (drop home xs) (take home xs)
    ∙ omega (arith, length-drop home xs, length-take-le home xs (omega arith))

module _ {T : Type 0} (hash : ℕ) where
  -- the values under the hash in slots
  abbrev pub met : List (Option (ℕ × T)) → List T
  met slots = under hash (pairs slots)

  pub met-append : (xs ys : List (Option (ℕ × T))) → met (xs ++ ys) ≡ met xs ++ met ys
  met-append xs ys =
      ap (under hash) (filter_map-append (λ (slot : Option (ℕ × T)). slot) xs ys)
      ∙ under-append hash (pairs xs) (pairs ys)

  pub met_same : (slot : Option (ℕ × T)) (value : T) → slot ≡ Some (hash, value) → met (slot ∷ []) ≡ value ∷ []
  met_same slot value is = ap (λ s. met (s ∷ [])) is ∙ under-cons_same hash hash value [] (eq-eqb hash hash refl)

  met_other : (slot : Option (ℕ × T)) → ((value : T) → slot ≢ Some (hash, value)) → met (slot ∷ []) ≡ []
  met_other None other = refl
  met_other (Some pair) other =
      under-cons_other hash pair.0 pair.1 [] (ne_eqb pair.0 hash (λ same. other pair.1 (ap (λ n. Some (n, pair.1)) same)))

  met_none :
      (slots : List (Option (ℕ × T)))
      → ((k : ℕ) (value : T) → k < length slots → get_or slots k None ≢ Some (hash, value))
      → met slots ≡ []
  met_none [] others = refl
  met_none (slot ∷ slots) others =
      met-append (slot ∷ []) slots
      ∙ ap (λ xs. xs ++ met slots) (met_other slot (λ value. others 0 value (omega arith)))
      ∙ met_none slots (λ k value below. others (suc k) value (omega arith))

  module _ (slots : List (Option (ℕ × T))) (k : ℕ) (below : k < length slots) where
    pub met_more : met (take (k + 1) slots) ≡ met (take k slots) ++ met (get_or slots k None ∷ [])
    met_more = ap met (take_more slots k None below) ∙ met-append (take k slots) (get_or slots k None ∷ [])

    met_whole : met slots ≡ met (take k slots) ++ (met (get_or slots k None ∷ []) ++ met (drop (k + 1) slots))
    met_whole =
        ap met (sym (take-append-drop k slots) ∙ ap (λ xs. take k slots ++ xs) (drop_more slots k None below))
        ∙ met-append (take k slots) (get_or slots k None ∷ drop (k + 1) slots)
        ∙ ap (λ xs. met (take k slots) ++ xs) (met-append (get_or slots k None ∷ []) (drop (k + 1) slots))

    pub met_at :
        (value : T)
        → get_or slots k None ≡ Some (hash, value)
        → met slots ≡ met (take k slots) ++ value ∷ met (drop (k + 1) slots)
    met_at value is =
        met_whole ∙ ap (λ xs. met (take k slots) ++ (xs ++ met (drop (k + 1) slots))) (met_same _ value is)

  -- a value that stands under the hash
  pub Contains-met :
      (slots : List (Option (ℕ × T))) (k : ℕ) (value : T)
      → k < length slots
      → slot_at slots k ≡ Some (hash, value)
      → Contains (under hash (pairs slots)) value
  Contains-met slots k value below is =
      subst (λ xs. Contains xs value) (sym (met_at slots k below value is)) (Contains-append_right (met (take k slots)) _ value (0, omega arith, refl))

  pub met_home : (slots : List (Option (ℕ × T))) → IsPermutation (met slots) (met (from_home hash slots))
  met_home slots =
      let n : ℕ = hash % length slots in
      let first : met slots ≡ met (take n slots) ++ met (drop n slots) =
      ap met (sym (take-append-drop n slots)) ∙ met-append (take n slots) (drop n slots) in
      let second : met (from_home hash slots) ≡ met (drop n slots) ++ met (take n slots) =
      met-append (drop n slots) (take n slots) in
      rw (first, second) (IsPermutation-append_comm (met (take n slots)) (met (drop n slots)))

  -- places that have no pair under the hash
  module _ (slots : List (Option (ℕ × T))) (s : ℕ) where
    pub met-skipped :
        (t : ℕ)
        → s + t ≤ length slots
        → ((k : ℕ) (value : T) → k < t → get_or slots (s + k) None ≢ Some (hash, value))
        → met (take (s + t) slots) ≡ met (take s slots)
    met-skipped zero below others = ap (λ n. met (take n slots)) (add-zero s)
    met-skipped (suc t) below others =
        let next : s + suc t ≡ s + t + 1 = omega arith in
        ap (λ n. met (take n slots)) next
        ∙ met_more slots (s + t) (omega arith)
        ∙ ap (λ xs. met (take (s + t) slots) ++ xs) (met_other _ (λ value. others t value (omega arith)))
        ∙ append-nil _
        ∙ met-skipped t (omega arith) (λ k value less. others k value (omega arith))

    pub met-dropped :
        (t : ℕ)
        → s + t ≤ length slots
        → ((k : ℕ) (value : T) → k < t → get_or slots (s + k) None ≢ Some (hash, value))
        → met (drop s slots) ≡ met (drop (s + t) slots)
    met-dropped zero below others = ap (λ n. met (drop n slots)) (sym (add-zero s))
    met-dropped (suc t) below others =
        let next : s + t + 1 ≡ s + suc t = omega arith in
        met-dropped t (omega arith) (λ k value less. others k value (omega arith))
        ∙ ap met (drop_more slots (s + t) None (omega arith))
        ∙ met-append (get_or slots (s + t) None ∷ []) (drop (s + t + 1) slots)
        ∙ ap (λ xs. xs ++ met (drop (s + t + 1) slots)) (met_other _ (λ value. others t value (omega arith)))
        ∙ ap (λ n. met (drop n slots)) next

  pub met_from :
      (slots : List (Option (ℕ × T))) (k : ℕ) (value : T)
      → k < length slots
      → get_or slots k None ≡ Some (hash, value)
      → met (drop k slots) ≡ value ∷ met (drop (k + 1) slots)
  met_from slots k value below is =
      ap met (drop_more slots k None below)
      ∙ met-append (get_or slots k None ∷ []) (drop (k + 1) slots)
      ∙ ap (λ xs. xs ++ met (drop (k + 1) slots)) (met_same _ value is)

-- a probe for a hash, in a table with an empty cell
module _
    {T : Type 0} (tags : List ℕ) (slots : List (Option (ℕ × T))) (hash : ℕ) (probed : IsProbed tags slots)
    (some : HasEmpty tags)
  where
    pub read_at :
        (k : ℕ)
        → k < length tags
        → get_or (from_home hash slots) k None ≡ slot_at slots ((hash + k) % length tags)
    read_at k below =
        from_home-at hash slots k None (omega (arith, probed.same_length))
        ∙ ap (λ n. slot_at slots ((hash + k) % n)) probed.same_length

    long : 0 < length tags → length (from_home hash slots) ≡ length tags
    long some = from_home-length hash slots (omega (arith, probed.same_length)) ∙ probed.same_length

    module _ (place : ℕ) (walk : IsReached tags hash place) where
      pub within : walk.steps < length tags
      within = steps_within tags hash walk.steps some walk.passed

      pub inside : walk.steps < length (from_home hash slots)
      inside = let below : walk.steps < length tags = within in omega (arith, long (omega arith))

      place_inside : place < length tags
      place_inside =
          subst (λ x. x < length tags) walk.is_there (mod-lt (hash + walk.steps) (let below : walk.steps < length tags = within in omega arith))

      module _ (value : T) (is : slot_at slots place ≡ Some (hash, value)) where
        pub read_here : get_or (from_home hash slots) walk.steps None ≡ Some (hash, value)
        read_here = read_at walk.steps within ∙ ap (slot_at slots) walk.is_there ∙ is

        pub used : 0 < slice_index tags place
        used =
            let suits : Suits (slice_index tags place) (Some (hash, value)) =
            subst (λ s. Suits (slice_index tags place) s) is (probed.suited place place_inside) in
            omega arith

      module _ (empty : slice_index tags place ≡ 0) where
        none_later :
            (k : ℕ) (value : T)
            → k < length (drop walk.steps (from_home hash slots))
            → get_or (drop walk.steps (from_home hash slots)) k None ≢ Some (hash, value)
        none_later k value below is =
            let low : walk.steps < length tags = within in
            let s : ℕ = walk.steps in
            let inside : s + k < length tags =
            omega (arith, length-drop s (from_home hash slots), long (omega arith)) in
            let there : slot_at slots ((hash + (s + k)) % length tags) ≡ Some (hash, value) =
            sym (read_at (s + k) inside) ∙ sym (get_or-drop s (from_home hash slots) k None) ∙ is in
            let reached : IsReached tags hash ((hash + (s + k)) % length tags) = probed.reached _ (hash, value) there in
            let reached_within : reached.steps < length tags =
            steps_within tags hash reached.steps some reached.passed in
            let same : reached.steps ≡ s + k =
            same_steps (length tags) hash reached.steps (s + k) reached_within inside reached.is_there in
            let not_used : slice_index tags ((hash + s) % length tags) ≡ 0 =
            ap (slice_index tags) walk.is_there ∙ empty in
            elim k as (λ j. k ≡ j → ⊥) [
              | zero ↦ λ first.
                  let at : (hash + (s + k)) % length tags ≡ place =
                  ap (λ x. (hash + x) % length tags) (let sum : s + k ≡ s = omega arith in sum) ∙ walk.is_there in
                  let suits : Suits (slice_index tags place) (slot_at slots place) = probed.suited place place_inside in
                  let tag : slice_index tags place ≡ tag_of hash =
                  subst (λ o. Suits (slice_index tags place) o) (ap (slot_at slots) (sym at) ∙ there) suits in
                  omega arith
              | suc j ↦ λ later.
                  let passed_it : 0 < slice_index tags ((hash + s) % length tags) = reached.passed s (omega arith) in
                  omega arith
            ] refl

        -- from an empty cell on no pair is under the hash
        pub met-ended : met hash (drop walk.steps (from_home hash slots)) ≡ []
        met-ended = met_none hash (drop walk.steps (from_home hash slots)) none_later

    -- what a walk from there passes by isn't under the hash
    pub others_on :
        (at place : ℕ) (walk : IsReached tags hash at) (by : PassesBy tags slots hash at place) (k : ℕ) (value : T)
        → walk.steps + by.walk.steps < length tags
        → k < by.walk.steps
        → get_or (from_home hash slots) (walk.steps + k) None ≢ Some (hash, value)
    others_on at place walk by k value within below is =
        let moved : (hash + (walk.steps + k)) % length tags ≡ (at + k) % length tags =
        sym (onward (length tags) hash walk.steps k) ∙ ap (λ x. (x + k) % length tags) walk.is_there in
        by.others k value below (ap (slot_at slots) (sym moved) ∙ sym (read_at (walk.steps + k) (omega arith)) ∙ is)
