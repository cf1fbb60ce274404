-- Walks over the full places of a table, by a mask of those up to the end of sixteen.
use Rattle.std.proofs.Common.{◌≡◌, ◌∙◌, ℕ, zero, suc, ◌+◌, ◌-◌, ◌*◌, ◌/◌, ◌^◌, ◌<◌, ◌≤◌, ◌⊎◌, inl, inr, Bool, true, false, not, cond, leb, leb-true, ltb, ltb-true, ltb-false, List, [], ◌∷◌, Option, Some, None, map, length, take, drop, set, slice_index, refl, sym, ap, subst, arith, mul_comm, mul-suc, mul-div_cancel}
use lib.Bits.{bit_and}
use lib.Count.{count_trailing_zeros}
use lib.Lanes.{mask_l}
use Rattle.std.specs.List.{prefix_len}
use Rattle.std.proofs.lemmas.List.{drop-map, drop-take, drop-drop, drop_more, drop_all, drop-set-lt, length-set}
use Rattle.std.proofs.lemmas.Nat.{pow_pos, shr-shr, pow-add}
use Rattle.std.proofs.lemmas.Simd.{trailing_mask_l, run_in_chunk_fails, run_in_chunk_stops, none_from_empty_mask, length-chunk}
use Rattle.iddqd_hash.specs.OpenTable.{slot_at, pairs, NoneFull, IsPowerOfTwo, IsProbed, IsSound}
use Rattle.iddqd_hash.specs.OpenWalk.{is_full, full_mask, IsMultipleOf16, SomeFull, IsAhead, IsWalk}
use Rattle.iddqd_hash.proofs.LowestBitLemmas.{trailing-shifted, lowest_cleared}
use Rattle.iddqd_hash.proofs.OpenLaneLemmas.{not_full}
use Rattle.iddqd_hash.proofs.OpenSlotLemmas.{free_slot}

halved : (b : Bool) (n : ℕ) → (cond b 1 0 + 2 * n) / 2 ≡ n
halved true n = omega arith
halved false n = omega arith

-- a mask without its lowest bits
shifted : (ms : List Bool) (k : ℕ) → mask_l ms / 2 ^ k ≡ mask_l (drop k ms)
shifted ms zero = omega arith
shifted [] (suc k) = zero_div (2 ^ suc k)
  where
    zero_div : (n : ℕ) → 0 / n ≡ 0
    zero_div n = omega arith
shifted (b ∷ ms) (suc k) =
    let split : mask_l (b ∷ ms) / 2 ^ 1 / 2 ^ k ≡ mask_l (b ∷ ms) / 2 ^ (1 + k) = shr-shr (mask_l (b ∷ ms)) 1 k in
    let one : mask_l (b ∷ ms) / 2 ^ 1 ≡ mask_l ms = halved b (mask_l ms) in
    let same : 1 + k ≡ suc k = omega arith in
    ap (λ n. mask_l (b ∷ ms) / 2 ^ n) (sym same) ∙ sym split ∙ ap (λ n. n / 2 ^ k) one ∙ shifted ms k

first_below :
    {X : Type 0} (p : X → Bool) (xs : List X)
    → 0 < mask_l (map p xs)
    → prefix_len (λ x. not (p x)) xs < length xs
first_below p [] some = absurd (omega arith)
first_below p (x ∷ xs) some = by_first (p x) refl (first_below p xs)
  where
    by_first :
        (b : Bool)
        → p x ≡ b
        → (0 < mask_l (map p xs) → prefix_len (λ x. not (p x)) xs < length xs)
        → prefix_len (λ x. not (p x)) (x ∷ xs) < length (x ∷ xs)
    by_first true is further = rw is (omega arith)
    by_first false is further =
        let more : 0 < cond {A = ℕ} false 1 0 + 2 * mask_l (map p xs) =
        subst (λ b. 0 < cond {A = ℕ} b 1 0 + 2 * mask_l (map p xs)) is some in
        let rest : prefix_len (λ x. not (p x)) xs < length xs = further (omega arith) in
        rw is (omega arith)

-- a mask without the bits of the first places
pub full_mask-shifted :
    (tags : List ℕ) (at end n : ℕ)
    → at + n ≤ end
    → full_mask tags at end / 2 ^ n ≡ full_mask tags (at + n) end
full_mask-shifted tags at end n within =
    let m : ℕ = end - (at + n) in
    let parts : end - at ≡ n + m = omega arith in
    shifted (map is_full (take (end - at) (drop at tags))) n
    ∙ ap mask_l (drop-map is_full n (take (end - at) (drop at tags)))
    ∙ ap (λ k. mask_l (map is_full (drop n (take k (drop at tags))))) parts
    ∙ ap (λ xs. mask_l (map is_full xs)) (drop-take n m (drop at tags) ∙ ap (take m) (drop-drop n at tags))

some_of_product : (p n : ℕ) → 0 < p * n → 0 < n
some_of_product p zero some = absurd (omega arith)
some_of_product p (suc n) some = omega arith

none_of_product : (p n : ℕ) → 0 < p → p * n ≡ 0 → n ≡ 0
none_of_product p zero some none = refl
none_of_product p (suc n) some none = absurd (let parts : p * suc n ≡ p * n + p = mul-suc p n in omega arith)

module _ (tags : List ℕ) (at end mask : ℕ) (ahead : IsAhead tags at end mask) where
  abbrev chunk : List ℕ
  chunk = take (end - at) (drop at tags)

  -- how many of the sixteen places are before the one that the walk goes on at
  abbrev passed : ℕ
  passed = at + 16 - end

  room : at + (end - at) ≤ length tags
  room = let before : at ≤ end = ahead.before_end in let inside : end ≤ length tags = ahead.inside in omega arith

  -- no bit is set
  pub gaps-to_end : mask ≡ 0 → NoneFull tags at (end - at)
  gaps-to_end none =
      let clear : full_mask tags at end ≡ 0 =
      none_of_product (2 ^ passed) (full_mask tags at end) (pow_pos passed) (sym ahead.masked ∙ none) in
      λ k from to. not_full _ (none_from_empty_mask is_full tags at (end - at) 0 room clear k from to)

  module _ (some : 0 < mask) where
    some_set : 0 < full_mask tags at end
    some_set = some_of_product (2 ^ passed) (full_mask tags at end) (subst (λ m. 0 < m) ahead.masked some)

    -- the gaps before the first full place
    abbrev gaps : ℕ
    gaps = prefix_len (λ x. not (is_full x)) chunk

    counted : count_trailing_zeros 64 mask ≡ passed + gaps
    counted =
        let long : length chunk ≡ end - at = length-chunk at (end - at) tags room in
        let near : end ≤ at + 16 = ahead.near in
        let before : at ≤ end = ahead.before_end in
        let wide : 64 ≡ passed + (64 - passed) = omega arith in
        ap (count_trailing_zeros 64) ahead.masked
        ∙ ap (λ k. count_trailing_zeros k (2 ^ passed * full_mask tags at end)) wide
        ∙ trailing-shifted passed (64 - passed) (full_mask tags at end)
        ∙ ap (λ n. passed + n) (trailing_mask_l is_full (64 - passed) chunk (omega arith) some_set)

    below : gaps < end - at
    below =
        let long : length chunk ≡ end - at = length-chunk at (end - at) tags room in
        let less : gaps < length chunk = first_below is_full chunk some_set in
        omega arith

    pub sixteen_before : 16 ≤ end
    sixteen_before =
        let some_left : gaps < end - at = below in
        let n : ℕ = ahead.in_sixteens.0 in
        let is : end ≡ 16 * n = ahead.in_sixteens.1 in
        omega arith

    first-is : end - 16 + count_trailing_zeros 64 mask ≡ at + gaps
    first-is =
        let near : end ≤ at + 16 = ahead.near in
        let enough : 16 ≤ end = sixteen_before in
        let count : count_trailing_zeros 64 mask ≡ passed + gaps = counted in
        omega arith

    pub first-onward : at ≤ end - 16 + count_trailing_zeros 64 mask
    first-onward = let is : end - 16 + count_trailing_zeros 64 mask ≡ at + gaps = first-is in omega arith

    pub first-inside : end - 16 + count_trailing_zeros 64 mask < end
    first-inside =
        let is : end - 16 + count_trailing_zeros 64 mask ≡ at + gaps = first-is in
        let less : gaps < end - at = below in
        omega arith

    pub first-gaps : NoneFull tags at (end - 16 + count_trailing_zeros 64 mask - at)
    first-gaps =
        let is : end - 16 + count_trailing_zeros 64 mask ≡ at + gaps = first-is in
        λ k from to. not_full _ (run_in_chunk_fails is_full tags at (end - at) gaps 0 room refl k from (omega arith))

    pub first-full : 128 ≤ slice_index tags (end - 16 + count_trailing_zeros 64 mask)
    first-full =
        subst (λ k. 128 ≤ slice_index tags k) (sym first-is) (leb-true 128 _ (run_in_chunk_stops is_full tags at (end - at) gaps 0 room refl below))

    -- the places behind the first full one
    mask_behind :
        mask / 2 ^ (count_trailing_zeros 64 mask + 1) ≡ full_mask tags (end - 16 + count_trailing_zeros 64 mask + 1) end
    mask_behind =
        let is : end - 16 + count_trailing_zeros 64 mask ≡ at + gaps = first-is in
        let less : gaps < end - at = below in
        let count : count_trailing_zeros 64 mask ≡ passed + gaps = counted in
        let parts : count_trailing_zeros 64 mask + 1 ≡ passed + (gaps + 1) = omega arith in
        let place : at + (gaps + 1) ≡ end - 16 + count_trailing_zeros 64 mask + 1 = omega arith in
        let turned : mask ≡ full_mask tags at end * 2 ^ passed =
        ahead.masked ∙ mul_comm (2 ^ passed) (full_mask tags at end) in
        let whole : mask / 2 ^ passed ≡ full_mask tags at end =
        ap (λ m. m / 2 ^ passed) turned ∙ mul-div_cancel (full_mask tags at end) (pow_pos passed) in
        ap (λ n. mask / 2 ^ n) parts
        ∙ sym (shr-shr mask passed (gaps + 1))
        ∙ ap (λ m. m / 2 ^ (gaps + 1)) whole
        ∙ full_mask-shifted tags at end (gaps + 1) (omega arith)
        ∙ ap (λ n. full_mask tags n end) place

    pub IsAhead-behind :
        mask < 2 ^ 64
        → IsAhead tags (end - 16 + count_trailing_zeros 64 mask + 1) end (bit_and mask (mask - 1))
    IsAhead-behind fits =
        let onward : at ≤ end - 16 + count_trailing_zeros 64 mask = first-onward in
        let within : end - 16 + count_trailing_zeros 64 mask < end = first-inside in
        let enough : 16 ≤ end = sixteen_before in
        let up : count_trailing_zeros 64 mask + 1 ≡ end - 16 + count_trailing_zeros 64 mask + 1 + 16 - end =
        omega arith in
        record {
          before_end = omega arith;
          near = omega (arith, ahead.near);
          inside = ahead.inside;
          in_sixteens = ahead.in_sixteens;
          masked =
              lowest_cleared 64 mask some fits
              ∙ ap (λ m. 2 ^ (count_trailing_zeros 64 mask + 1) * m) mask_behind
              ∙ ap (λ n. 2 ^ n * full_mask tags (end - 16 + count_trailing_zeros 64 mask + 1) end) up;
        }

-- if a place after the end of the sixteen is full, sixteen places are there
pub sixteen_more :
    (count end k : ℕ)
    → IsMultipleOf16 count
    → IsMultipleOf16 end
    → end ≤ k
    → k < count
    → end + 16 ≤ count
sixteen_more count end k (n, is) (m, end_is) from below =
    let fewer : m < n = omega arith in
    omega arith

pub IsAhead-next :
    (tags : List ℕ) (end mask : ℕ)
    → IsMultipleOf16 end
    → end + 16 ≤ length tags
    → mask ≡ full_mask tags end (end + 16)
    → IsAhead tags end (end + 16) mask
IsAhead-next tags end mask (n, is) inside read =
    record {
      before_end = omega arith;
      near = omega arith;
      inside = inside;
      in_sixteens = (n + 1, omega arith);
      masked =
          read ∙ (let one : full_mask tags end (end + 16) ≡ 2 ^ 0 * full_mask tags end (end + 16) = omega arith in one)
          ∙ ap (λ n. 2 ^ n * full_mask tags end (end + 16)) (let none : 0 ≡ end + 16 - (end + 16) = omega arith in none);
    }

IsAhead-start : (tags : List ℕ) → IsAhead tags 0 0 0
IsAhead-start tags =
    record {
      before_end = omega arith;
      near = omega arith;
      inside = omega arith;
      in_sixteens = (0, refl);
      masked = omega arith;
    }

pub IsAhead-none : (tags : List ℕ) (at end mask : ℕ) → at ≡ 0 → end ≡ 0 → mask ≡ 0 → IsAhead tags at end mask
IsAhead-none tags at end mask no_at no_end no_mask = rw (no_at, no_end, no_mask) (IsAhead-start tags)

-- a tag that the walk has passed may change
pub IsAhead-set :
    (tags : List ℕ) (at end mask place tag : ℕ)
    → place < at
    → IsAhead tags at end mask
    → IsAhead (set tags place tag) at end mask
IsAhead-set tags at end mask place tag before ahead =
    record {
      before_end = ahead.before_end;
      near = ahead.near;
      inside = omega (arith, length-set tags place tag, ahead.inside);
      in_sixteens = ahead.in_sixteens;
      masked =
          ahead.masked
          ∙ ap (λ xs. 2 ^ (at + 16 - end) * mask_l (map is_full (take (end - at) xs))) (sym (drop-set-lt at tags place tag before));
    }

pub IsMultipleOf16-count : (n : ℕ) → (n ≡ 0) ⊎ IsPowerOfTwo n → IsMultipleOf16 n
IsMultipleOf16-count n (inl none) = (0, none)
IsMultipleOf16-count n (inr (k, is)) =
    let parts : 2 ^ (k + 4) ≡ 2 ^ k * 2 ^ 4 = pow-add 2 k 4 in
    (2 ^ k, omega arith)

inside_full : (tags : List ℕ) (at : ℕ) → 128 ≤ slice_index tags at → at < length tags
inside_full [] at full = absurd (omega arith)
inside_full (tag ∷ tags) zero full = omega arith
inside_full (tag ∷ tags) (suc at) full = omega (arith, inside_full tags at full)

-- the pairs from a place on
module _ {T : Type 0} where
  pairs_one :
      (slots : List (Option (ℕ × T))) (at : ℕ) (slot : Option (ℕ × T))
      → at < length slots
      → slot_at slots at ≡ slot
      → pairs (drop at slots) ≡ pairs (slot ∷ drop (at + 1) slots)
  pairs_one slots at slot below is = ap pairs (drop_more slots at None below ∙ ap (λ s. s ∷ drop (at + 1) slots) is)

  pairs_skip :
      (slots : List (Option (ℕ × T))) (at run : ℕ)
      → at + run ≤ length slots
      → ((k : ℕ) → at ≤ k → k < at + run → slot_at slots k ≡ None)
      → pairs (drop at slots) ≡ pairs (drop (at + run) slots)
  pairs_skip slots at zero within none = ap (λ n. pairs (drop n slots)) (let same : at ≡ at + 0 = omega arith in same)
  pairs_skip slots at (suc run) within none =
      pairs_skip slots at run (omega arith) (λ k from to. none k from (omega arith))
      ∙ pairs_one slots (at + run) None (omega arith) (none (at + run) (omega arith) (omega arith))
      ∙ ap (λ n. pairs (drop n slots)) (let same : at + run + 1 ≡ at + suc run = omega arith in same)

  module _ (tags : List ℕ) (slots : List (Option (ℕ × T))) (probed : IsProbed tags slots) where
    pub pairs-gaps :
        (at to : ℕ)
        → at ≤ to
        → to ≤ length tags
        → NoneFull tags at (to - at)
        → pairs (drop at slots) ≡ pairs (drop to slots)
    pairs-gaps at to onward inside gaps =
        pairs_skip slots at (to - at) (omega (arith, probed.same_length)) (λ k from below. free_slot _ _ (probed.suited k (omega arith)) (gaps k from below))
        ∙ ap (λ n. pairs (drop n slots)) (let same : at + (to - at) ≡ to = omega arith in same)

    pub pairs-full :
        (at to : ℕ) (pair : ℕ × T)
        → at ≤ to
        → to < length tags
        → NoneFull tags at (to - at)
        → slot_at slots to ≡ Some pair
        → pairs (drop at slots) ≡ pair ∷ pairs (drop (to + 1) slots)
    pairs-full at to pair onward inside gaps is =
        pairs-gaps at to onward (omega arith) gaps
        ∙ pairs_one slots to (Some pair) (omega (arith, probed.same_length)) is

    -- if there are pairs, some place is full
    pub SomeFull-pairs : (fuel at : ℕ) → length tags ≤ at + fuel → 0 < length (pairs (drop at slots)) → SomeFull tags at
    SomeFull-pairs zero at short some =
        absurd (let none : drop at slots ≡ [] = drop_all at slots (omega (arith, probed.same_length)) in let never : 0 < length (pairs {T = T} []) = subst (λ xs. 0 < length (pairs xs)) none some in omega arith)
    SomeFull-pairs (suc fuel) at short some =
        by_tag (leb 128 (slice_index tags at)) refl (SomeFull-pairs fuel (at + 1) (omega arith))
      where
        by_tag :
            (b : Bool)
            → leb 128 (slice_index tags at) ≡ b
            → (0 < length (pairs (drop (at + 1) slots)) → SomeFull tags (at + 1))
            → SomeFull tags at
        by_tag true is further =
            let full : 128 ≤ slice_index tags at = leb-true 128 _ is in
            (at, omega arith, inside_full tags at full, full)
        by_tag false is further =
            let here : NoneFull tags at (at + 1 - at) =
            λ k from to. subst (λ n. slice_index tags n < 128) (let same : at ≡ k = omega arith in same) (not_full _ is) in
            let found : SomeFull tags (at + 1) = further (some_behind here) in
            (found.0, omega (arith, found.1), found.2, found.3)
          where
            some_behind : NoneFull tags at (at + 1 - at) → 0 < length (pairs (drop (at + 1) slots))
            some_behind here =
                elim (ltb at (length tags)) as (λ b. ltb at (length tags) ≡ b → 0 < length (pairs (drop (at + 1) slots))) [
                  | true ↦ λ inside. subst (λ es. 0 < length es) (pairs-gaps at (at + 1) (omega arith) (let below : at < length tags = ltb-true _ _ inside in omega arith) here) some
                  | false ↦ λ past.
                      let beyond : length tags ≤ at = ltb-false _ _ past in
                      let none : drop at slots ≡ [] = drop_all at slots (omega (arith, probed.same_length)) in
                      absurd (let never : 0 < length (pairs {T = T} []) = subst (λ xs. 0 < length (pairs xs)) none some in omega arith)
                ] refl

-- gaps up to a place, and gaps from there on
pub gaps_on :
    (tags : List ℕ) (from at to : ℕ)
    → from ≤ at
    → at ≤ to
    → NoneFull tags from (at - from)
    → NoneFull tags at (to - at)
    → NoneFull tags from (to - from)
gaps_on tags from at to before behind first rest k past below =
    elim (ltb k at) as (λ b. ltb k at ≡ b → slice_index tags k < 128) [
      | true ↦ λ is. let near : k < at = ltb-true _ _ is in first k past (omega arith)
      | false ↦ λ is. let far : at ≤ k = ltb-false _ _ is in rest k far (omega arith)
    ] refl

-- a full place is behind the gaps
pub full_behind :
    (tags : List ℕ) (from to : ℕ)
    → from ≤ to
    → NoneFull tags from (to - from)
    → SomeFull tags from
    → SomeFull tags to
full_behind tags from to onward gaps (k, past, below, full) =
    elim (ltb k to) as (λ b. ltb k to ≡ b → SomeFull tags to) [
      | true ↦ λ is. absurd (let near : k < to = ltb-true _ _ is in let small : slice_index tags k < 128 = gaps k past (omega arith) in omega arith)
      | false ↦ λ is. (k, ltb-false _ _ is, below, full)
    ] refl

-- Where no bit is set, no place up to the end is full, and there are sixteen more.
module _
    (tags : List ℕ) (from at end mask : ℕ) (ahead : IsAhead tags at end mask) (onward : from ≤ at)
    (gaps : NoneFull tags from (at - from)) (none : mask ≡ 0)
  where
    pub gaps-passed : NoneFull tags from (end - from)
    gaps-passed = gaps_on tags from at end onward ahead.before_end gaps (gaps-to_end tags at end mask ahead none)

    pub sixteen-behind : IsMultipleOf16 (length tags) → SomeFull tags from → end + 16 ≤ length tags
    sixteen-behind sixteens some =
        let before : at ≤ end = ahead.before_end in
        let further : SomeFull tags end = full_behind tags from end (omega arith) gaps-passed some in
        sixteen_more _ _ further.0 sixteens ahead.in_sixteens further.1 further.2

pub IsWalk-start :
    {T : Type 0} (tags : List ℕ) (slots : List (Option (ℕ × T))) (at end mask len used : ℕ)
    → IsSound tags slots len used
    → at ≡ 0
    → end ≡ 0
    → mask ≡ 0
    → IsWalk tags slots at end mask len
IsWalk-start tags slots at end mask len used sound no_at no_end no_mask =
    record {
      count = sound.count;
      probed = sound.probed;
      ahead = IsAhead-none tags at end mask no_at no_end no_mask;
      counted = rw no_at sound.counted;
    }
