-- How each change of the slots keeps them sound, and what the store becomes by it.
use Rattle.std.proofs.Common.{◌≡◌, ◌≢◌, ◌⊎◌, ℕ, zero, suc, ◌+◌, ◌-◌, ◌<◌, ◌≤◌, nat_eq, List, [], ◌∷◌, ◌++◌, map, length, get_or, set, Option, Some, None, is_some, IsSome, count_by, cond, slice_get, refl, sym, ap, subst, ◌∙◌, inl, inr, arith, length-set, min}
use Rattle.std.specs.List.{Contains, IsDistinct}
use Rattle.std.proofs.lemmas.Bool.{cases_eq, cases_lt}
use Rattle.std.proofs.lemmas.List.{map-set, map_push, length-map, length_push, get_or-map, get_or_past, get_or_append_left, get_or_push}
use Rattle.std.proofs.lemmas.List.Sums.{sum_by-set, sum_by_push}
use Rattle.std.proofs.lemmas.Option.{slice_get_within, slice_get-get_or, slice_get_read, get_or_from_slice_get}
use Rattle.iddqd.specs.declared.item_set.ItemSlot.{ItemSlot}
use Rattle.iddqd.specs.declared.item_set.ItemSlot.TheVariants.{Occupied, Vacant}
use Rattle.iddqd.proofs.StoreLemmas.{contains_head, contains_tail, contains_cases, contains_none}
use Rattle.iddqd.proofs.ChainLemmas.{Off, Off-occupied, Off-shorter, chain_of-is, slice_get-set_back, slice_get-set_same, IsChain-set, IsChain-distinct, IsChain-vacant}
use Rattle.iddqd.proofs.VacancyLemmas.{slots_counted}
use Rattle.iddqd.specs.Slots.{item_of, chain_of, store_of, IsChain, IsSoundWithin}
use Rattle.iddqd.specs.Store.{Store, sentinel, IsValid, first_or, next_index, inserted, removed, rebound}

module _ {T : Type 0} where
  -- the count of items after a write
  pub count-set :
      (slots : List (ItemSlot T)) (ix : ℕ) (old new : ItemSlot T)
      → slice_get slots ix ≡ Some old
      → count_by is_some (map item_of (set slots ix new)) + cond (is_some (item_of old)) 1 0 ≡ count_by is_some
      (map item_of slots) + cond (is_some (item_of new)) 1 0
  count-set slots ix old new found =
      let within = slice_get_within slots ix old found in
      let read : get_or (map item_of slots) ix None ≡ item_of old =
      get_or-map item_of slots ix old None within ∙ ap item_of (get_or_from_slice_get slots ix old old found) in
      let counted = sum_by-set (λ o. cond (is_some o) 1 0) (map item_of slots) ix (item_of new) None (omega (arith, length-map slots item_of)) in
      rw (map-set item_of slots ix new, ← read) counted

  -- a slot without an item is vacant
  vacant_at :
      (slots : List (ItemSlot T)) (ix : ℕ)
      → ix < length slots
      → get_or (map item_of slots) ix None ≡ None
      → (next : ℕ) × (slice_get slots ix ≡ Some (Vacant next))
  vacant_at [] ix within none = absurd (omega arith)
  vacant_at (Occupied x ∷ slots) zero within none = absurd (cc)
  vacant_at (Vacant next ∷ slots) zero within none = (next, refl)
  vacant_at (slot ∷ slots) (suc ix) within none = vacant_at slots ix (omega arith) none

  without_item :
      (slots : List (ItemSlot T)) (ix next : ℕ)
      → slice_get slots ix ≡ Some (Vacant next)
      → get_or (map item_of slots) ix None ≡ None
  without_item slots ix next found =
      get_or-map item_of slots ix (Vacant next) None (slice_get_within slots ix _ found)
      ∙ ap item_of (get_or_from_slice_get slots ix _ (Vacant next) found)

  -- what a read at a live index gives is the slot there
  pub read_at_live :
      (slots : List (ItemSlot T)) (ix : ℕ) (slot : ItemSlot T)
      → IsSome (get_or (map item_of slots) ix None)
      → slot ≡ get_or slots ix slot
      → slice_get slots ix ≡ Some slot
  read_at_live slots ix slot live read =
      let inside : ix < length (map item_of slots) = grind (arith, get_or_past) in
      slice_get_read slots (length slots) ix slot refl (omega (arith, length-map slots item_of)) read

  -- a slot with this item is occupied by it
  pub occupied_slot :
      (slots : List (ItemSlot T)) (ix : ℕ) (slot : ItemSlot T) (item : T)
      → slice_get slots ix ≡ Some slot
      → item_of slot ≡ Some item
      → slice_get slots ix ≡ Some (Occupied item)
  occupied_slot slots ix (Occupied old) item found is = let same : old ≡ item = cc in found ∙ ap (λ i. Some (Occupied i)) same
  occupied_slot slots ix (Vacant next) item found is = absurd (cc)

  -- an occupied slot gives its item
  pub item_at_occupied :
      (slots : List (ItemSlot T)) (ix : ℕ) (item : T)
      → slice_get slots ix ≡ Some (Occupied item)
      → get_or (map item_of slots) ix None ≡ Some item
  item_at_occupied slots ix item found =
      get_or-map item_of slots ix (Occupied item) None (slice_get_within slots ix _ found)
      ∙ ap item_of (get_or_from_slice_get slots ix _ (Occupied item) found)

  pub IsSoundWithin-none : (limit : ℕ) → limit ≤ sentinel → IsSoundWithin {T = T} limit [] sentinel 0
  unfolding IsDistinct
  IsSoundWithin-none limit named = record {
    sound = record {
      counted = refl;
      chain = [];
      distinct = tt;
      chained = refl;
      complete = λ ix next vacant. absurd (omega (arith, slice_get_within {A = ItemSlot T} [] ix _ vacant));
    };
    small = omega arith;
    named = named;
  }

  module _ {limit : ℕ} {slots : List (ItemSlot T)} {head len : ℕ} (bounded : IsSoundWithin limit slots head len) where
    -- each slot has an index
    all_named : length slots ≤ sentinel
    all_named = omega (arith, bounded.small, bounded.named)

    -- there are as many slots as items and links
    pub total : len + length bounded.sound.chain ≡ length slots
    total = slots_counted bounded.sound

    -- the walk over the vacant slots meets the chain
    pub free_is : chain_of (length slots) slots head ≡ bounded.sound.chain
    free_is = chain_of-is slots (length slots) head bounded.sound.chain all_named (omega (arith, total)) bounded.sound.chained

    -- the chain ends here, or begins with a vacant slot
    pub head_cases :
        ((head ≡ sentinel) × (bounded.sound.chain ≡ [])) ⊎
        ((next : ℕ) × (rest : List ℕ) × (head < length slots) × (bounded.sound.chain ≡ head ∷ rest) ×
        (slice_get slots head ≡ Some (Vacant next)) × IsChain slots next rest)
    head_cases = by_chain bounded.sound.chain bounded.sound.chained
      where
        by_chain :
            (list : List ℕ)
            → IsChain slots head list
            → ((head ≡ sentinel) × (list ≡ [])) ⊎
            ((next : ℕ) × (rest : List ℕ) × (head < length slots) × (list ≡ head ∷ rest) ×
            (slice_get slots head ≡ Some (Vacant next)) × IsChain slots next rest)
        by_chain [] p = inl (p, refl)
        by_chain (ix ∷ rest) p = inr (p.0, rest, slice_get_within slots head _ p.3, ap (λ i. i ∷ rest) p.1, p.3, p.4)

    -- a chain from the end is empty
    pub chain_at_end : head ≡ sentinel → bounded.sound.chain ≡ []
    chain_at_end ends =
        elim head_cases [ inl p ↦ p.1 | inr p ↦ absurd (omega (arith, p.2, all_named)) ]

    -- and an empty chain is one from the end
    pub head_at_end : chain_of (length slots) slots head ≡ [] → head ≡ sentinel
    head_at_end none =
        elim head_cases [ inl p ↦ p.0 | inr p ↦ let begins = sym free_is ∙ none in let goes_on = p.3 in absurd (cc) ]

    -- a chain from a vacant slot goes on by its link
    pub chain_from_vacant :
        (next : ℕ)
        → slice_get slots head ≡ Some (Vacant next)
        → (rest : List ℕ) × (bounded.sound.chain ≡ head ∷ rest) × IsChain slots next rest
    chain_from_vacant next found =
        let within = slice_get_within slots head _ found in
        elim head_cases [
          | inl p ↦ absurd (omega (arith, all_named, p.0))
          | inr p ↦
              let there = p.4 in
              let same : p.0 ≡ next = cc in
              (p.1, p.3, subst (λ n. IsChain slots n p.1) same p.5)
        ]

    -- before the end, the head is a vacant slot
    pub vacant_at_head : head ≢ sentinel → (next : ℕ) × (slice_get slots head ≡ Some (Vacant next))
    vacant_at_head before = elim head_cases [ inl p ↦ absurd (before p.0) | inr p ↦ (p.0, p.4) ]

    -- the first of the free indexes is the head, and names a vacant slot
    pub vacant_at_first :
        (ix : ℕ)
        → slice_get (chain_of (length slots) slots head) 0 ≡ Some ix
        → (head ≡ ix) × (next : ℕ) × (slice_get slots head ≡ Some (Vacant next))
    vacant_at_first ix first =
        let begins = ap (λ l. slice_get l 0) (sym free_is) ∙ first in
        elim head_cases [
          | inl p ↦ let none = sym (ap (λ l. slice_get l 0) p.1) ∙ begins in absurd (cc)
          | inr p ↦ let read = sym (ap (λ l. slice_get l 0) p.3) ∙ begins in let same : head ≡ ix = cc in (same, p.0, p.4)
        ]

    pub IsSoundWithin-vacate :
        (ix : ℕ) (item : T)
        → slice_get slots ix ≡ Some (Occupied item)
        → IsSoundWithin limit (set slots ix (Vacant head)) ix (len - 1)
    IsSoundWithin-vacate ix item found =
        let within = slice_get_within slots ix _ found in
        let count = count-set slots ix (Occupied item) (Vacant head) found in
        let written = slice_get-set_same slots ix (Vacant head) within in
        let chained : IsChain (set slots ix (Vacant head)) ix (ix ∷ bounded.sound.chain) =
        (head, refl, omega (arith, within, all_named), written, IsChain-set slots ix head (Vacant head) bounded.sound.chain (Off-occupied slots ix head item bounded.sound.chain found bounded.sound.chained) bounded.sound.chained) in
        record {
          sound = record {
            counted = omega (arith, bounded.sound.counted);
            chain = ix ∷ bounded.sound.chain;
            distinct = IsChain-distinct _ _ _ chained;
            chained = chained;
            complete = λ at next vacant. elim (cases_eq at ix) [
              | inl same ↦ subst (λ i. Contains (ix ∷ bounded.sound.chain) i) (sym same) (contains_head ix bounded.sound.chain)
              | inr other ↦ contains_tail ix at bounded.sound.chain (bounded.sound.complete at next (slice_get-set_back slots ix at _ _ other vacant))
            ];
          };
          small = omega (arith, bounded.small, length-set slots ix (Vacant head));
          named = bounded.named;
        }

    pub IsSoundWithin-push :
        (item : T)
        → head ≡ sentinel
        → length slots < limit
        → IsSoundWithin limit (slots ++ Occupied item ∷ []) head (len + 1)
    unfolding IsDistinct
    IsSoundWithin-push item ends below =
        let longer = length_push slots (Occupied item) in
        record {
          sound = record {
            counted = rw (map_push item_of slots (Occupied item), sum_by_push (λ o. cond (is_some o) 1 0) (map item_of slots) (Some item)) (ap (λ n. n + 1) bounded.sound.counted);
            chain = [];
            distinct = tt;
            chained = ends;
            complete = λ at next vacant. absurd (none_vacant at next vacant (cases_lt at (length slots)));
          };
          small = omega arith;
          named = bounded.named;
        }
      where
        none_vacant :
            (at next : ℕ)
            → slice_get (slots ++ Occupied item ∷ []) at ≡ Some (Vacant next)
            → ((at < length slots) ⊎ (length slots ≤ at))
            → ⊥
        none_vacant at next vacant (inl before) =
            let there = slice_get-get_or slots at (Occupied item) before ∙ ap Some (sym (get_or_append_left slots (Occupied item ∷ []) (Occupied item) at before) ∙ get_or_from_slice_get (slots ++ Occupied item ∷ []) at _ (Occupied item) vacant) in
            contains_none at (subst (λ l. Contains l at) (chain_at_end ends) (bounded.sound.complete at next there))
        none_vacant at next vacant (inr past) =
            let within = slice_get_within (slots ++ Occupied item ∷ []) at _ vacant in
            let last : length slots ≡ at = omega (arith, length_push slots (Occupied item)) in
            let pushed = get_or_push slots (Occupied item) (Occupied item) at last in
            let read = get_or_from_slice_get (slots ++ Occupied item ∷ []) at _ (Occupied item) vacant in
            cc

    pub IsSoundWithin-reuse :
        (next : ℕ) (item : T)
        → slice_get slots head ≡ Some (Vacant next)
        → IsSoundWithin limit (set slots head (Occupied item)) next (len + 1)
    IsSoundWithin-reuse next item found =
        let within = slice_get_within slots head _ found in
        let p = chain_from_vacant next found in
        let whole : IsChain slots head (head ∷ p.0) = (next, refl, omega (arith, within, all_named), found, p.2) in
        let off : Off head p.0 = Off-shorter slots head next (head ∷ p.0) p.0 whole (omega arith) p.2 in
        let chained = IsChain-set slots head next (Occupied item) p.0 off p.2 in
        record {
          sound = record {
            counted = omega (arith, bounded.sound.counted, count-set slots head (Vacant next) (Occupied item) found);
            chain = p.0;
            distinct = IsChain-distinct _ _ _ chained;
            chained = chained;
            complete = λ at link vacant. still_chained at link vacant (cases_eq at head);
          };
          small = omega (arith, bounded.small, length-set slots head (Occupied item));
          named = bounded.named;
        }
      where
        still_chained :
            (at link : ℕ)
            → slice_get (set slots head (Occupied item)) at ≡ Some (Vacant link)
            → ((at ≡ head) ⊎ (at ≡ head → ⊥))
            → Contains (chain_from_vacant next found).0 at
        still_chained at link vacant (inl same) =
            let within = slice_get_within slots head _ found in
            let written = slice_get-set_same slots head (Occupied item) within in
            let moved : slice_get (set slots head (Occupied item)) head ≡ Some (Vacant link) = subst (λ i. slice_get (set slots head (Occupied item)) i ≡ Some (Vacant link)) same vacant in
            absurd (cc)
        still_chained at link vacant (inr other) =
            let p = chain_from_vacant next found in
            let listed = bounded.sound.complete at link (slice_get-set_back slots head at _ _ other vacant) in
            elim (contains_cases head at p.0 (subst (λ l. Contains l at) p.1 listed)) [
              | inl same ↦ absurd (other (sym same))
              | inr rest ↦ rest
            ]

    -- another item in an occupied slot keeps all
    pub IsSoundWithin-rebind :
        (ix : ℕ) (old item : T)
        → slice_get slots ix ≡ Some (Occupied old)
        → IsSoundWithin limit (set slots ix (Occupied item)) head len
    IsSoundWithin-rebind ix old item found =
        let within = slice_get_within slots ix _ found in
        let written = slice_get-set_same slots ix (Occupied item) within in
        record {
          sound = record {
            counted = omega (arith, bounded.sound.counted, count-set slots ix (Occupied old) (Occupied item) found);
            chain = bounded.sound.chain;
            distinct = bounded.sound.distinct;
            chained = IsChain-set slots ix head (Occupied item) bounded.sound.chain (Off-occupied slots ix head old bounded.sound.chain found bounded.sound.chained) bounded.sound.chained;
            complete = λ at next vacant. elim (cases_eq at ix) [
              | inl same ↦ absurd (let moved : slice_get (set slots ix (Occupied item)) ix ≡ Some (Vacant next) = subst (λ i. slice_get (set slots ix (Occupied item)) i ≡ Some (Vacant next)) same vacant in cc)
              | inr other ↦ bounded.sound.complete at next (slice_get-set_back slots ix at _ _ other vacant)
            ];
          };
          small = omega (arith, bounded.small, length-set slots ix (Occupied item));
          named = bounded.named;
        }

    -- the next index is the head where it is vacant
    pub next-vacant : head ≢ sentinel → next_index (store_of slots head limit) ≡ head
    next-vacant before =
        let v = vacant_at_head before in
        let p = chain_from_vacant v.0 v.1 in
        ap (λ f. first_or f (length (map item_of slots))) (free_is ∙ p.1)

    -- the free indexes are distinct and exactly the vacant ones
    pub store-is-valid : IsValid (store_of slots head limit)
    store-is-valid =
        let free = free_is in
        let count = length-map slots item_of in
        record {
          distinct = subst (IsDistinct nat_eq) (sym free) bounded.sound.distinct;
          vacant = λ ix. (
            λ listed. let v = IsChain-vacant slots head bounded.sound.chain ix bounded.sound.chained (subst (λ l. Contains l ix) free listed) in
                (omega (arith, slice_get_within slots ix _ v.1, count), without_item slots ix v.0 v.1),
            λ vacant. let v = vacant_at slots ix (omega (arith, vacant.0, count)) vacant.1 in
                subst (λ l. Contains l ix) (sym free) (bounded.sound.complete ix v.0 v.1),
          );
          counted = omega (arith, ap length free, total, bounded.sound.counted, count);
          small = omega (arith, bounded.small, count);
          named = bounded.named;
        }

    -- where there is room, the count of items is below the limit
    pub len_below :
        (capacity : ℕ)
        → 1 ≤ length (chain_of (length slots) slots head) + (min capacity limit - length (map item_of slots))
        → len < limit
    len_below capacity room =
        omega (arith, ap length free_is, total, bounded.small, length-map slots item_of)

    -- where there is room and no slot is vacant, one more slot fits
    pub fits_at_end :
        (capacity : ℕ)
        → 1 ≤ length (chain_of (length slots) slots head) + (min capacity limit - length (map item_of slots))
        → head ≡ sentinel
        → (length slots < limit) × (length slots < capacity)
    fits_at_end capacity room ends =
        let none = ap length (free_is ∙ chain_at_end ends) in
        (omega (arith, length-map slots item_of), omega (arith, length-map slots item_of))

  abbrev store : ℕ → List (Option T) → List ℕ → Store T
  store limit items free = record { items = items; free = free; limit = limit }

  same_store : (limit : ℕ) (i j : List (Option T)) (f g : List ℕ) → i ≡ j → f ≡ g → store limit i f ≡ store limit j g
  same_store limit i j f g p q = ap (λ x. store limit x f) p ∙ ap (λ x. store limit j x) q

  module _ {limit : ℕ} {slots : List (ItemSlot T)} {head len : ℕ} (bounded : IsSoundWithin limit slots head len) where
    pub removed-is :
        (ix : ℕ) (item : T)
        → slice_get slots ix ≡ Some (Occupied item)
        → store_of (set slots ix (Vacant head)) ix limit ≡ removed (store_of slots head limit) ix
    unfolding IsSoundWithin-vacate
    removed-is ix item found =
        same_store limit _ _ _ _ (map-set item_of slots ix (Vacant head)) (free_is (IsSoundWithin-vacate bounded ix item found) ∙ ap (λ l. ix ∷ l) (sym (free_is bounded)))

    pub pushed-is :
        (item : T)
        → head ≡ sentinel
        → length slots < limit
        → store_of (slots ++ Occupied item ∷ []) head limit ≡ inserted (store_of slots head limit) item
    unfolding IsSoundWithin-push
    pushed-is item ends below =
        let none : chain_of (length slots) slots head ≡ [] = free_is bounded ∙ chain_at_end bounded ends in
        let after : chain_of (length (slots ++ Occupied item ∷ [])) (slots ++ Occupied item ∷ []) head ≡ [] = free_is (IsSoundWithin-push bounded item ends below) in
        same_store limit _ _ _ _ (map_push item_of slots (Occupied item)) after
        ∙ ap (λ f. inserted (store limit (map item_of slots) f) item) (sym none)

    reused-is :
        (next : ℕ) (item : T)
        → slice_get slots head ≡ Some (Vacant next)
        → store_of (set slots head (Occupied item)) next limit ≡ inserted (store_of slots head limit) item
    unfolding IsSoundWithin-reuse
    reused-is next item found =
        let p = chain_from_vacant bounded next found in
        let before : chain_of (length slots) slots head ≡ head ∷ p.0 = free_is bounded ∙ p.1 in
        same_store limit _ _ _ _ (map-set item_of slots head (Occupied item)) (free_is (IsSoundWithin-reuse bounded next item found))
        ∙ ap (λ f. inserted (store limit (map item_of slots) f) item) (sym before)

    pub rebound-is :
        (ix : ℕ) (old item : T)
        → slice_get slots ix ≡ Some (Occupied old)
        → store_of (set slots ix (Occupied item)) head limit ≡ rebound (store_of slots head limit) ix item
    unfolding IsSoundWithin-rebind
    rebound-is ix old item found =
        same_store limit _ _ _ _ (map-set item_of slots ix (Occupied item)) (free_is (IsSoundWithin-rebind bounded ix old item found) ∙ sym (free_is bounded))

    module _ (ix : ℕ) (first : slice_get (chain_of (length slots) slots head) 0 ≡ Some ix) where
      -- what a read at the first free index gives is the slot there
      pub read_at_first : (slot : ItemSlot T) → slot ≡ get_or slots ix slot → slice_get slots ix ≡ Some slot
      read_at_first slot read =
          let v = vacant_at_first bounded ix first in
          slice_get_read slots (length slots) ix slot refl (omega (arith, slice_get_within slots head _ v.2, v.0)) read

      -- it is within the slots
      pub first_within : ix < length slots
      first_within = let v = vacant_at_first bounded ix first in omega (arith, slice_get_within slots head _ v.2, v.0)

      -- and it is vacant
      pub first_not_occupied : (item : T) → slice_get slots ix ≡ Some (Occupied item) → ⊥
      first_not_occupied item found =
          let v = vacant_at_first bounded ix first in
          let there = v.2 in
          let same = ap (λ i. slice_get slots i) v.0 in
          cc

      pub IsSoundWithin-reuse_first :
          (next : ℕ) (item : T)
          → slice_get slots ix ≡ Some (Vacant next)
          → IsSoundWithin limit (set slots ix (Occupied item)) next (len + 1)
      IsSoundWithin-reuse_first next item found =
          let same = (vacant_at_first bounded ix first).0 in
          subst (λ i. IsSoundWithin limit (set slots i (Occupied item)) next (len + 1)) same (IsSoundWithin-reuse bounded next item (ap (λ i. slice_get slots i) same ∙ found))

      pub reused_first-is :
          (next : ℕ) (item : T)
          → slice_get slots ix ≡ Some (Vacant next)
          → store_of (set slots ix (Occupied item)) next limit ≡ inserted (store_of slots head limit) item
      reused_first-is next item found =
          let same = (vacant_at_first bounded ix first).0 in
          subst (λ i. store_of (set slots i (Occupied item)) next limit ≡ inserted (store_of slots head limit) item) same (reused-is next item (ap (λ i. slice_get slots i) same ∙ found))
