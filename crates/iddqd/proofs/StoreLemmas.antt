-- For callers: the steps of a store keep its free indexes distinct and exactly the vacant ones.
use Rattle.std.proofs.Common.{◌≡◌, ◌≢◌, ◌⊎◌, ◌<◌, ◌≤◌, ℕ, zero, suc, false, nat_eq, cond, List, [], ◌∷◌, ◌++◌, length, get_or, set, slice_get, Option, Some, None, is_some, IsSome, count_by, ◌+◌, refl, sym, ap, subst, ◌∙◌, inl, inr, arith, length-set}
use Rattle.std.specs.List.{Contains, IsDistinct, All}
use Rattle.std.proofs.lemmas.Bool.{cases_eq, cases_lt}
use Rattle.std.proofs.lemmas.Grind.{common_steps}
use Rattle.std.proofs.lemmas.List.{get_or_past, get_or-set_same, get_or-set_other, get_or_append_left, get_or_push, length_push}
use Rattle.std.proofs.lemmas.List.Elements.{Contains-get_or, recursion_from_All, All-from_recursion, All-contains}
use Rattle.std.proofs.lemmas.List.Sums.{sum_by-set, sum_by_push}
use Rattle.std.proofs.lemmas.Map.Keys.{IsDistinct-cons, IsDistinct-head, IsDistinct-tail}
use Rattle.iddqd.specs.Store.{Store, get, slot_limit, slot_count, next_index, first_or, IsVacant, IsValid, IsFull, empty_within, cleared, inserted, removed, rebound}
use Rattle.iddqd.specs.ItemSet.{GrowsIfDense}

module _ {A : Type 0} where
  pub contains_head : (x : A) (xs : List A) → Contains (x ∷ xs) x
  contains_head x xs = (0, omega arith, refl)

  pub contains_tail : (y x : A) (xs : List A) → Contains xs x → Contains (y ∷ xs) x
  contains_tail y x xs p = (suc p.0, omega (arith, p.1), p.2)

  -- an element of a list is its first, or one of the others
  pub contains_cases : (y x : A) (xs : List A) → Contains (y ∷ xs) x → (y ≡ x) ⊎ Contains xs x
  contains_cases y x xs p = by_place p.0 p.1 p.2
    where
      by_place : (k : ℕ) → k < suc (length xs) → get_or (y ∷ xs) k x ≡ x → (y ≡ x) ⊎ Contains xs x
      by_place zero within read = inl read
      by_place (suc k) within read = inr (k, omega arith, read)

  pub contains_none : (x : A) → Contains [] x → ⊥
  contains_none x p = omega (arith, p.1)

-- two numbers that differ, by the test
pub differs : (a b : ℕ) → a ≢ b → nat_eq a b ≡ false
differs a b other = grind (arith, common_steps, other)

pub same_if : (a b : ℕ) → nat_eq a b ≡ false → a ≢ b
same_if a b test same = grind (arith, common_steps, test, same)

module _ {T : Type 0} where
  -- a live index is that of a slot
  pub live_within : (items : List (Option T)) (ix : ℕ) → IsSome (get_or items ix None) → ix < length items
  live_within items ix live =
      elim (cases_lt ix (length items)) [
        | inl within ↦ within
        | inr past ↦ let none = get_or_past items ix None past in absurd (cc)
      ]

  -- an index that isn't live gives nothing
  pub none_where_not_live : (s : Store T) (ix : ℕ) → (IsSome (get s ix) → ⊥) → get s ix ≡ None
  none_where_not_live s ix not_live = by_item (get s ix) not_live
    where
      by_item : (item : Option T) → (IsSome item → ⊥) → item ≡ None
      by_item None not_live = refl
      by_item (Some item) not_live = absurd (not_live refl)

  pub IsValid-empty : (limit : ℕ) → limit ≤ slot_limit → IsValid (empty_within {T = T} limit)
  unfolding IsDistinct
  IsValid-empty limit named = record {
    distinct = tt;
    vacant = λ ix. (λ listed. absurd (contains_none ix listed), λ vacant. absurd (omega (arith, vacant.0)));
    counted = omega arith;
    small = omega arith;
    named = named;
  }

  pub IsValid-cleared : (s : Store T) → IsValid s → IsValid (cleared s)
  IsValid-cleared s valid = IsValid-empty s.limit valid.named

  -- a live index is not free
  live_not_free :
      (s : Store T) (ix : ℕ) (item : T)
      → IsValid s
      → get s ix ≡ Some item
      → (other : ℕ)
      → Contains s.free other
      → ix ≢ other
  live_not_free s ix item valid live other listed same =
      let none = ((valid.vacant other).0 listed).1 in
      let here = ap (λ i. get s i) same in
      cc

  pub IsValid-removed : (s : Store T) (ix : ℕ) (item : T) → IsValid s → get s ix ≡ Some item → IsValid (removed s ix)
  IsValid-removed s ix item valid live =
      let within = live_within s.items ix (ap is_some live) in
      record {
        distinct = IsDistinct-cons nat_eq ix s.free (recursion_from_All (λ y. nat_eq ix y ≡ false) s.free not_free) valid.distinct;
        vacant = λ other. (λ listed. freed other (contains_cases ix other s.free listed), λ vacant. listed_if other vacant (cases_eq other ix));
        counted =
            let count = sum_by-set (λ o. cond (is_some o) 1 0) s.items ix None None within in
            let before = rw live at count in
            omega (arith, valid.counted, before, length-set s.items ix None);
        small = omega (arith, valid.small, length-set s.items ix None);
        named = valid.named;
      }
    where
      not_free : All (λ y. nat_eq ix y ≡ false) s.free
      not_free = λ k d inside. differs ix (get_or s.free k d) (live_not_free s ix item valid live (get_or s.free k d) (Contains-get_or s.free k d inside))

      freed : (other : ℕ) → ((ix ≡ other) ⊎ Contains s.free other) → IsVacant (removed s ix) other
      freed other (inl same) =
          let within = live_within s.items ix (ap is_some live) in
          subst (IsVacant (removed s ix)) same (omega (arith, within, length-set s.items ix None), get_or-set_same s.items ix None None within)
      freed other (inr listed) =
          let was = (valid.vacant other).0 listed in
          let apart : other ≢ ix = λ same. live_not_free s ix item valid live other listed (sym same) in
          (omega (arith, was.0, length-set s.items ix None), get_or-set_other s.items ix other None None apart ∙ was.1)

      listed_if :
          (other : ℕ)
          → IsVacant (removed s ix) other
          → ((other ≡ ix) ⊎ (other ≡ ix → ⊥))
          → Contains (ix ∷ s.free) other
      listed_if other vacant (inl same) = subst (λ i. Contains (ix ∷ s.free) i) (sym same) (contains_head ix s.free)
      listed_if other vacant (inr apart) =
          contains_tail ix other s.free ((valid.vacant other).1 (omega (arith, vacant.0, length-set s.items ix None), sym (get_or-set_other s.items ix other None None apart) ∙ vacant.1))

  -- a live index that is given another item has it
  pub get-rebound_at : (s : Store T) (ix : ℕ) (item x : T) → get s ix ≡ Some x → get (rebound s ix item) ix ≡ Some item
  get-rebound_at s ix item x live = get_or-set_same s.items ix (Some item) None (live_within s.items ix (ap is_some live))

  -- and the others give what they gave
  pub get-rebound_other :
      (s : Store T) (ix other : ℕ) (item : T)
      → other ≢ ix
      → get (rebound s ix item) other ≡ get s other
  get-rebound_other s ix other item apart = get_or-set_other s.items ix other (Some item) None apart

  pub IsValid-rebound :
      (s : Store T) (ix : ℕ) (item x : T)
      → IsValid s
      → get s ix ≡ Some x
      → IsValid (rebound s ix item)
  IsValid-rebound s ix item x valid live =
      let within = live_within s.items ix (ap is_some live) in
      let same = length-set s.items ix (Some item) in
      record {
        distinct = valid.distinct;
        vacant = λ other. (λ listed. still other listed, λ vacant. listed_if other vacant (cases_eq other ix));
        counted =
            let count = sum_by-set (λ o. cond (is_some o) 1 0) s.items ix (Some item) None within in
            let before = rw live at count in
            omega (arith, valid.counted, before, same);
        small = omega (arith, valid.small, same);
        named = valid.named;
      }
    where
      still : (other : ℕ) → Contains s.free other → IsVacant (rebound s ix item) other
      still other listed =
          let was = (valid.vacant other).0 listed in
          let apart : other ≢ ix = λ same. live_not_free s ix x valid live other listed (sym same) in
          (omega (arith, was.0, length-set s.items ix (Some item)), get-rebound_other s ix other item apart ∙ was.1)

      listed_if :
          (other : ℕ)
          → IsVacant (rebound s ix item) other
          → ((other ≡ ix) ⊎ (other ≡ ix → ⊥))
          → Contains s.free other
      listed_if other vacant (inl same) =
          let none : get (rebound s ix item) ix ≡ None = subst (λ i. get (rebound s ix item) i ≡ None) same vacant.1 in
          let bound = get-rebound_at s ix item x live in
          absurd (cc)
      listed_if other vacant (inr apart) =
          (valid.vacant other).1 (omega (arith, vacant.0, length-set s.items ix (Some item)), sym (get-rebound_other s ix other item apart) ∙ vacant.1)

  -- where the next index is that of a new slot, nothing is free
  pub none_free : (s : Store T) → IsValid s → next_index s ≡ slot_count s → s.free ≡ []
  none_free s valid new = by_free s.free (λ ix listed. ((valid.vacant ix).0 listed).0) new
    where
      by_free :
          (free : List ℕ)
          → ((ix : ℕ) → Contains free ix → ix < slot_count s)
          → first_or free (slot_count s) ≡ slot_count s
          → free ≡ []
      by_free [] within new = refl
      by_free (ix ∷ rest) within new = absurd (omega (arith, within ix (contains_head ix rest), new))

  -- and else it is the first of the free
  pub first_free : (s : Store T) → next_index s ≢ slot_count s → slice_get s.free 0 ≡ Some (next_index s)
  first_free s old = by_free s.free old
    where
      by_free :
          (free : List ℕ)
          → first_or free (slot_count s) ≢ slot_count s
          → slice_get free 0 ≡ Some (first_or free (slot_count s))
      by_free [] old = absurd (old refl)
      by_free (ix ∷ rest) old = refl

  -- an insert makes a slot only where no slot is vacant
  pub GrowsIfDense-inserted : (s : Store T) (item : T) → IsValid s → GrowsIfDense s (inserted s item)
  GrowsIfDense-inserted s item valid = by_free s.items s.free valid.counted
    where
      by_free :
          (items : List (Option T)) (free : List ℕ)
          → count_by is_some items + length free ≡ length items
          → GrowsIfDense (record { items = items; free = free; limit = s.limit })
          (inserted (record { items = items; free = free; limit = s.limit }) item)
      by_free items [] counted = record { dense = λ _. length_push items (Some item); vacant = λ below. absurd (omega arith) }
      by_free items (ix ∷ rest) counted = record { dense = λ all. absurd (omega arith); vacant = λ _. length-set items ix (Some item) }

  pub IsValid-inserted : (s : Store T) (item : T) → IsValid s → (IsFull s → ⊥) → IsValid (inserted s item)
  unfolding IsDistinct
  IsValid-inserted s item valid not_full = by_free s.items s.free valid not_full
    where
      at_end :
          (items : List (Option T))
          → IsValid (record { items = items; free = []; limit = s.limit })
          → (IsFull {T = T} (record { items = items; free = []; limit = s.limit }) → ⊥)
          → IsValid (inserted (record { items = items; free = []; limit = s.limit }) item)
      at_end items valid not_full =
          record {
            distinct = tt;
            vacant = λ ix. (λ listed. absurd (contains_none ix listed), λ vacant. absurd (none_vacant ix vacant (cases_lt ix (length items))));
            counted = rw (sum_by_push (λ o. cond (is_some o) 1 0) items (Some item)) (omega (arith, valid.counted, length_push items (Some item)));
            small = below (cases_eq (length items) s.limit);
            named = valid.named;
          }
        where
          none_vacant :
              (ix : ℕ)
              → IsVacant (inserted (record { items = items; free = []; limit = s.limit }) item) ix
              → ((ix < length items) ⊎ (length items ≤ ix))
              → ⊥
          none_vacant ix vacant (inl before) =
              contains_none ix ((valid.vacant ix).1 (before, sym (get_or_append_left items (Some item ∷ []) None ix before) ∙ vacant.1))
          none_vacant ix vacant (inr past) =
              let last : length items ≡ ix = omega (arith, vacant.0, length_push items (Some item)) in
              let pushed = get_or_push items (Some item) None ix last in
              let none = vacant.1 in
              cc

          below : ((length items ≡ s.limit) ⊎ (length items ≡ s.limit → ⊥)) → length (items ++ Some item ∷ []) ≤ s.limit
          below (inl most) = absurd (not_full (refl, most))
          below (inr fewer) = omega (arith, valid.small, length_push items (Some item))

      reused :
          (items : List (Option T)) (ix : ℕ) (rest : List ℕ)
          → IsValid (record { items = items; free = ix ∷ rest; limit = s.limit })
          → IsValid (inserted (record { items = items; free = ix ∷ rest; limit = s.limit }) item)
      reused items ix rest valid =
          let first = (valid.vacant ix).0 (contains_head ix rest) in
          record {
            distinct = IsDistinct-tail nat_eq ix rest valid.distinct;
            vacant = λ other. (λ listed. still other listed, λ vacant. listed_if other vacant (cases_eq other ix));
            counted =
                let count = sum_by-set (λ o. cond (is_some o) 1 0) items ix (Some item) None first.0 in
                let none = first.1 in
                let before = rw none at count in
                omega (arith, valid.counted, before, length-set items ix (Some item));
            small = omega (arith, valid.small, length-set items ix (Some item));
            named = valid.named;
          }
        where
          not_again : (other : ℕ) → Contains rest other → ix ≢ other
          not_again other listed = same_if ix other (All-contains (λ y. nat_eq ix y ≡ false) rest other (All-from_recursion (λ y. nat_eq ix y ≡ false) rest (IsDistinct-head nat_eq ix rest valid.distinct)) listed)

          still :
              (other : ℕ)
              → Contains rest other
              → IsVacant (inserted (record { items = items; free = ix ∷ rest; limit = s.limit }) item) other
          still other listed =
              let was = (valid.vacant other).0 (contains_tail ix other rest listed) in
              let apart : other ≢ ix = λ same. not_again other listed (sym same) in
              (omega (arith, was.0, length-set items ix (Some item)), get_or-set_other items ix other (Some item) None apart ∙ was.1)

          by_place : (other : ℕ) → (other ≡ ix → ⊥) → ((ix ≡ other) ⊎ Contains rest other) → Contains rest other
          by_place other apart (inl same) = absurd (apart (sym same))
          by_place other apart (inr later) = later

          listed_if :
              (other : ℕ)
              → IsVacant (inserted (record { items = items; free = ix ∷ rest; limit = s.limit }) item) other
              → ((other ≡ ix) ⊎ (other ≡ ix → ⊥))
              → Contains rest other
          listed_if other vacant (inl same) =
              let first = (valid.vacant ix).0 (contains_head ix rest) in
              let none : get_or (set items ix (Some item)) ix None ≡ None = subst (λ i. get_or (set items ix (Some item)) i None ≡ None) same vacant.1 in
              let bound = get_or-set_same items ix (Some item) None first.0 in
              absurd (cc)
          listed_if other vacant (inr apart) =
              let was = (valid.vacant other).1 (omega (arith, vacant.0, length-set items ix (Some item)), sym (get_or-set_other items ix other (Some item) None apart) ∙ vacant.1) in
              by_place other apart (contains_cases ix other rest was)

      by_free :
          (items : List (Option T)) (free : List ℕ)
          → IsValid (record { items = items; free = free; limit = s.limit })
          → (IsFull {T = T} (record { items = items; free = free; limit = s.limit }) → ⊥)
          → IsValid (inserted (record { items = items; free = free; limit = s.limit }) item)
      by_free items [] valid not_full = at_end items valid not_full
      by_free items (ix ∷ rest) valid not_full = reused items ix rest valid
