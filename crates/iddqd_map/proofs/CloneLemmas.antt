-- For maps: a clone of a store has the same indexes, and where clones keep their keys it has the same keys.
use Rattle.std.proofs.Common.{◌≡◌, ◌∙◌, ◌↔◌, ℕ, zero, suc, Bool, true, List, [], ◌∷◌, length, get_or, Option, Some, None, is_some, count_by, cond, refl, sym, ap, subst, arith}
use Rattle.std.specs.List.{AllZip}
use Rattle.std.proofs.lemmas.List.Elements.{length_all_zip}
use Rattle.std.proofs.lemmas.List.Sums.{sum_by-cons}
use Rattle.iddqd.specs.Store.{Store, IsValid, get}
use Rattle.iddqd.specs.Clones.{IsItemClone, IsStoreClone}
use Rattle.iddqd_map.specs.KeyIndex.{HaveSameKeys}

module _ {T : Type 0} (is_clone : T → T → Type 0) where
  pub clone_at :
      (items copies : List (Option T)) (ix : ℕ)
      → AllZip (IsItemClone is_clone) items copies
      → IsItemClone is_clone (get_or items ix None) (get_or copies ix None)
  clone_at [] [] ix all = refl
  clone_at [] (c ∷ copies) ix all = absurd all
  clone_at (item ∷ items) [] ix all = absurd all
  clone_at (item ∷ items) (c ∷ copies) zero all = all.0
  clone_at (item ∷ items) (c ∷ copies) (suc ix) all = clone_at items copies ix all.1

  count_of_clones :
      (items copies : List (Option T))
      → AllZip (IsItemClone is_clone) items copies
      → count_by is_some copies ≡ count_by is_some items
  count_of_clones [] [] all = refl
  count_of_clones [] (c ∷ copies) all = absurd all
  count_of_clones (item ∷ items) [] all = absurd all
  count_of_clones (None ∷ items) (c ∷ copies) all =
      let one : Option T → ℕ = λ o. cond (is_some o) 1 0 in
      rw all.0 (omega (arith, count_of_clones items copies all.1, sum_by-cons one None items, sum_by-cons one None copies))
  count_of_clones (Some item ∷ items) (c ∷ copies) all =
      let one : Option T → ℕ = λ o. cond (is_some o) 1 0 in
      rw all.0.1 (omega (arith, count_of_clones items copies all.1, sum_by-cons one (Some item) items, sum_by-cons one (Some all.0.0) copies))

  -- an index that is live in a clone has the clone of an item
  pub record WasCloned (s : Store T) (ix : ℕ) (y : T) : Type 0 where
    pub item : T
    pub live : get s ix ≡ Some item
    pub cloned : is_clone item y

  module _ (s copy : Store T) (is : IsStoreClone is_clone s copy) where
    pub was_cloned : (ix : ℕ) (y : T) → get copy ix ≡ Some y → WasCloned s ix y
    was_cloned ix y live = by (get s ix) refl (clone_at s.items copy.items ix is.items)
      where
        by : (o : Option T) → get s ix ≡ o → IsItemClone is_clone o (get copy ix) → WasCloned s ix y
        by None was none = absurd (cc)
        by (Some item) was (other, there, cloned) =
            let one : Some other ≡ Some y = sym there ∙ live in
            let same : other ≡ y = cc in
            record { item = item; live = was; cloned = subst (is_clone item) same cloned }

    pub live_alike : (ix : ℕ) → is_some (get copy ix) ≡ is_some (get s ix)
    live_alike ix = by (get s ix) (get copy ix) (clone_at s.items copy.items ix is.items)
      where
        by : (o c : Option T) → IsItemClone is_clone o c → is_some c ≡ is_some o
        by None c none = ap is_some none
        by (Some item) c (other, there, cloned) = ap is_some there

    none_alike : (ix : ℕ) → (get copy ix ≡ None) ↔ (get s ix ≡ None)
    none_alike ix = by (get s ix) (get copy ix) (clone_at s.items copy.items ix is.items)
      where
        by : (o c : Option T) → IsItemClone is_clone o c → (c ≡ None) ↔ (o ≡ None)
        by None c none = (λ _. refl, λ _. none)
        by (Some item) c (other, there, cloned) = (λ gone. absurd (cc), λ gone. absurd (cc))

    pub IsValid-cloned : IsValid s → IsValid copy
    IsValid-cloned valid =
        let long : length s.items ≡ length copy.items = length_all_zip _ s.items copy.items is.items in
        let count = count_of_clones s.items copy.items is.items in
        let same_limit = is.limit in
        let same_free : length copy.free ≡ length s.free = ap length is.free in
        let was = valid.counted in
        let small = valid.small in
        let named = valid.named in
        record {
          distinct = rw is.free valid.distinct;
          vacant = λ ix. rw is.free (
            λ listed. (let was = (valid.vacant ix).0 listed in let within = was.0 in (omega arith, (none_alike ix).1 was.1)),
            λ vacant. (let within = vacant.0 in (valid.vacant ix).1 (omega arith, (none_alike ix).0 vacant.1)),
          );
          counted = omega arith;
          small = omega arith;
          named = omega arith;
        }

    -- where clones keep their keys, the clone has the same keys under the same indexes
    pub HaveSameKeys-cloned :
        (same : T → T → Bool)
        → ((x y : T) → is_clone x y → same x y ≡ true)
        → HaveSameKeys same s copy
    HaveSameKeys-cloned same kept = record {
      items_of_t = λ ix y live.
          let was = was_cloned ix y live in
          (was.item, was.live, kept was.item y was.cloned);
      items_of_s = λ ix x live. by ix x live (clone_at s.items copy.items ix is.items);
      as_many_slots = sym (length_all_zip _ s.items copy.items is.items);
    }
      where
        by :
            (ix : ℕ) (x : T)
            → get s ix ≡ Some x
            → IsItemClone is_clone (get s ix) (get copy ix)
            → (y : T) × (get copy ix ≡ Some y) × (same x y ≡ true)
        by ix x live cloned =
            let at : IsItemClone is_clone (Some x) (get copy ix) = subst (λ o. IsItemClone is_clone o (get copy ix)) live cloned in
            (at.0, at.1, kept x at.0 at.2)
