-- What the map of a registry says of the list of its names.
use Rattle.std.proofs.Common.{◌≡◌, ◌∙◌, ◌↔◌, ◌<◌, ◌≤◌, zero, suc, ℕ, Bool, List, [], ◌∷◌, ◌++◌, length, get_or, Option, Some, None, option_map, refl, sym, ap, arith}
use Rattle.std.specs.List.{Contains, slice_get}
use Rattle.std.specs.Str.{bytes_eq}
use Rattle.std.specs.String.{string_bytes}
use Rattle.std.specs.Cmp.Lexicographic.{bytes_decides}
use Rattle.std.proofs.lemmas.List.{length_push}
use Rattle.iddqd_maps.specs.Store.{IsFull, Store, get, filled, inserted, slot_limit}
use Rattle.iddqd_maps.specs.Scan.{IsHit, AnswersScan}
use Rattle.iddqd_maps.proofs.CallerLemmas.{scan_hits}
use Rattle.uses.specs.declared.registry.Entry.{Entry}
use Rattle.uses.specs.Registry.{names_of, IsDense}

abbrev name_of : Entry → List ℕ
name_of entry = string_bytes entry.name

fewer : (items : List (Option Entry)) → length (names_of items) ≤ length items
fewer [] = omega arith
fewer (Some entry ∷ rest) = let less = fewer rest in omega arith
fewer (None ∷ rest) = let less = fewer rest in omega arith

-- where each slot has an entry, the names stand at its places
aligned :
    (items : List (Option Entry))
    → length (names_of items) ≡ length items
    → (n : ℕ)
    → slice_get (names_of items) n ≡ option_map name_of (get_or items n None)
aligned [] dense zero = refl
aligned [] dense (suc n) = refl
aligned (None ∷ rest) dense n = absurd (let less = fewer rest in omega arith)
aligned (Some entry ∷ rest) dense zero = refl
aligned (Some entry ∷ rest) dense (suc n) = aligned rest (omega arith) n

pub names_of-push :
    (items : List (Option Entry)) (entry : Entry)
    → names_of (items ++ Some entry ∷ []) ≡ names_of items ++ name_of entry ∷ []
names_of-push [] entry = refl
names_of-push (Some first ∷ rest) entry = ap (λ names. name_of first ∷ names) (names_of-push rest entry)
names_of-push (None ∷ rest) entry = names_of-push rest entry

module _ (s : Store Entry) (dense : IsDense s) (name : List ℕ) where
  abbrev is_named : Entry → Bool
  is_named entry = bytes_eq name (name_of entry)

  abbrev names : List (List ℕ)
  names = names_of s.items

  pub hit_named : (n : ℕ) → IsHit s is_named n → slice_get names n ≡ Some name
  hit_named n (entry, live, passed) =
      aligned s.items dense.all_named n ∙ ap (λ o. option_map name_of o) live
      ∙ ap Some (sym ((bytes_decides name (name_of entry)).0 passed))

  named_hit : (n : ℕ) → slice_get names n ≡ Some name → IsHit s is_named n
  named_hit n is =
      elim (get s n) as (λ o. get s n ≡ o → option_map name_of o ≡ Some name → IsHit s is_named n) [
        | Some entry ↦ λ live same. (entry, live, (bytes_decides name (name_of entry)).1 (let e : name_of entry ≡ name = cc in sym e))
        | None ↦ λ live never. absurd (cc)
      ] refl (sym (aligned s.items dense.all_named n) ∙ is)

  pub resolves : (r : Option ℕ) → AnswersScan s is_named r → (n : ℕ) → (r ≡ Some n) ↔ (slice_get names n ≡ Some name)
  resolves r scan n =
      let hits = scan_hits s is_named r scan n in
      (λ is. hit_named n (hits.0 is), λ stands. hits.1 (named_hit n stands))

  -- a name that stands among them hits
  pub contained_hit : Contains names name → (n : ℕ) × IsHit s is_named n
  contained_hit (n, within, is) = (n, named_hit n (at names n within is))
    where
      at : (xs : List (List ℕ)) (n : ℕ) → n < length xs → get_or xs n name ≡ name → slice_get xs n ≡ Some name
      at [] n within is = absurd (omega arith)
      at (x ∷ xs) zero within is = ap Some is
      at (x ∷ xs) (suc n) within is = at xs n (omega arith) is

-- an entry in the next slot
module _ (s : Store Entry) (dense : IsDense s) (entry : Entry) where
  pushed : filled s.free s.items entry ≡ s.items ++ Some entry ∷ []
  pushed = rw dense.none_free refl

  pub names_of-inserted : names_of (filled s.free s.items entry) ≡ names_of s.items ++ name_of entry ∷ []
  names_of-inserted = ap names_of pushed ∙ names_of-push s.items entry

  pub IsDense-inserted : IsDense (inserted s entry)
  IsDense-inserted = record {
    none_free = rw dense.none_free refl;
    all_named =
        let names = ap length names_of-inserted in
        let slots = ap length pushed in
        omega (arith, names, slots, dense.all_named, length_push (names_of s.items) (name_of entry), length_push s.items (Some entry));
    unlimited = dense.unlimited;
  }

-- it is full exactly if there are as many names as indexes
module _ (s : Store Entry) (dense : IsDense s) where
  pub full_counted : IsFull s → length (names_of s.items) ≡ slot_limit
  full_counted full = dense.all_named ∙ full.1 ∙ dense.unlimited

  pub counted_full : length (names_of s.items) ≡ slot_limit → IsFull s
  counted_full counted = (dense.none_free, sym dense.all_named ∙ counted ∙ sym dense.unlimited)
