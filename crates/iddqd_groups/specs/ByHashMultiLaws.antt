-- The laws of an index by the hash of a key that several items may have: what keeps it so that it indexes a store.
use Rattle.std.specs.Prelude.{◌≡◌, ℕ, Bool, true, List, Some, IsTrue}
use Rattle.std.proofs.Common.{◌∙◌, ap, sym, subst}
use Rattle.std.proofs.lemmas.List.{length-set}
use Rattle.std.specs.Cmp.{IsEquivalence, partial_equiv_from_equiv}
use Rattle.std.specs.declared.hash.Hasher as hasher
use Rattle.std.specs.declared.hash.BuildHasher as builder
use Rattle.std.specs.Ordering.{nat_cmp}
use Rattle.std.specs.FinMap.{FinMap}
use Rattle.iddqd.specs.Store.{Store, get, rebound}
use Rattle.iddqd_keys.specs.AnyTable.{ChangesAt}
use Rattle.iddqd_by_hash.specs.Hashed.{Hashing, hashing_of, IsLawful}
use Rattle.iddqd_by_hash.proofs.FindLemmas.{IsLawful-from_bounds}
use Rattle.iddqd_by_hash.proofs.HoldsLemmas.{Holds-rebound}
use Rattle.iddqd_by_hash.proofs.PlaceLemmas.{Keeps-rebound}
use Rattle.iddqd_groups.specs.LinkedTable.{LinkedState}
use Rattle.iddqd_groups.specs.ByHashMulti.{FilesWithin, HasSameIndexes}
use Rattle.iddqd_map.specs.Files.{Files}
use Rattle.iddqd_map.specs.HashLaws.{Files-same}
use Rattle.iddqd_map.specs.KeyIndex.{HaveSameKeys}
use Rattle.iddqd_map.specs.Map.{shares}

module _ {T K : Type 0} (key_of : T → K) (hashing : Hashing K) (s : Store T) where
  -- a table of the same indexes
  pub FilesWithin-kept :
      (x y : LinkedState)
      → HasSameIndexes x y
      → FilesWithin key_of hashing s x
      → FilesWithin key_of hashing s y
  FilesWithin-kept x y same is = record {
    files = subst (Files key_of hashing s) (sym same.filed) is.files;
    linked = same.slots ∙ is.linked;
  }

  module _ (m : FinMap nat_cmp ℕ) (lawful : IsLawful hashing) (o : Files key_of hashing s m) where
    -- a live index that is given an item with an equal key
    pub Files-rebound_same :
        (ix : ℕ) (item was : T)
        → get s ix ≡ Some was
        → hashing.equal (key_of item) (key_of was) ≡ true
        → Files key_of hashing (rebound s ix item) m
    Files-rebound_same ix item was live alike =
        let none : ChangesAt key_of hashing.equal s ix item → ⊥ =
        λ other. (let one : Some was ≡ Some other.0 = sym live ∙ other.1 in let differs = other.2 in cc) in
        record {
          held = Holds-rebound s m o.held ix item was live;
          placed = (Keeps-rebound key_of hashing s m ix item was live lawful none).placed o.placed;
        }

-- the same of a key whose type has the bounds of a map's
module _ {T K S H : Type 0}
    (key_of : T → K) (equal : K → K → Bool) (hash_input : K → List (List ℕ)) (b : builder.Ghosts S H)
    (h : hasher.Ghosts H) (laws : IsEquivalence equal)
    (respects : (x y : K) → IsTrue (equal x y) → hash_input x ≡ hash_input y)
    (state : S) (s : Store T) (x : LinkedState) (is : FilesWithin key_of (hashing_of equal hash_input b h state) s x)
  where
    lawful : IsLawful (hashing_of equal hash_input b h state)
    lawful = IsLawful-from_bounds equal hash_input b h state (partial_equiv_from_equiv laws) respects

    pub FilesWithin-key_kept :
        (ix : ℕ) (was item : T)
        → get s ix ≡ Some was
        → key_of item ≡ key_of was
        → FilesWithin key_of (hashing_of equal hash_input b h state) (rebound s ix item) x
    FilesWithin-key_kept ix was item live same =
        let alike : equal (key_of item) (key_of was) ≡ true =
        ap (λ k. equal k (key_of was)) same ∙ laws.refl (key_of was) in
        record {
          files =
              Files-rebound_same key_of (hashing_of equal hash_input b h state) s x.filed lawful is.files ix item was
              live alike;
          linked = is.linked ∙ sym (length-set s.items ix (Some item));
        }

    pub FilesWithin-keys_shared :
        (t : Store T)
        → HaveSameKeys (shares key_of equal) s t
        → FilesWithin key_of (hashing_of equal hash_input b h state) t x
    FilesWithin-keys_shared t have = record {
      files = Files-same key_of (hashing_of equal hash_input b h state) s x.filed lawful is.files t have;
      linked = is.linked ∙ sym have.as_many_slots;
    }
