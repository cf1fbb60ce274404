-- What a table of indexes under the hashes of a key keeps, as the laws of a key index say it.
use Rattle.std.specs.Prelude.{◌≡◌, ℕ, Bool, true, not, List, Some, IsTrue}
use Rattle.std.proofs.Common.{◌∙◌, ap, sym, subst}
use Rattle.std.specs.Cmp.{IsEquivalence, partial_equiv_from_equiv}
use Rattle.std.specs.declared.hash.Hasher as hasher
use Rattle.std.specs.declared.hash.BuildHasher as builder
use Rattle.std.specs.Ordering.{nat_cmp}
use Rattle.std.specs.FinMap.{FinMap}
use Rattle.iddqd.specs.Store.{Store, get, rebound}
use Rattle.iddqd.proofs.LiveLemmas.{item_at, live_at}
use Rattle.iddqd_keys.specs.Scan.{IsHit}
use Rattle.iddqd_by_hash.specs.Hashed.{Hashing, hashing_of, IsLawful}
use Rattle.iddqd_by_hash.proofs.FindLemmas.{IsLawful-from_bounds}
use Rattle.iddqd_by_hash.proofs.HoldsLemmas.{Holds-rebound}
use Rattle.iddqd_by_hash.proofs.PlaceLemmas.{Keeps-rebound}
use Rattle.iddqd_map.specs.Files.{Files}
use Rattle.iddqd_map.specs.Indexing.{Indexes}
use Rattle.iddqd_map.specs.KeyIndex.{HaveSameKeys}
use Rattle.iddqd_map.specs.Map.{shares}

-- the laws of equality hold of items by their keys
pub shares_laws :
    {T K : Type 0} (key_of : T → K) (equal : K → K → Bool)
    → IsEquivalence equal
    → IsEquivalence (shares key_of equal)
shares_laws key_of equal laws = record {
  refl = λ x. laws.refl (key_of x);
  symm = λ x y. laws.symm (key_of x) (key_of y);
  congr = λ x y z. laws.congr (key_of x) (key_of y) (key_of z);
}

module _ {T K : Type 0} (key_of : T → K) (hashing : Hashing K) (s : Store T) (m : FinMap nat_cmp ℕ) where
  module _ (lawful : IsLawful hashing) (o : Files key_of hashing s m) where
    -- items at the same indexes that share their keys
    pub Files-same : (t : Store T) → HaveSameKeys (shares key_of hashing.equal) s t → Files key_of hashing t m
    Files-same t have = record {
      held = λ ix. (
        λ filed.
            let (x, live) = item_at s ix ((o.held ix).0 filed) in
            let (y, there, alike) = have.items_of_s ix x live in
            live_at t ix y there,
        λ live.
            let (y, there) = item_at t ix live in
            let (x, was, alike) = have.items_of_t ix y there in
            (o.held ix).1 (live_at s ix x was),
      );
      placed = λ ix y there.
          let (x, was, alike) = have.items_of_t ix y there in
          o.placed ix x was ∙ ap Some (lawful.equal_hash (key_of x) (key_of y) alike);
    }

  -- an item that keeps its key
  pub Indexes-modified :
      IsLawful hashing
      → ((x : K) → hashing.equal x x ≡ true)
      → Indexes key_of hashing s m
      → (ix : ℕ) (was item : T)
      → get s ix ≡ Some was
      → key_of item ≡ key_of was
      → Indexes key_of hashing (rebound s ix item) m
  Indexes-modified lawful reflexive o ix was item live same =
      let alike : hashing.equal (key_of item) (key_of was) ≡ true =
      ap (λ k. hashing.equal k (key_of was)) same ∙ reflexive (key_of was) in
      let none : IsHit s (λ was. not (hashing.equal (key_of item) (key_of was))) ix → ⊥ =
      λ other. (let one : Some was ≡ Some other.0 = sym live ∙ other.1 in let differs = other.2 in cc) in
      record {
        held = Holds-rebound s m o.held ix item was live;
        in_sync = (Keeps-rebound key_of hashing s m ix item was live lawful none).in_sync o.in_sync;
      }

  -- items at the same indexes that share their keys
  pub Indexes-same :
      IsLawful hashing
      → Indexes key_of hashing s m
      → (t : Store T)
      → HaveSameKeys (shares key_of hashing.equal) s t
      → Indexes key_of hashing t m
  Indexes-same lawful o t have =
      let e = lawful.equivalence in
      let files = Files-same lawful (record { held = o.held; placed = o.in_sync.placed }) t have in
      record {
        held = files.held;
        in_sync = record {
          placed = files.placed;
          apart = λ i j x y p q same.
              let (a, at_i, left) = have.items_of_t i x p in
              let (b, at_j, right) = have.items_of_t j y q in
              let one : hashing.equal (key_of a) (key_of y) ≡ true =
              e.trans (key_of a) (key_of x) (key_of y) left same in
              let other : hashing.equal (key_of y) (key_of b) ≡ true = e.symm (key_of y) (key_of b) ∙ right in
              o.in_sync.apart i j a b at_i at_j (e.trans (key_of a) (key_of y) (key_of b) one other);
        };
      }

module _ {T K : Type 0} (key_of : T → K) (hashing : Hashing K) (s : Store T) where
  -- a table of the same indexes
  pub Indexes-kept :
      (m n : FinMap nat_cmp ℕ)
      → n ≡ m
      → Indexes key_of hashing s m
      → Indexes key_of hashing s n
  Indexes-kept m n same is = subst (Indexes key_of hashing s) (sym same) is

-- these laws for a key whose type has the bounds of a map's key
module _ {T K S H : Type 0}
    (key_of : T → K) (equal : K → K → Bool) (hash_input : K → List (List ℕ)) (b : builder.Ghosts S H)
    (h : hasher.Ghosts H) (laws : IsEquivalence equal)
    (respects : (x y : K) → IsTrue (equal x y) → hash_input x ≡ hash_input y)
    (state : S) (s : Store T) (m : FinMap nat_cmp ℕ) (is : Indexes key_of (hashing_of equal hash_input b h state) s m)
  where
    lawful : IsLawful (hashing_of equal hash_input b h state)
    lawful = IsLawful-from_bounds equal hash_input b h state (partial_equiv_from_equiv laws) respects

    pub Indexes-key_kept :
        (ix : ℕ) (was item : T)
        → get s ix ≡ Some was
        → key_of item ≡ key_of was
        → Indexes key_of (hashing_of equal hash_input b h state) (rebound s ix item) m
    Indexes-key_kept = Indexes-modified key_of (hashing_of equal hash_input b h state) s m lawful laws.refl is

    pub Indexes-keys_shared :
        (t : Store T)
        → HaveSameKeys (shares key_of equal) s t
        → Indexes key_of (hashing_of equal hash_input b h state) t m
    Indexes-keys_shared = Indexes-same key_of (hashing_of equal hash_input b h state) s m lawful is
