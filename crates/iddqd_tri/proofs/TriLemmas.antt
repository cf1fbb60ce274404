-- The steps of items with three keys keep each table in order.
use Rattle.std.proofs.Common.{◌≡◌, inl, inr, ◌≤◌, ℕ, Bool, IsTrue, List, [], ◌∷◌, Some, sym}
use Rattle.std.specs.Cmp.{IsPartialEquivalence}
use Rattle.std.specs.List.{Contains}
use Rattle.std.specs.declared.hash.Hasher as hasher
use Rattle.std.specs.declared.hash.BuildHasher as builder
use Rattle.iddqd.specs.Store.{Store, IsValid, IsFull, slot_limit, get, next_index, inserted, removed}
use Rattle.iddqd.proofs.StoreLemmas.{contains_cases, contains_none, IsValid-empty, IsValid-removed, IsValid-inserted}
use Rattle.iddqd_keys.specs.Scan.{IsHit}
use Rattle.iddqd_by_hash.specs.Hashed.{IsLawful}
use Rattle.iddqd_by_hash.proofs.FindLemmas.{IsLawful-from_bounds}
use Rattle.iddqd_by_hash.proofs.HoldsLemmas.{next_unfiled, Holds-empty, Holds-removed, Holds-inserted}
use Rattle.iddqd_by_hash.proofs.PlaceLemmas.{IsInSync-empty, IsInSync-inserted, Keeps-removed}
use Rattle.iddqd_keys.proofs.ScanLemmas.{live_before}
use Rattle.iddqd_tri.specs.TriKeys.{Three, TriKeys, hashing_in, hashes_in, tri_keys_of}
use Rattle.iddqd_keys.specs.Removals.{removed_all}
use Rattle.iddqd_tri.specs.TriState.{Maps, TriState, empty_tri_state, unbound, unbound_all, inserted_state, maps_without, maps_with, HoldLive, IsTriState, HasNoClash, AreClashes}
use Rattle.iddqd_tri.specs.TriTables.{AreUnfiled}
use Rattle.iddqd_keys.specs.declared.tri_hash_item.TriHashItem.{Ghosts}
use Rattle.iddqd_keys.proofs.RemovalLemmas.{AreLiveInTurn}

module _ {T : Type 0} where
  pub AreUnfiled-next : (s : Store T) (maps : Maps) → HoldLive s maps → IsValid s → AreUnfiled maps (next_index s)
  AreUnfiled-next s maps held valid = record {
    first = next_unfiled s maps.first held.first valid;
    second = next_unfiled s maps.second held.second valid;
    third = next_unfiled s maps.third held.third valid;
  }

  pub HoldLive-removed :
      (s : Store T) (maps : Maps) (ix : ℕ) (item : T)
      → get s ix ≡ Some item
      → HoldLive s maps
      → HoldLive (removed s ix) (maps_without maps ix)
  HoldLive-removed s maps ix item live held = record {
    first = Holds-removed s maps.first held.first ix item live;
    second = Holds-removed s maps.second held.second ix item live;
    third = Holds-removed s maps.third held.third ix item live;
  }

  HoldLive-inserted :
      (s : Store T) (maps : Maps) (item : T) (hashes : Three ℕ)
      → IsValid s
      → HoldLive s maps
      → HoldLive (inserted s item) (maps_with maps (next_index s) hashes)
  HoldLive-inserted s maps item hashes valid held = record {
    first = Holds-inserted s maps.first held.first item hashes.first valid;
    second = Holds-inserted s maps.second held.second item hashes.second valid;
    third = Holds-inserted s maps.third held.third item hashes.third valid;
  }

  -- a hit that is left was one, and at another index than those that were removed
  hit_left :
      (s : Store T) (indexes : List ℕ) (test : T → Bool)
      → AreLiveInTurn s indexes
      → (j : ℕ)
      → IsHit (removed_all s indexes) test j
      → (Contains indexes j → ⊥) × IsHit s test j
  hit_left s [] test live j hit = (contains_none j, hit)
  hit_left s (x ∷ rest) test live j hit =
      let (other, (y, is, passed)) = hit_left (removed s x) rest test live.1 j hit in
      let (apart, was) = live_before s x j live.0.0 y live.0.1 is in (
        λ here. elim (contains_cases x j rest here) [ inl same ↦ apart (sym same) | inr behind ↦ other behind ],
        (y, was, passed),
      )

-- each of the three keys is lawful under a state of the hasher
pub record AreLawful {T K1 K2 K3 S : Type 0} (keys : TriKeys T K1 K2 K3 S) (hasher : S) : Type 0 where
  pub first : IsLawful (hashing_in keys.first hasher)
  pub second : IsLawful (hashing_in keys.second hasher)
  pub third : IsLawful (hashing_in keys.third hasher)

-- keys whose bounds keep their laws
pub AreLawful-from_bounds :
    {T K1 K2 K3 S H : Type 0} (item : Ghosts T K1 K2 K3) (equal1 : K1 → K1 → Bool) (input1 : K1 → List (List ℕ))
    (equal2 : K2 → K2 → Bool) (input2 : K2 → List (List ℕ)) (equal3 : K3 → K3 → Bool) (input3 : K3 → List (List ℕ))
    (b : builder.Ghosts S H) (h : hasher.Ghosts H) (state : S)
    → IsPartialEquivalence equal1
    → ((x y : K1) → IsTrue (equal1 x y) → input1 x ≡ input1 y)
    → IsPartialEquivalence equal2
    → ((x y : K2) → IsTrue (equal2 x y) → input2 x ≡ input2 y)
    → IsPartialEquivalence equal3
    → ((x y : K3) → IsTrue (equal3 x y) → input3 x ≡ input3 y)
    → AreLawful (tri_keys_of item equal1 input1 equal2 input2 equal3 input3 b h) state
AreLawful-from_bounds item equal1 input1 equal2 input2 equal3 input3 b h state laws1 respects1 laws2 respects2 laws3 respects3 = record {
  first = IsLawful-from_bounds equal1 input1 b h state laws1 respects1;
  second = IsLawful-from_bounds equal2 input2 b h state laws2 respects2;
  third = IsLawful-from_bounds equal3 input3 b h state laws3 respects3;
}

module _ {T K1 K2 K3 S : Type 0} (keys : TriKeys T K1 K2 K3 S) where
  pub IsTriState-empty : (limit : ℕ) (hasher : S) → limit ≤ slot_limit → IsTriState keys (empty_tri_state limit hasher)
  IsTriState-empty limit hasher within = record {
    valid = IsValid-empty limit within;
    held = record { first = Holds-empty T limit; second = Holds-empty T limit; third = Holds-empty T limit };
    first = IsInSync-empty _ (hashing_in keys.first hasher) limit;
    second = IsInSync-empty _ (hashing_in keys.second hasher) limit;
    third = IsInSync-empty _ (hashing_in keys.third hasher) limit;
  }

  pub IsTriState-unbound :
      (s : TriState T S) (ix : ℕ) (item : T)
      → get s.store ix ≡ Some item
      → IsTriState keys s
      → IsTriState keys (unbound s ix)
  IsTriState-unbound s ix item live o = record {
    valid = IsValid-removed s.store ix item o.valid live;
    held = HoldLive-removed s.store s.maps ix item live o.held;
    first = (Keeps-removed _ (hashing_in keys.first s.hasher) s.store s.maps.first ix item live).in_sync o.first;
    second = (Keeps-removed _ (hashing_in keys.second s.hasher) s.store s.maps.second ix item live).in_sync o.second;
    third = (Keeps-removed _ (hashing_in keys.third s.hasher) s.store s.maps.third ix item live).in_sync o.third;
  }

  pub IsTriState-unbound_all :
      (s : TriState T S) (indexes : List ℕ)
      → AreLiveInTurn s.store indexes
      → IsTriState keys s
      → IsTriState keys (unbound_all s indexes)
  IsTriState-unbound_all s [] live o = o
  IsTriState-unbound_all s (ix ∷ rest) live o =
      IsTriState-unbound_all (unbound s ix) rest live.1 (IsTriState-unbound s ix live.0.0 live.0.1 o)

  pub IsTriState-inserted_state :
      (s : TriState T S) (item : T)
      → AreLawful keys s.hasher
      → (IsFull s.store → ⊥)
      → HasNoClash keys s.store item
      → IsTriState keys s
      → IsTriState keys (inserted_state keys s item)
  IsTriState-inserted_state s item lawful not_full none o = record {
    valid = IsValid-inserted s.store item o.valid not_full;
    held = HoldLive-inserted s.store s.maps item (hashes_in keys s.hasher item) o.valid o.held;
    first = IsInSync-inserted _ (hashing_in keys.first s.hasher) s.store s.maps.first item o.valid lawful.first (λ ix hit. none ix (inl hit)) o.first;
    second = IsInSync-inserted _ (hashing_in keys.second s.hasher) s.store s.maps.second item o.valid lawful.second (λ ix hit. none ix (inr (inl hit))) o.second;
    third = IsInSync-inserted _ (hashing_in keys.third s.hasher) s.store s.maps.third item o.valid lawful.third (λ ix hit. none ix (inr (inr hit))) o.third;
  }

  -- once all clashes are removed there is none
  pub HasNoClash-removed :
      (s : Store T) (item : T) (indexes : List ℕ)
      → AreLiveInTurn s indexes
      → AreClashes keys s item indexes
      → HasNoClash keys (removed_all s indexes) item
  HasNoClash-removed s item indexes live clashes ix clash =
      elim clash [
        | inl hit ↦ let was = hit_left s indexes _ live ix hit in was.0 ((clashes.each ix).1 (inl was.1))
        | inr rest ↦ elim rest [
          | inl hit ↦ let was = hit_left s indexes _ live ix hit in was.0 ((clashes.each ix).1 (inr (inl was.1)))
          | inr hit ↦ let was = hit_left s indexes _ live ix hit in was.0 ((clashes.each ix).1 (inr (inr was.1)))
        ]
      ]
