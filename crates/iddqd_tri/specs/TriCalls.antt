-- What each call of items with three unique keys may return, and what state it leaves.
use Rattle.std.specs.Prelude.{◌≡◌, ℕ, Bool, List, map, Option, Some, None, Result, Ok, Err}
use Rattle.std.specs.declared.hash.Hasher as hasher
use Rattle.std.specs.declared.hash.BuildHasher as builder
use Rattle.iddqd.specs.Store.{Store, get, next_index, IsFull}
use Rattle.iddqd.specs.MapHash.{hash_one}
use Rattle.iddqd_keys.specs.Removals.{padded}
use Rattle.iddqd_keys.specs.Scan.{IsHit, AnswersScan, passes_by}
use Rattle.iddqd_by_hash.specs.Hashed.{StandsForOne}
use Rattle.iddqd_tri.specs.TriKeys.{ItemKey, TriKeys, hashing_in}
use Rattle.iddqd_tri.specs.TriState.{TriState, unbound, unbound_all, inserted_state, HasNoClash, AreClashes}
use Rattle.iddqd_tri.specs.declared.tri_refusal.TriRefusal.{TriRefusal}
use Rattle.iddqd_tri.specs.declared.tri_refusal.TriRefusal.TheVariants.{Full, Memory}

-- The item comes back: the store is full, or it isn't full and memory ran out.
abbrev pub HasNoPlace : {T : Type 0} → Store T → T → TriRefusal T → Type 0
HasNoPlace s item (Full back) = (back ≡ item) × IsFull s
HasNoPlace s item (Memory back) = (back ≡ item) × (IsFull s → ⊥)

module _ {T S : Type 0} where
  -- what a removal may return and leave: the item of a live index; `None` if and only if the index isn't live
  abbrev pub RemovesItem : TriState T S → ℕ → Option T → TriState T S → Type 0
  RemovesItem old ix (Some item) new = (get old.store ix ≡ Some item) × (new ≡ unbound old ix)
  RemovesItem old ix None new = (get old.store ix ≡ None) × (new ≡ old)

  -- what a look-up of a key returns: the one live index whose item has it; `None` if and only if there is none
  abbrev pub FindsKey : {K : Type 0} → ItemKey T K S → TriState T S → K → Option ℕ → Type 0
  FindsKey key s k result = AnswersScan s.store (passes_by key.key_of (key.equal k)) result

  -- What a look-up by a query with this hash and this test of keys returns: an index whose item's key passes, or none.
  -- If the query stands for one key, it returns the one such index; `None` if and only if there is none.
  pub record FindsOne {K : Type 0} (key : ItemKey T K S) (s : TriState T S) (hash : ℕ) (test : K → Bool)
      (result : Option ℕ) : Type 0 where
    pub hit : (ix : ℕ) → result ≡ Some ix → IsHit s.store (passes_by key.key_of test) ix
    pub as_scan :
        StandsForOne (hashing_in key s.hasher) hash test → AnswersScan s.store (passes_by key.key_of test) result

  -- what a look-up by a query returns, where `input` is what the query gives the hasher
  abbrev pub FindsQuery :
      {K H : Type 0} → builder.Ghosts S H → hasher.Ghosts H → ItemKey T K S → TriState T S → List (List ℕ) → (K → Bool)
      → Option ℕ → Type 0
  FindsQuery b h key s input test result = FindsOne key s (hash_one b h s.hasher input) test result

module _ {T K1 K2 K3 S : Type 0} (keys : TriKeys T K1 K2 K3 S) where
  -- The items that share a key were removed by rising index, and come back in this order from the first place on. Then
  -- the new item was stored at the next index.
  pub record OverwritesAt
      (old : TriState T S) (item : T) (ix : ℕ) (given_back : List (Option T)) (new : TriState T S) : Type 0 where
    pub clashes : List ℕ
    pub are_clashes : AreClashes keys old.store item clashes
    pub place : HasNoClash keys old.store item → IsFull old.store → ⊥
    pub items : given_back ≡ padded 3 (map (get old.store) clashes)
    pub index : ix ≡ next_index (unbound_all old clashes).store
    pub state : new ≡ inserted_state keys (unbound_all old clashes) item

  -- An insert that was refused returns the item and changes nothing. It reports `Full` if nothing clashes and the store
  -- is full; otherwise memory ran out.
  abbrev pub RefusesItem : TriState T S → T → TriRefusal T → TriState T S → Type 0
  RefusesItem old item (Full back) new =
      (back ≡ item) × HasNoClash keys old.store item × IsFull old.store × (new ≡ old)
  RefusesItem old item (Memory back) new =
      (back ≡ item) × (HasNoClash keys old.store item → IsFull old.store → ⊥) × (new ≡ old)

  -- what an insert that overwrites may return and leave
  abbrev pub Overwriting :
      TriState T S → T → Result (ℕ × List (Option T)) (TriRefusal T) → TriState T S → Type 0
  Overwriting old item (Ok (ix, given_back)) new = OverwritesAt old item ix given_back new
  Overwriting old item (Err refusal) new = RefusesItem old item refusal new
