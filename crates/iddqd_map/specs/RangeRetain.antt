-- The outcome of calls that ask a closure about each item within bounds, in order, and remove those it rejects.
use Rattle.std.specs.Prelude.{◌≡◌, ℕ, zero, suc, Bool, List, Option, Some, None, map}
use Rattle.std.specs.Fn.{Mut}
use Rattle.std.specs.List.{Contains, FoldsTo}
use Rattle.std.specs.declared.cmp.Ordering.{Ordering}
use Rattle.iddqd.specs.Store.{Store, get}
use Rattle.iddqd_keys.specs.KeyWalk.{IsFirstHit, IsNextHit, SortsWithin, pairs_at}
use Rattle.iddqd_keys.specs.Scan.{IsHit}
use Rattle.iddqd_map.specs.Bulk.{GivesIfRefused, RetainsInto}
use Rattle.iddqd_map.specs.Ranges.{GivesItem, TakesItem, itself}
use Rattle.iddqd_map.specs.Retain.{removed_of}
use Rattle.iddqd_keys.specs.Removals.{removed_all}

-- each index keeps what it has, unless its item passes
abbrev pub KeepsMisses : {T : Type 0} → Store T → (T → Bool) → Store T → Type 0
KeepsMisses old test new = (ix : ℕ) → (IsHit old test ix → ⊥) → get new ix ≡ get old ix

-- `takes p x` says that the closure in the state p may be called on x, and `ask p x b q` that it may then answer b and
-- be in the state q
module _ {F T : Type 0} (order : T → T → Ordering) (within : T → Bool)
    (takes : F → T → Type 0) (ask : F → T → Bool → F → Type 0) where
  -- The closure may be called on the item at this index, then on the next item within, and so on, on so many items at
  -- most, whatever it answers. Behind the last, it may not be called again.
  abbrev pub AsksFrom : Store T → ℕ → F → Option ℕ → Type 0
  AsksFrom s zero f at = Unit {0}
  AsksFrom s (suc n) f None = Unit {0}
  AsksFrom s (suc n) f (Some ix) =
      (item : T) → get s ix ≡ Some item
      → takes f item
      × ((b : Bool) (f' : F) (next : Option ℕ) → ask f item b f'
      → IsNextHit itself order s within ix next → AsksFrom s n f' next)

  -- it may be called so on each item within, from the first on
  pub record AsksWithin (f : F) (s : Store T) : Type 0 where
    pub at : (n : ℕ) (first : Option ℕ)
        → IsFirstHit itself order s within first → AsksFrom s n f first

  -- equivalent to `AsksWithin`, and in the form of `MayAsk` for the same reason
  abbrev pub MayAskWithin : F → Store T → Type 0
  MayAskWithin f s = (((p : F) (x : T) → takes p x) → AsksWithin f s) → AsksWithin f s

-- `ask p x b q` says that the closure in the state p may answer b at x, and is then in the state q
module _ {F T : Type 0} (order : T → T → Ordering) (within : T → Bool) (ask : F → T → Bool → F → Type 0) where
  -- f was called once at each item within, in order and then by index, each time in the state that the call
  -- before left; `last` is the state after the last call. The items at which it answered false were removed, in the
  -- order of the calls. All others stay under their indexes.
  pub record RetainsWithin (f : F) (old new : Store T) (last : F) : Type 0 where
    pub indexes : List ℕ
    pub sorted : SortsWithin itself order within old indexes
    pub asks : List ((ℕ × T) × Bool)
    pub each_once : map (λ a. a.0) asks ≡ pairs_at old indexes
    pub were_asked : FoldsTo (λ p a q. ask p a.0.1 a.1 q) f asks last
    pub gone : (ix : ℕ) → Contains (removed_of asks) ix → get new ix ≡ None
    pub others : (ix : ℕ) → (Contains (removed_of asks) ix → ⊥) → get new ix ≡ get old ix
    pub left : new ≡ removed_all old (removed_of asks)

module _ {G T : Type 0} (order : T → T → Ordering) (within : T → Bool) (g : Mut G (T × Unit {0}) (Unit {0})) where
  -- the closure may be called with each of the items within, in order and then by index
  abbrev pub MayGiveWithin : G → Store T → Type 0
  MayGiveWithin gone s = MayAskWithin order within (TakesItem g) (λ p x (b : Bool) q. GivesItem g p x q) gone s

  -- the closure may be called with some of the items within, in order and then by index, whichever they are
  abbrev pub MayGiveSomeWithin : G → Store T → Type 0
  MayGiveSomeWithin gone s = MayAskWithin order within (TakesItem g) (GivesIfRefused g) gone s

-- `ask p x b q` says that the first closure in the state p may answer b at x, and is then in the state q, and
-- `give p x q` that a call of the second with x in the state p may leave the state q
module _ {F G T : Type 0} (order : T → T → Ordering) (within : T → Bool)
    (ask : F → T → Bool → F → Type 0) (give : G → T → G → Type 0) where
  -- The first closure was called once at each item within, in order and then by index. Those at which it answered false
  -- were removed, and the second was called with each of them, in the same turn.
  pub record GivesRefusedWithin (keep : F) (gone : G) (old new : Store T) : Type 0 where
    pub indexes : List ℕ
    pub sorted : SortsWithin itself order within old indexes
    pub last_keep : F
    pub last_gone : G
    pub given : RetainsInto ask give (pairs_at old indexes) keep gone old new last_keep last_gone
