-- How `retain`, `retain_into` and `drain_into` call their closures along the items, and what they leave.
use Rattle.std.specs.Prelude.{◌≡◌, ℕ, Bool, List, map}
use Rattle.std.specs.Fn.{Mut}
use Rattle.std.specs.List.{FoldsTo}
use Rattle.iddqd.specs.Store.{Store}
use Rattle.iddqd_map.specs.Bulk.{GivesIfRefused, RetainsInto}
use Rattle.iddqd_map.specs.Map.{MapState}
use Rattle.iddqd_map.specs.Ranges.{GivesItem, TakesItem}
use Rattle.iddqd_keys.specs.Removals.{removed_all}
use Rattle.iddqd_map.specs.Retain.{AsksInTurn, kept_of, removed_of}

-- `is_walk s pairs` says that these are the live indexes of the store with their items, in their order, `takes p x`
-- that the closure in the state p may be called on x, and `ask p x b q` that it may then answer b and be in the state q
module _ {F T : Type 0} (is_walk : Store T → List (ℕ × T) → Type 0) (takes : F → T → Type 0)
    (ask : F → T → Bool → F → Type 0) where
  -- the closure may be called on the items of a walk in turn, once on each, whatever it answers
  pub record AsksAlong (f : F) (s : Store T) : Type 0 where
    pub at : (pairs : List (ℕ × T)) → is_walk s pairs → AsksInTurn takes ask f (map (λ pair. pair.1) pairs)

  -- equivalent to `AsksAlong`, and in the form of `MayAsk` for the same reason
  abbrev pub MayAskAlong : F → Store T → Type 0
  MayAskAlong f s = (((p : F) (x : T) → takes p x) → AsksAlong f s) → AsksAlong f s

-- `is_walk s pairs` says that these are the live indexes of the store with their items, in their order, and `ask p x b
-- q` that the closure in the state p may answer b at x, and is then in the state q
module _ {F T : Type 0} (is_walk : Store T → List (ℕ × T) → Type 0) (ask : F → T → Bool → F → Type 0) where
  -- f was called at each item once, in the order of `is_walk`, each time in the state that the call before left; `last`
  -- is the state after the last call. The items at which it answered true stay under their indexes; the others were
  -- removed, in the order of the calls.
  pub record RetainsAlongTo (f : F) (old new : Store T) (last : F) : Type 0 where
    pub asks : List ((ℕ × T) × Bool)
    pub each_once : is_walk old (map (λ a. a.0) asks)
    pub were_asked : FoldsTo (λ p a q. ask p a.0.1 a.1 q) f asks last
    pub kept : is_walk new (kept_of asks)
    pub left : new ≡ removed_all old (removed_of asks)

  -- `RetainsAlongTo` for a call that doesn't return f; no memory is taken or given back
  pub record RetainsAlong (f : F) (old new : MapState T) : Type 0 where
    pub last : F
    pub retained : RetainsAlongTo f old.store new.store last
    pub memory : new.memory ≡ old.memory

-- `is_walk s pairs` is as above
module _ {G T : Type 0} (is_walk : Store T → List (ℕ × T) → Type 0) (g : Mut G (T × Unit {0}) (Unit {0})) where
  -- f may be called with each of the items of a walk in turn
  abbrev pub MayGiveAlong : G → Store T → Type 0
  MayGiveAlong f s = MayAskAlong is_walk (TakesItem g) (λ p x (b : Bool) q. GivesItem g p x q) f s

  -- f may be called with some of them in turn, whichever they are
  abbrev pub MayGiveSomeAlong : G → Store T → Type 0
  MayGiveSomeAlong f s = MayAskAlong is_walk (TakesItem g) (GivesIfRefused g) f s

-- `is_walk s pairs` and `ask p x b q` are as above, and `give p x q` says that a call of the second closure with x in
-- the state p may leave the state q
module _ {F G T : Type 0} (is_walk : Store T → List (ℕ × T) → Type 0) (ask : F → T → Bool → F → Type 0)
    (give : G → T → G → Type 0) where
  -- The first closure was called at each item once, in the order of `is_walk`. Those at which it answered false were
  -- removed, and the second was called with each of them, in the same turn.
  pub record GivesRefusedAlong (keep : F) (gone : G) (old new : Store T) : Type 0 where
    pub pairs : List (ℕ × T)
    pub walk : is_walk old pairs
    pub last_keep : F
    pub last_gone : G
    pub given : RetainsInto ask give pairs keep gone old new last_keep last_gone

-- f was called with each of the items once, in the order of `is_walk`
module _ {G T : Type 0} (is_walk : Store T → List (ℕ × T) → Type 0) (give : G → T → G → Type 0) where
  abbrev pub GivesAlong : G → Store T → Type 0
  GivesAlong f s =
      (pairs : List (ℕ × T)) × (last : G) × is_walk s pairs × FoldsTo give f (map (λ pair. pair.1) pairs) last
