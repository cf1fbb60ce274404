-- How `retain` of `Map` calls its closure, and which items it leaves in the store. (`IdOrdMap` has a definition of its
-- own in place of `RetainsTo`, since its `retain` goes in the order of the keys.) The calls that use these definitions
-- are those of `iddqd_map` and `iddqd_ord_map`.
use Rattle.std.specs.Prelude.{◌≡◌, ℕ, Bool, not, List, [], ◌∷◌, map, filter}
use Rattle.std.specs.List.{FoldsTo}
use Rattle.iddqd.specs.Store.{Store}
use Rattle.iddqd.specs.LiveItems.{live_pairs}
use Rattle.iddqd_hash.specs.Asks.{CanAsk}
use Rattle.iddqd_keys.specs.Removals.{removed_all}

module _ {T : Type 0} where
  -- `asks` are calls of the closure: an index with its item, and the answer. The pairs for which it answered true.
  abbrev pub kept_of : List ((ℕ × T) × Bool) → List (ℕ × T)
  kept_of asks = map (λ a. a.0) (filter (λ a. a.1) asks)

  -- the indexes for which it answered false
  abbrev pub removed_of : List ((ℕ × T) × Bool) → List ℕ
  removed_of asks = map (λ a. a.0.0) (filter (λ a. not a.1) asks)

-- `takes p x`: in the state p the closure may be called on x; `ask p x b q`: called so, it may answer b and be in the
-- state q afterwards
module _ {F T : Type 0} (takes : F → T → Type 0) (ask : F → T → Bool → F → Type 0) where
  -- The closure may be called on each of the items, in every state that such calls lead to. The definition says that
  -- `CanAsk` follows from an implication: "if the closure may be called on anything in any state, then `CanAsk`". This
  -- implication always holds (the lemma `CanAsk-everywhere`), so `MayAsk` is equivalent to `CanAsk`. It has this form
  -- so that the proof search finds it by itself for a closure without `requires`: a caller then needs no proof file.
  abbrev pub MayAsk : F → List T → Type 0
  MayAsk f items = (((p : F) (x : T) → takes p x) → CanAsk takes ask f items) → CanAsk takes ask f items

  -- The closure may be called on these items in turn, once on each, whatever it answers. This is weaker than `CanAsk`:
  -- once it was called on the last, it may not be called again.
  abbrev pub AsksInTurn : F → List T → Type 0
  AsksInTurn f [] = Unit {0}
  AsksInTurn f (x ∷ items) = takes f x × ((b : Bool) (f' : F) → ask f x b f' → AsksInTurn f' items)

  -- equivalent to `AsksInTurn`, and in the form of `MayAsk` for the same reason
  abbrev pub MayAskInTurn : F → List T → Type 0
  MayAskInTurn f items = (((p : F) (x : T) → takes p x) → AsksInTurn f items) → AsksInTurn f items

-- `ask p x b q`: called on x in the state p, the closure may answer b and be in the state q afterwards
module _ {F T : Type 0} (ask : F → T → Bool → F → Type 0) where
  -- f was called on each item once, by rising index, each time in the state that the call before left, and is then in
  -- the last state. The items for which it answered true stay under their indexes; the others were removed.
  pub record RetainsTo (f : F) (old new : Store T) (last : F) : Type 0 where
    pub asks : List ((ℕ × T) × Bool)
    pub each_once : map (λ a. a.0) asks ≡ live_pairs old
    pub were_asked : FoldsTo (λ p a q. ask p a.0.1 a.1 q) f asks last
    pub kept : live_pairs new ≡ kept_of asks
    pub left : new ≡ removed_all old (removed_of asks)
