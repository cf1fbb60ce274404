-- The items whose keys are within bounds, in their order: the first, the next, and calls that remove them.
use Rattle.std.specs.Prelude.{◌≡◌, ℕ, Bool, List, None}
use Rattle.std.specs.Fn.{Mut, Called, Takes}
use Rattle.std.specs.List.{FoldsTo}
use Rattle.std.specs.declared.cmp.Ordering.{Ordering}
use Rattle.iddqd.specs.Store.{Store, get}
use Rattle.iddqd_keys.specs.KeyWalk.{SortsWithin, pairs_at}
pub use Rattle.iddqd_keys.specs.Scan.{itself}
use Rattle.iddqd_keys.specs.Scan.{IsHit}
use Rattle.iddqd_map.specs.Retain.{MayAsk}
use Rattle.iddqd_keys.specs.Removals.{removed_all}

module _ {T : Type 0} where
  -- the items that pass were removed, and all others stay under their indexes
  pub record LeavesOthers (old : Store T) (test : T → Bool) (new : Store T) : Type 0 where
    pub gone : (ix : ℕ) → IsHit old test ix → get new ix ≡ None
    pub others : (ix : ℕ) → (IsHit old test ix → ⊥) → get new ix ≡ get old ix

-- the closure may be called with the item; and what such a call leaves of the closure
abbrev pub TakesItem : {F T : Type 0} → Mut F (T × Unit {0}) (Unit {0}) → F → T → Type 0
TakesItem g f x = Takes g f (x, tt)

abbrev pub GivesItem : {F T : Type 0} → Mut F (T × Unit {0}) (Unit {0}) → F → T → F → Type 0
GivesItem g f x f' = Called g f (x, tt) tt f'

-- f may be called with each of the items, in every state that such calls lead to
abbrev pub MayGive : {F T : Type 0} → Mut F (T × Unit {0}) (Unit {0}) → F → List T → Type 0
MayGive g f items = MayAsk (TakesItem g) (λ p x (b : Bool) q. GivesItem g p x q) f items

-- `give p x q` says that a call of f with x in the state p may leave the state q
module _ {F T : Type 0} (order : T → T → Ordering) (within : T → Bool) (give : F → T → F → Type 0) where
  -- The items within were removed, and f was called with each, in order and then by index, each time in the state that
  -- the call before left.
  pub record RemovesAlong (f : F) (old new : Store T) (last : F) : Type 0 where
    pub indexes : List ℕ
    pub sorted : SortsWithin itself order within old indexes
    pub given : FoldsTo (λ p a q. give p a.1 q) f (pairs_at old indexes) last
    pub left : new ≡ removed_all old indexes
