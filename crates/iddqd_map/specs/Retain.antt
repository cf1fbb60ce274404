-- What `retain` of a map leaves.
use Rattle.std.specs.Prelude.{◌≡◌, Bool}
use Rattle.iddqd_map.specs.Map.{MapState}
pub use Rattle.iddqd_by_hash.specs.Retain.{kept_of, removed_of, MayAsk, AsksInTurn, MayAskInTurn, RetainsTo}

-- `ask p x b q` says that the closure in the state p may answer b at x, and is then in the state q
module _ {F T : Type 0} (ask : F → T → Bool → F → Type 0) where
  -- As `RetainsTo`, for a call that doesn't return f. The memory of the map stays.
  pub record Retains (f : F) (old new : MapState T) : Type 0 where
    pub last : F
    pub retained : RetainsTo ask f old.store new.store last
    pub memory : new.memory ≡ old.memory
