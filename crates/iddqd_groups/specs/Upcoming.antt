-- What an iterator over indexes has still to yield.
use Rattle.std.specs.Prelude.{◌≡◌, ◌+◌, ◌<◌, ◌≤◌, ℕ, List, Option, Some, None}

-- the indexes that come, in this order, and an upper bound on their number
pub record Upcoming : Type 0 where
  pub rest : List ℕ
  pub bound : ℕ

abbrev pub rest_of : Upcoming → List ℕ
rest_of upcoming = upcoming.rest

-- a call of `next` lowers the bound by one if it yields an index
abbrev pub LowersBound : Upcoming → Option ℕ → Upcoming → Type 0
LowersBound old None new = new.bound ≡ old.bound
LowersBound old (Some ix) new = new.bound + 1 ≡ old.bound

-- A call of `next` may pass over indexes, and lowers the bound by one for each. So it lowers the bound by one at least
-- if it yields an index.
abbrev pub LowersBoundFurther : Upcoming → Option ℕ → Upcoming → Type 0
LowersBoundFurther old None new = new.bound ≤ old.bound
LowersBoundFurther old (Some ix) new = new.bound < old.bound
