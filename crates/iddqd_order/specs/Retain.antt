-- What `retain` asks and keeps.
use Rattle.std.specs.Prelude.{◌≡◌, ℕ, Bool, List, map, filter}
use Rattle.std.specs.List.{FoldsTo}
use Rattle.std.specs.Fn.{Called, Mut}

-- g has the calls of the closure
module _ {F : Type 0} (g : Mut F (ℕ × Unit {0}) Bool) where
  -- f is asked about each of the old indexes once, in their order. Each ask begins in the state in which the ask before
  -- it left f, and the last ask leaves f in the state `last`. The new indexes are those with the answer true, in their
  -- order.
  pub record RetainsTo (f : F) (old new : List ℕ) (last : F) : Type 0 where
    pub asks : List (ℕ × Bool)
    pub each_once : map (λ a. a.0) asks ≡ old
    pub were_asked : FoldsTo (λ p a q. Called g p (a.0, tt) a.1 q) f asks last
    pub kept : new ≡ map (λ a. a.0) (filter (λ a. a.1) asks)

  -- the same, for some last state of f
  pub record Retains (f : F) (old new : List ℕ) : Type 0 where
    pub last : F
    pub kept : RetainsTo f old new last
