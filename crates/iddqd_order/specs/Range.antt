-- What a contract sees of a `Range`.
use Rattle.std.specs.Prelude.{◌≡◌, ◌≤◌, ℕ, List, None, drop, length}
use Rattle.std.specs.Borrow.{Bor}
use Rattle.std.specs.Fn.{Mut}
use Rattle.std.specs.declared.cmp.Ordering.{Ordering}
use Rattle.std.specs.declared.cmp.Ordering.TheVariants.{Less, Greater}
use Rattle.std.specs.declared.ops.Bound.{Bound}
use Rattle.std.specs.declared.ops.Bound.TheVariants.{Included, Excluded, Unbounded}
use Rattle.std.specs.Ordering.{ordering_then}
use Rattle.std.specs.Range.Bound.{bound_map}
use Rattle.iddqd_order.specs.Cursor.{part}
use Rattle.iddqd_order.specs.Search.{SearchAsks, TwoSearchesAsk, IsSteadyRising, IsPlace}
use Rattle.iddqd_order.specs.declared.btree_table.asking.Asking.{Asking}
use Rattle.iddqd_order.specs.declared.btree_table.range.Range.{Range}

-- the indexes still to come; `indexes_left` for an `Iter`, `indexes_to_come` for an `IntoIter`
unfoldable pub indexes_ahead : Range → List ℕ
indexes_ahead r = r

-- Equal is read as `at_equal`. If that is Less, the position is that of the first index whose answer isn't Greater. If
-- it is Greater, the position is that of the first index whose answer is Less.
abbrev pub IsBoundAt : Ordering → (ℕ → Ordering) → List ℕ → ℕ → Type 0
IsBoundAt at_equal answer xs place = IsPlace (λ ix. ordering_then (answer ix) at_equal) xs place

-- A walk along the indexes xs from a position to the end. If the answers are steady and rise, the position is the
-- bound. `read` turns an answer into an `Ordering`.
module _ {F R : Type 0} (g : Mut F (ℕ × Unit {0}) R) (read : R → Ordering) (at_equal : Ordering) (xs : List ℕ) where
  abbrev pub IsBoundBy : Asking F → ℕ → Type 0
  IsBoundBy old place =
      (answer : ℕ → Ordering) → IsSteadyRising g xs None read answer old → IsBoundAt at_equal answer xs place

  pub record WalksFrom (old : Asking F) (walk : Range) (new : Asking F) : Type 0 where
    pub asked : SearchAsks g xs None old new
    pub place : ℕ
    pub within : place ≤ length xs
    pub ahead : indexes_ahead walk ≡ drop place xs
    pub bound : IsBoundBy old place

-- the walk has the indexes of xs between two gaps; none if the second comes first
pub record IsPart (xs : List ℕ) (from to : ℕ) (walk : Range) : Type 0 where
  pub from_within : from ≤ length xs
  pub to_within : to ≤ length xs
  pub ahead : indexes_ahead walk ≡ part from to xs

-- A range of the indexes xs begins at gap `from` and ends at gap `at`. That is the gap `to` where `IsEnd` says that it
-- ends, or `from` if `to` comes before it.
pub record EndsAt (xs : List ℕ) (IsEnd : ℕ → Type 0) (from at : ℕ) : Type 0 where
  pub to : ℕ
  pub to_within : to ≤ length xs
  pub end : IsEnd to
  pub ahead : from ≤ at
  pub same : part from at xs ≡ part from to xs

-- how a bound reads a key: as its query compares with the key
abbrev pub bound_reading : {Q K : Type 0} → (Q → K → Ordering) → Bound (Bor Q) → Bound (K → Ordering)
bound_reading compare b = bound_map (λ q. compare q.now) b

-- A walk between two bounds. One asking serves both. A bound says how it reads an answer.
module _ {F R : Type 0} (g : Mut F (ℕ × Unit {0}) R) (xs : List ℕ) where
  -- If the answers are steady and rise, the position of the first index within the lower bound. Without a bound it is
  -- 0, for any answers.
  abbrev pub Begins : Bound (R → Ordering) → Asking F → ℕ → Type 0
  Begins (Included read) old place = IsBoundBy g read Less xs old place
  Begins (Excluded read) old place = IsBoundBy g read Greater xs old place
  Begins Unbounded old place = place ≡ 0

  -- If the answers are steady and rise, the position of the first index beyond the upper bound. Without a bound it is
  -- the length, for any answers.
  abbrev pub Ends : Bound (R → Ordering) → Asking F → ℕ → Type 0
  Ends (Included read) old place = IsBoundBy g read Greater xs old place
  Ends (Excluded read) old place = IsBoundBy g read Less xs old place
  Ends Unbounded old place = place ≡ length xs

  pub record WalksBetween (lower upper : Bound (R → Ordering)) (old : Asking F) (walk : Range) (new : Asking F)
      : Type 0 where
    pub asked : TwoSearchesAsk g xs None old new
    pub from : ℕ
    pub to : ℕ
    pub ahead : IsPart xs from to walk
    pub begins : Begins lower old from
    pub ends : Ends upper old to

-- a walk from the first index at which one asking doesn't answer Greater, up to but not including the first at
-- which the other asking answers Less
module _ {F G : Type 0} (f : Mut F (ℕ × Unit {0}) Ordering) (g : Mut G (ℕ × Unit {0}) Ordering) (xs : List ℕ) where
  pub record WalksBetweenBy (old_from : Asking F) (old_to : Asking G) (walk : Range) (new_from : Asking F)
      (new_to : Asking G) : Type 0 where
    pub from_asked : SearchAsks f xs None old_from new_from
    pub to_asked : SearchAsks g xs None old_to new_to
    pub from : ℕ
    pub to : ℕ
    pub ahead : IsPart xs from to walk
    pub begins : IsBoundBy f (λ r. r) Less xs old_from from
    pub ends : IsBoundBy g (λ r. r) Greater xs old_to to
