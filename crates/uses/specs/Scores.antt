-- Scores by their hours.
use Rattle.std.specs.Prelude.{ℕ, Bool, List}
use Rattle.std.specs.Fn.{Mut}
use Rattle.std.specs.List.{FoldsTo}
use Rattle.std.specs.Ordering.{nat_cmp, eq_by_cmp}
use Rattle.std.specs.declared.cmp.Ordering.{Ordering}
use Rattle.std.specs.declared.ops.Bound.TheVariants.{Included, Unbounded}
use Rattle.iddqd_maps.specs.KeyOrder.{AreInKeyOrder}
use Rattle.iddqd_maps.specs.OrderedQuery.{is_within}
use Rattle.iddqd_maps.specs.Ranges.{GivesItem}
use Rattle.iddqd_maps.specs.Store.{Store}
use Rattle.uses.specs.declared.scores.Score.{Score}

-- the score is of this hour
abbrev pub has_hour : ℕ → Score → Bool
has_hour hour score = eq_by_cmp nat_cmp hour score.hour

-- the score, but it is of this hour
abbrev pub with_hour : ℕ → Score → Score
with_hour hour score = record score { hour = hour }

-- the score, but it has so many points
abbrev pub with_points : ℕ → Score → Score
with_points points score = record score { points = points }

-- the score of this hour without points
abbrev pub unscored : ℕ → Score
unscored hour = record { hour = hour; points = 0 }

-- the scores are of one hour
abbrev pub same_hour : Score → Score → Bool
same_hour x y = has_hour x.hour y

-- the score is of this hour or a later one
abbrev pub is_from : ℕ → Score → Bool
is_from hour score = is_within (λ (from : ℕ) (score : Score). nat_cmp from score.hour) (Included hour) Unbounded score

-- the score is of an hour from one to another one
abbrev pub is_between : ℕ → ℕ → Score → Bool
is_between from to score =
    is_within (λ (hour : ℕ) (score : Score). nat_cmp hour score.hour) (Included from) (Included to) score

-- how two scores compare by their hours
abbrev pub by_hour : Score → Score → Ordering
by_hour x y = nat_cmp x.hour y.hour

-- the closure was called with each score once, by hour
abbrev pub HandsOnByHour : {F : Type 0} → Mut F (Score × Unit {0}) (Unit {0}) → F → Store Score → Type 0
HandsOnByHour {F} g f s =
    (scores : List Score) × (last : F) × AreInKeyOrder (λ score. score.hour) nat_cmp s scores
    × FoldsTo (GivesItem g) f scores last
