-- A search that goes along a list from a gap on.
use Rattle.std.specs.Prelude.{◌≡◌, ℕ, ◌+◌, ◌<◌, List, None, Err, slice_index}
use Rattle.std.specs.declared.cmp.Ordering.{Ordering}
use Rattle.std.specs.declared.cmp.Ordering.TheVariants.{Greater}
use Rattle.std.specs.Fn.{Mut}
use Rattle.iddqd_order.specs.declared.btree_table.asking.Asking.{Asking}
use Rattle.iddqd_order.specs.Asks.{AsksWithin}
use Rattle.iddqd_order.specs.Search.{Askable, IsSteadyRising, SearchesWithin}

-- a search in the indexes xs; `read` turns an answer into an `Ordering`
module _ {F R : Type 0} (g : Mut F (ℕ × Unit {0}) R) (read : R → Ordering) (xs : List ℕ) where
  -- The search asks at most `limit` times. If the answers are steady and rise, all before gap i are Greater.
  pub record Advances (limit i : ℕ) (old new : Asking F) : Type 0 where
    pub asked : AsksWithin g (Askable xs None) limit old new
    pub greater : (answer : ℕ → Ordering) → IsSteadyRising g xs None read answer old →
        (k : ℕ) → k < i → answer (slice_index xs k) ≡ Greater

  -- a search that has advanced to gap i advances to gap j by one more ask at most
  abbrev pub GoesOn : ℕ → ℕ → Asking F → Asking F → Type 0
  GoesOn i j old new = (limit : ℕ) (start : Asking F) → Advances limit i start old → Advances (limit + 1) j start new

  -- a search that has advanced to gap i ends at gap j by `more` more asks at most
  abbrev pub Arrives : ℕ → ℕ → ℕ → Asking F → Asking F → Type 0
  Arrives more i j old new = (limit : ℕ) (start : Asking F) → Advances limit i start old →
      SearchesWithin g read xs (limit + more) None start (Err j) new
