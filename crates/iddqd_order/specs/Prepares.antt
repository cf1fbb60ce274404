-- What a prepared insert or removal promises, whichever table it changes. A table's own `PreparesInsert` and
-- `PreparesRemoval` apply these records to what its guards hold.
use Rattle.std.specs.Prelude.{◌≡◌, ◌≤◌, ℕ, Bool, List, Some, false, Contains, IsTrue, length}
use Rattle.std.specs.Fn.{Mut}
use Rattle.std.specs.declared.cmp.Ordering.{Ordering}
use Rattle.iddqd.specs.Compaction.{sentinel}
use Rattle.iddqd_order.specs.Search.{SearchAsks, IsSteadyRising, IsPlace, with_ties}
use Rattle.iddqd_order.specs.declared.btree_table.asking.Asking.{Asking}

-- of ix among the indexes xs; `read` turns an answer into an `Ordering`
module _ {F R : Type 0} (g : Mut F (ℕ × Unit {0}) R) (read : R → Ordering) (xs : List ℕ) (ix : ℕ) where
  -- The insert of the index `added` behind `position` of the indexes `now` is prepared, and nothing is added yet. If
  -- the answers are steady and, with ties broken, rise, ix will stand where Greater then ends.
  pub record PreparesInsertAt (old : Asking F) (now : List ℕ) (added position : ℕ) : Type 0 where
    pub table : now ≡ xs
    pub index : added ≡ ix
    pub within : position ≤ length xs
    pub place : (answer : ℕ → Ordering) → IsSteadyRising g xs (Some ix) read answer old →
        IsPlace (with_ties (Some ix) answer) xs position

  -- The removal of the index `removed` is prepared, and removes it if `found` is true. Then it is stored. If it is
  -- stored and the answers are steady and, with ties broken, rise, it is found. `SENTINEL` is missed with no ask.
  pub record PreparesRemovalIf (old : Asking F) (removed : ℕ) (found : Bool) (new : Asking F) : Type 0 where
    pub index : removed ≡ ix
    pub stored : IsTrue found → Contains xs ix
    pub asked : SearchAsks g xs (Some ix) old new
    pub missing : ix ≡ sentinel → found ≡ false
    pub unasked : ix ≡ sentinel → new ≡ old
    pub rising : (answer : ℕ → Ordering) → IsSteadyRising g xs (Some ix) read answer old →
        Contains xs ix → IsTrue found
