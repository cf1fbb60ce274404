-- What callers say of a table of indexes in an order, whose answers are `Ordering`s.
use Rattle.std.specs.Prelude.{◌≡◌, ℕ, List, Contains, Option, None, insert}
use Rattle.std.specs.Fn.{Mut}
use Rattle.std.specs.Ordering.{nat_cmp}
use Rattle.std.specs.declared.cmp.Ordering.{Ordering}
use Rattle.std.specs.declared.cmp.Ordering.TheVariants.{Equal}
use Rattle.iddqd.specs.Compaction.{remapped}
use Rattle.iddqd.specs.declared.index_remap.IndexRemap.{IndexRemap}
use Rattle.iddqd_order.specs.KeyOrder.{IsInKeyOrder}
use Rattle.iddqd_order.specs.Search.{IsSteady, IsSteadyRising, IsPlace}
use Rattle.iddqd_order.specs.declared.btree_table.asking.Asking.{Asking}

module _ {F : Type 0} (g : Mut F (ℕ × Unit {0}) Ordering) (xs : List ℕ) where
  -- this holds of the answers, if they are steady and rise along the indexes
  abbrev pub IfRising : Option ℕ → Asking F → ((ℕ → Ordering) → Type 0) → Type 0
  IfRising sought old Holds =
      (answer : ℕ → Ordering) → IsSteadyRising g xs sought (λ r. r) answer old → Holds answer

  -- one of the indexes was met: if the answers are steady, the answer there is Equal
  pub record MeetsEqual (old : Asking F) : Type 0 where
    pub met : ℕ
    pub stored : Contains xs met
    pub equal : (answer : ℕ → Ordering) → IsSteady g xs None (λ r. r) answer old → answer met ≡ Equal

  -- ix was inserted among the indexes: if the answers are steady and rise, it stands where Greater ends
  pub record PutsInGap (ix : ℕ) (old : Asking F) (new_xs : List ℕ) : Type 0 where
    pub place : ℕ
    pub inserted : new_xs ≡ insert xs place ix
    pub bound : IfRising None old (λ answer. IsPlace answer xs place)

-- if the new indexes have the keys of the old ones, these stay in the order of the keys
abbrev pub KeepsKeyOrder : IndexRemap → List ℕ → List ℕ → Type 0
KeepsKeyOrder remap old new =
    (key new_key : ℕ → ℕ)
    → ((ix : ℕ) → Contains old ix → new_key (remapped remap ix) ≡ key ix)
    → IsInKeyOrder nat_cmp key old
    → IsInKeyOrder nat_cmp new_key new
