-- A table of indexes sorted so that each look-up returns what a scan of the store's items would.
use Rattle.std.specs.Prelude.{◌≢◌, ℕ, Bool, List, Some, Result, Ok, Err}
use Rattle.std.specs.Ordering.{eq_by_cmp}
use Rattle.std.specs.declared.cmp.Ordering.{Ordering}
use Rattle.iddqd.specs.Store.{Store}
use Rattle.iddqd_keys.specs.Scan.{IsHit, HasNoHit, AnswersScan, passes_by}
use Rattle.iddqd_by_order.specs.Ordered.{Holds, IsInSync}
use Rattle.iddqd_map.specs.Map.{shares}
use Rattle.iddqd_ord_map.specs.declared.ordered_move.Move.{Move}
use Rattle.iddqd_ord_map.specs.declared.ordered_move.Move.TheVariants.{Stays, Moves}

module _ {T K : Type 0} (key_of : T → K) (compare : K → K → Ordering) where
  -- the item has this key
  abbrev pub has_key : K → T → Bool
  has_key key = passes_by key_of (eq_by_cmp compare key)

  -- the keys of the two items compare as equal
  abbrev pub alike_in_order : T → T → Bool
  alike_in_order = shares key_of (eq_by_cmp compare)

  -- The list has exactly the live indexes, each once, sorted by the keys of their items as they are now, and no two
  -- items share a key.
  pub record Sorts (s : Store T) (order : List ℕ) : Type 0 where
    pub held : Holds s order
    pub in_sync : IsInSync key_of compare s order

  -- The planned move of a live index whose item is to be replaced by this one: it stays if the key stays, and moves if
  -- no item has the new key. Otherwise the index of the other item that has the new key.
  abbrev pub PlansOrConflicts : Store T → ℕ → T → Result Move ℕ → Type 0
  PlansOrConflicts s ix item (Ok Stays) = IsHit s (has_key (key_of item)) ix
  PlansOrConflicts s ix item (Ok Moves) = HasNoHit s (has_key (key_of item))
  PlansOrConflicts s ix item (Err at) = (at ≢ ix) × AnswersScan s (has_key (key_of item)) (Some at)
