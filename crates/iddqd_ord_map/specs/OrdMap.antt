-- What inserts and replacements return and leave in a map with one ordered key, given that at most one item has a key.
use Rattle.std.specs.Prelude.{ℕ, Bool, true, List, Option, Result}
use Rattle.std.specs.Fn.{Once}
use Rattle.std.specs.Iterator.{Count}
use Rattle.std.specs.declared.cmp.Ordering.{Ordering}
use Rattle.iddqd_map.specs.Append.{Appends}
use Rattle.iddqd_map.specs.Bulk.{InsertsFrom, MakesOf, RefusesOneOf}
use Rattle.iddqd_map.specs.BulkOverwrite.{OverwritesFrom}
use Rattle.iddqd_map.specs.Calls.{Inserts, ReplacesIfLive, Replaces, Changes}
use Rattle.iddqd_map.specs.Map.{MapState}
use Rattle.iddqd_map.specs.OneKey.{IsReported, IsTaken}
use Rattle.iddqd_map.specs.Remake.{Remakes, RemakesIfLive}
use Rattle.iddqd_map.specs.Upsert.{InsertsMade}
use Rattle.iddqd_map.specs.declared.refusal.InsertRefusal.{InsertRefusal}
use Rattle.iddqd_map.specs.declared.refusal.ReplaceRefusal.{ReplaceRefusal}
use Rattle.iddqd_map.specs.declared.refusal.Stopped.{Stopped}
use Rattle.iddqd_map.specs.declared.refusal.StoppedAppend.{StoppedAppend}
use Rattle.iddqd_map.specs.declared.refusal.StoppedOverwrite.{StoppedOverwrite}
use Rattle.iddqd_ord_map.specs.OrderedSteps.{most_cells}
use Rattle.iddqd_ord_map.specs.OrderedIndexing.{alike_in_order}

-- A new item may have another key than the item that it replaces. Then its index moves in the table, which may need
-- memory.
module _ {T K : Type 0} (key_of : T → K) (compare : K → K → Ordering) where
  -- what a replacement at an index may return and leave
  abbrev pub ReplacesInOrderIfLive : MapState T → ℕ → T → Result T (ReplaceRefusal T ℕ) → MapState T → Type 0
  ReplacesInOrderIfLive old ix item result new =
      let alike = alike_in_order key_of compare in
      ReplacesIfLive alike alike true (IsTaken alike) old ix item result new

  -- what a replacement of the item that passes the test may return and leave
  abbrev pub ReplacesInOrder : MapState T → (T → Bool) → T → Result T (ReplaceRefusal T ℕ) → MapState T → Type 0
  ReplacesInOrder old test item result new =
      let alike = alike_in_order key_of compare in
      Replaces alike alike true (IsTaken alike) old test item result new

  -- what a change of the item that passes the test may return and leave: `gives was item` says that the new item may be
  -- made of the old one
  abbrev pub ChangesInOrder :
      (T → T → Type 0) → MapState T → (T → Bool) → Result (Option T) (ReplaceRefusal T ℕ) → MapState T → Type 0
  ChangesInOrder gives old test result new =
      let alike = alike_in_order key_of compare in
      Changes alike alike true (IsTaken alike) gives old test result new

  -- what an insert may return and leave
  abbrev pub InsertsInOrder : MapState T → T → Result ℕ (InsertRefusal T ℕ) → MapState T → Type 0
  InsertsInOrder old item result new =
      let alike = alike_in_order key_of compare in
      Inserts alike (λ count. 0) (IsReported alike) old item result new

  -- what an insert of all items of an iterator may return, and what it leaves; `remaining` says how many items an
  -- iterator gives at most
  abbrev pub InsertsFromInOrder :
      {I : Type 0} → (I → Option T → I → Type 0) → (I → Count) → I → MapState T → Result ℕ (Stopped T ℕ I) → MapState T
      → Type 0
  InsertsFromInOrder gives remaining it old result new =
      let alike = alike_in_order key_of compare in
      InsertsFrom gives alike (λ count. 0) (IsReported alike) remaining most_cells it old result new

  -- The same for an insert of all items that displaces those in the way: `give p x q` says that a call of its closure
  -- with this index and item in the state p may leave the state q.
  abbrev pub OverwritesFromInOrder :
      {I G : Type 0} → (G → ℕ × T → G → Type 0) → (I → Option T → I → Type 0) → (I → Count) → I → MapState T → G
      → Result ℕ (StoppedOverwrite T I) → MapState T → Type 0
  OverwritesFromInOrder give gives remaining it old gone result new =
      let alike = alike_in_order key_of compare in
      OverwritesFrom alike (λ count. 0) true give gives remaining most_cells it old gone result new

  -- what moving the items of one map into another may answer, and what it leaves in both
  abbrev pub AppendsInOrder :
      (into from : MapState T) → Result ℕ StoppedAppend → (new_into new_from : MapState T) → Type 0
  AppendsInOrder into from answer new_into new_from =
      Appends (alike_in_order key_of compare) (λ count. 0) into from answer new_into new_from

  -- a map was made of these items
  abbrev pub MakesOfInOrder : List T → MapState T → Type 0
  MakesOfInOrder items new = MakesOf (alike_in_order key_of compare) (λ count. 0) most_cells items new

  -- why no map is made of these items
  abbrev pub RefusesOneInOrder : List T → InsertRefusal T ℕ → Type 0
  RefusesOneInOrder items refusal =
      let alike = alike_in_order key_of compare in
      RefusesOneOf alike (λ count. 0) (IsReported alike) items refusal

  -- and one of an item that the closure made
  abbrev pub InsertsMadeInOrder :
      {F : Type 0} → Once F (Unit {0}) T → F → MapState T → Result ℕ (InsertRefusal T ℕ) → MapState T → Type 0
  InsertsMadeInOrder g f old result new =
      let alike = alike_in_order key_of compare in
      InsertsMade alike (λ count. 0) (IsReported alike) g f old result new

  -- what a replacement by value may return and leave, at an index
  abbrev pub RemakesInOrderIfLive :
      {F : Type 0} → Once F (T × Unit {0}) T → F → MapState T → ℕ → Result (Option ℕ) (InsertRefusal T ℕ) → MapState T
      → Type 0
  RemakesInOrderIfLive g f old ix result new =
      let alike = alike_in_order key_of compare in
      RemakesIfLive alike true (IsReported alike) g f old ix result new

  -- and of the item that passes the test
  abbrev pub RemakesInOrder :
      {F : Type 0} → Once F (T × Unit {0}) T → F → MapState T → (T → Bool) → Result (Option ℕ) (InsertRefusal T ℕ)
      → MapState T → Type 0
  RemakesInOrder g f old test result new =
      let alike = alike_in_order key_of compare in
      Remakes alike true (IsReported alike) g f old test result new
