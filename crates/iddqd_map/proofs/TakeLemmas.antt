-- What is left where the one item that passes a test was taken out.
use Rattle.std.proofs.Common.{◌≡◌, ◌≤◌, ◌∙◌, ℕ, Bool, length, Option, Some, None, refl, ap, arith, sym, subst}
use Rattle.std.proofs.lemmas.List.{length-set}
use Rattle.std.specs.Option.{OnSome}
use Rattle.iddqd.specs.Store.{Store, IsValid, get, removed}
use Rattle.iddqd.specs.ItemSet.{SizedStore}
use Rattle.iddqd_keys.specs.Scan.{HasNoHit, IsLive, AnswersScan}
use Rattle.iddqd.proofs.LiveLemmas.{item_at}
use Rattle.iddqd_keys.proofs.ScanLemmas.{HasNoHit-hit_removed}
use Rattle.iddqd_map.specs.KeyIndex.{IsIndexed}
use Rattle.iddqd_map.specs.Map.{MapState, MapMemory, Removes, RemovesAt, RemovesFull, map_with, room}
use Rattle.iddqd_map.proofs.MapLemmas.{IsIndexed-removed, set_left}
use Rattle.iddqd_map.proofs.FoundLemmas.{hit_live}

-- r was at the index, which a scan hits, and was taken out of the store
module _
    {T : Type 0} (old left : SizedStore T) (test : T → Bool) (ix : ℕ) (r : Option T)
    (scan : AnswersScan old.store test (Some ix))
    (value : r ≡ get old.store ix)
    (gone : OnSome r (left ≡ record old { store = removed old.store ix })) where
  taken_is : left ≡ record old { store = removed old.store ix }
  taken_is = set_left old left ix r (hit_live old.store test ix scan) value gone

  pub IsIndexed-taken :
      {S : Type 0} (new : S → Store T → Type 0) (state : S)
      → IsValid old.store
      → new state (removed old.store ix)
      → IsIndexed new state left.store
  IsIndexed-taken new state valid indexed =
      let is = ap (λ (s : SizedStore _). s.store) taken_is in
      IsIndexed-removed new state old.store left.store ix is valid (hit_live old.store test ix scan) indexed

  pub RemovesFull-hit :
      (item : T)
      → r ≡ Some item
      → (capacity cells after held : ℕ)
      → after ≡ capacity
      → held ≡ cells
      → RemovesFull (map_with old capacity cells) test (Some (ix, item)) (map_with left after held)
  RemovesFull-hit item is capacity cells after held same few = (
    record { live = sym value ∙ is; only = scan },
    ap (λ (s : SizedStore _). s.store) taken_is,
    rw (ap (λ (s : SizedStore _). s.capacity) taken_is, same, few) refl,
  )

pub RemovesFull-none :
    {T : Type 0} (old : SizedStore T) (test : T → Bool) (r : Option (ℕ × T)) (capacity cells after held : ℕ)
    → r ≡ None
    → HasNoHit old.store test
    → after ≡ capacity
    → held ≡ cells
    → RemovesFull (map_with old capacity cells) test r (map_with old after held)
RemovesFull-none old test r capacity cells after held none missed same few = rw none (missed, rw (same, few) refl)

-- without the index
pub Removes-full :
    {T : Type 0} (old new : MapState T) (test : T → Bool) (ix : ℕ) (item : T)
    → RemovesFull old test (Some (ix, item)) new
    → Removes old test (Some item) new
Removes-full old new test ix item (only, left, memory) =
    record { ix = ix; hit = only; left = left; memory = memory }

-- then no item passes
pub Removes-gone :
    {T : Type 0} (old new : MapState T) (test : T → Bool) (taken : Option T)
    → Removes old test taken new
    → HasNoHit new.store test
Removes-gone old new test None removes = subst (λ m. HasNoHit m.store test) (sym removes.1) removes.0
Removes-gone old new test (Some item) removes =
    subst (λ s. HasNoHit s test) (sym removes.left) (HasNoHit-hit_removed old.store test removes.ix removes.hit.only)

-- and no room is lost
pub room-removes :
    {T : Type 0} (old new : MapState T) (test : T → Bool) (taken : Option T)
    → IsValid old.store
    → IsValid new.store
    → Removes old test taken new
    → room old ≤ room new
room-removes old new test None valid after removes = (let same = ap room removes.1 in omega (arith, same))
room-removes old new test (Some item) valid after removes =
    let left = removes.left in
    let free = ap (λ (s : Store _). length s.free) left in
    let slots = ap (λ (s : Store _). length s.items) left ∙ length-set old.store.items removes.ix None in
    let limit = ap (λ (s : Store _). s.limit) left in
    let held = ap (λ (m : MapMemory). m.slots) removes.memory in
    let holds = ap (λ (m : MapMemory). m.capacity) removes.memory in
    let before = valid.counted in
    let counted = after.counted in
    omega (arith, free, slots, limit, held, holds, before, counted)

-- the same of an item at an index
pub RemovesAt-taken :
    {T : Type 0} (old left : SizedStore T) (ix : ℕ) (r : Option T) (capacity cells after held : ℕ)
    → IsLive old.store ix
    → r ≡ get old.store ix
    → left ≡ record old { store = removed old.store ix }
    → after ≡ capacity
    → held ≡ cells
    → RemovesAt (map_with old capacity cells) ix r (map_with left after held)
RemovesAt-taken old left ix r capacity cells after held here value gone same few =
    let (item, live) = item_at old.store ix here in
    subst (λ o. RemovesAt (map_with old capacity cells) ix o (map_with left after held)) (sym (value ∙ live))
    (live, ap (λ (s : SizedStore _). s.store) gone, rw (ap (λ (s : SizedStore _). s.capacity) gone, same, few) refl)
