-- What callers say of an update follows from what a map promises of a call that modifies an item by a closure.
use Rattle.std.proofs.Common.{◌≡◌, ◌∙◌, ℕ, Bool, true, Option, Some, None, refl, sym, ap, Ordering}
use Rattle.std.specs.Prelude.{Result, Ok, Err}
use Rattle.std.specs.Borrow.{MutBor}
use Rattle.std.specs.Fn.{Called, Mut, Once}
use Rattle.iddqd_maps.specs.Map.{MapState}
use Rattle.iddqd_maps.specs.Modify.{Modifies}
use Rattle.iddqd_maps.specs.ModifyMany.{ModifiesEach, ModifiesHits, ModifiesWithin, WasCalled}
use Rattle.iddqd_maps.specs.RangeRetain.{KeepsMisses}
use Rattle.iddqd_maps.specs.Scan.{HasNoHit, IsHit}
use Rattle.iddqd_maps.specs.Store.{Store, get, rebound}
use Rattle.iddqd_maps.specs.Upsert.{MergesAt}
use Rattle.iddqd_maps.proofs.CallerLemmas.{called_leaves}
use Rattle.uses.specs.Updates.{Updates, UpdatesAll, UpdatesItem}

module _
    {F T : Type 0} (g : Once F (MutBor T × Unit {0}) (Unit {0} × (MutBor T × Unit {0}))) (f : F) (becomes : T → T)
    (leaves : (item left : MutBor T) (r : Unit {0}) → g.post f (item, tt) (r, (left, tt)) → left.now ≡ becomes item.now)
    (old new : MapState T)
  where
    pub updates :
        (test : T → Bool) (result : Option (Unit {0}))
        → Modifies g f old test result new
        → Updates old test becomes result new
    updates test None none = none
    updates test (Some r) hit =
        let item = hit.modified in
        let is = called_leaves g f (λ was r is. is ≡ becomes was) (λ item left r called. leaves item left r called) item.was item.is r item.called in
        (hit.ix, item.was, hit.hit, item.left ∙ ap (rebound old.store hit.ix) is, hit.memory)

-- and of a call that modifies many items
module _
    {F T : Type 0} (g : Mut F (MutBor T × Unit {0}) (Unit {0} × (MutBor T × Unit {0}))) (becomes : T → T)
    (leaves : (p q : F) (item left : MutBor T) → Called g p (item, tt) (tt, (left, tt)) q → left.now ≡ becomes item.now)
  where
    updated_by : (was : T) (now : Option T) → WasCalled g was now → now ≡ Some (becomes was)
    updated_by was now w =
        let c = w.called in
        w.there ∙ ap Some (sym c.leaves ∙ leaves w.before w.after c.shown c.left c.called ∙ ap becomes c.shows)

    pub updates_each :
        (f last : F) (old new : Store T)
        → ModifiesEach g f old new last
        → ((ix : ℕ) → get old ix ≡ None → get new ix ≡ None)
        → UpdatesAll old (λ item. true) becomes new
    updates_each f last old new did vacant = record {
      updated = λ ix item live passes. updated_by item (get new ix) (did.each ix item live);
      others = λ ix miss. elim (get old ix) as (λ slot. get old ix ≡ slot → get new ix ≡ get old ix) [
        | None ↦ λ none. vacant ix none ∙ sym none
        | Some item ↦ λ live. absurd (miss (item, live, refl))
      ] refl;
    }

    pub updates_hits :
        (test : T → Bool) (f last : F) (old new : Store T) (count : ℕ)
        → ModifiesHits g test f old new last count
        → KeepsMisses old test new
        → UpdatesAll old test becomes new
    updates_hits test f last old new count did others = record {
      updated = λ ix item live passes. updated_by item (get new ix) (did.each ix item live passes);
      others = others;
    }

    pub updates_within :
        (order : T → T → Ordering) (within : T → Bool) (f last : F) (old new : Store T) (count : ℕ)
        → ModifiesWithin g order within f old new last count
        → KeepsMisses old within new
        → UpdatesAll old within becomes new
    updates_within order within f last old new count did others = record {
      updated = λ ix item live passes. updated_by item (get new ix) (did.each ix item live passes);
      others = others;
    }

-- a call that answers the index of a hit has none where it is refused
pub refused_none :
    {T E : Type 0} (s : Store T) (test : T → Bool) (P : ℕ → Type 0) (result : Result ℕ E) (refusal : E)
    → ((ix : ℕ) → IsHit s test ix → (result ≡ Ok ix) × P ix)
    → result ≡ Err refusal
    → HasNoHit s test
refused_none s test P result refusal found is ix hit = let ok = (found ix hit).0 in cc

-- and of a call that modifies the item with the key of a new one
pub merges_item :
    {F T : Type 0} (g : Once F (MutBor T × (T × Unit {0})) (Unit {0} × (MutBor T × Unit {0}))) (f : F) (item : T)
    (becomes : T → T)
    → ((was left : MutBor T) → g.post f (was, (item, tt)) (tt, (left, tt)) → left.now ≡ becomes was.now)
    → (old : MapState T) (ix : ℕ) (new : MapState T)
    → MergesAt g f item old ix new
    → UpdatesItem old.store ix becomes new.store
merges_item g f item becomes leaves old ix new m =
    let c = m.called in
    (m.was, m.live, m.left ∙ ap (rebound old.store ix) (sym c.leaves ∙ leaves c.shown c.left c.met ∙ ap becomes c.shows))
