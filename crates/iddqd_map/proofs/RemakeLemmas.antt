-- What it leaves to take an item out and to insert another at its index.
use Rattle.std.proofs.Common.{◌≡◌, ◌∙◌, ◌<◌, inl, inr, ℕ, Bool, true, Option, Some, None, refl, ap, subst}
use Rattle.std.specs.Prelude.{Result, Ok, Err}
use Rattle.std.specs.Fn.{Once}
use Rattle.std.proofs.lemmas.Bool.{cases_eq}
use Rattle.std.proofs.lemmas.List.{set-set}
use Rattle.iddqd.specs.ItemSet.{SizedStore}
use Rattle.iddqd.specs.Store.{Store, inserted, live_count, next_index, rebound, removed}
use Rattle.iddqd.proofs.LiveLemmas.{get-removed_other}
use Rattle.iddqd_keys.specs.Scan.{AnswersScan, HasNoHit}
use Rattle.iddqd_map.specs.Map.{MapState, map_with}
use Rattle.iddqd_map.specs.Remake.{LacksMemory, Remakes, RemakesIfLive, TakesPlace, Vacates}
use Rattle.iddqd_map.specs.Several.{HasNoOther}
use Rattle.iddqd_map.specs.declared.refusal.InsertRefusal.{InsertRefusal}
use Rattle.iddqd_map.proofs.RetainLemmas.{same_memory}

module _ {T : Type 0} (s : Store T) (ix : ℕ) where
  -- the next item gets the index that was freed
  pub inserted-removed : (item : T) → inserted (removed s ix) item ≡ rebound s ix item
  inserted-removed item = ap (λ l. record s { items = l }) (set-set s.items ix None (Some item))

  -- what hits nothing once the item is out hits nothing else
  pub HasNoOther-removed : (test : T → Bool) → HasNoHit (removed s ix) test → HasNoOther s test ix
  HasNoOther-removed test none j (item, live, passes) = elim (cases_eq j ix) [
    | inl same ↦ same
    | inr apart ↦ absurd (none j (item, get-removed_other s ix j apart ∙ live, passes))
  ]

-- once the item at the index was taken out
module _
    {T : Type 0} (items out : SizedStore T) (ix capacity cells capacity_out cells_out : ℕ)
    (is_out : out ≡ record items { store = removed items.store ix }) (same_capacity : capacity_out ≡ capacity)
    (same_cells : cells_out ≡ cells)
  where
    gone : out.store ≡ removed items.store ix
    gone = ap (λ (z : SizedStore T). z.store) is_out

    slots_out : out.capacity ≡ items.capacity
    slots_out = ap (λ (z : SizedStore T). z.capacity) is_out

    pub Vacates-out : Vacates (map_with items capacity cells) ix (map_with out capacity_out cells_out)
    Vacates-out = record { left = gone; memory = same_memory slots_out same_capacity same_cells }

    pub index-freed : (at : ℕ) → at ≡ next_index out.store → at ≡ ix
    index-freed at is = is ∙ ap next_index gone

    module _ (alike : T → T → Bool) (may_need_memory : Bool) (made : T) (none : HasNoHit out.store (alike made)) where
      alone : HasNoOther items.store (alike made) ix
      alone = HasNoOther-removed items.store ix (alike made) (subst (λ s. HasNoHit s (alike made)) gone none)

      pub LacksMemory-out :
          may_need_memory ≡ true
          → capacity < live_count items.store
          → LacksMemory alike may_need_memory (map_with items capacity cells) ix made
      LacksMemory-out lacks past = record { no_other = alone; lacks = lacks; past = past }

      pub TakesPlace-put :
          (new : SizedStore T) (capacity_new cells_new : ℕ)
          → new ≡ record out { store = inserted out.store made }
          → capacity_new ≡ capacity_out
          → cells_new ≡ cells_out
          → TakesPlace alike may_need_memory (map_with items capacity cells) ix made
          (map_with new capacity_new cells_new)
      TakesPlace-put new capacity_new cells_new is_put capacity_stays cells_stay =
          let put = ap (λ (z : SizedStore T). z.store) is_put in
          let slots = ap (λ (z : SizedStore T). z.capacity) is_put in
          record {
            no_other = alone;
            left = put ∙ ap (λ s. inserted s made) gone ∙ inserted-removed items.store ix made;
            memory = same_memory (slots ∙ slots_out) (capacity_stays ∙ same_capacity) (cells_stay ∙ same_cells);
          }

-- the item at the index that a scan hits is the one that passes
module _
    {F T C : Type 0} (alike : T → T → Bool) (may_need_memory : Bool) (conflicts : Store T → T → C → Type 0)
    (g : Once F (T × Unit {0}) T) (f : F)
  where
    pub Remakes-found :
        (old : MapState T) (test : T → Bool) (ix : ℕ) (result : Result (Option ℕ) (InsertRefusal T C))
        (new : MapState T)
        → AnswersScan old.store test (Some ix)
        → RemakesIfLive alike may_need_memory conflicts g f old ix result new
        → Remakes alike may_need_memory conflicts g f old test result new
    Remakes-found old test ix (Ok None) new scan (none, same) =
        let (item, live, passes) = (scan ix).1 refl in
        absurd (cc)
    Remakes-found old test ix (Ok (Some at)) new scan did = (ix, scan, did)
    Remakes-found old test ix (Err refusal) new scan did = (ix, scan, did)
