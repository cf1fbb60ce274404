-- How many items there are after a call, and that an insert with room is refused for a duplicate only.
use Rattle.std.proofs.Common.{◌≡◌, ◌∙◌, ◌+◌, ◌≤◌, ℕ, length, Some, Result, Ok, Err, IfOk, IfErr, OnOk, sym, ap, arith}
use Rattle.iddqd.specs.Store.{get, live_count}
use Rattle.iddqd.proofs.LiveCountLemmas.{live_count-inserted, live_count-removed}
use Rattle.iddqd_driver.specs.Keys.{Keys}
use Rattle.iddqd_driver.specs.State.{State, IsPaired, unbound}
use Rattle.iddqd_driver.specs.Machine.{Refuses, StoresAt}
use Rattle.iddqd_driver.specs.Memory.{Memory, SizedState, InsertsInMemory, IsDuplicate, room}
use Rattle.iddqd_driver.specs.declared.keyed_items.InsertRefusal.{InsertRefusal}
use Rattle.iddqd_driver.specs.declared.keyed_items.InsertRefusal.TheVariants.{Duplicate, Full, Memory as OutOfMemory}

module _ {T S : Type 0} (old new : State T S) (paired : IsPaired old) where
  pub count-inserted :
      {K1 K2 : Type 0} (keys : Keys T K1 K2 S) (item : T) (r : Result ℕ (InsertRefusal T))
      → IfOk r (λ ix. StoresAt keys old item ix new)
      → OnOk r (live_count new.store ≡ live_count old.store + 1)
  count-inserted keys item (Err refusal) stored = tt
  count-inserted keys item (Ok ix) stored =
      ap (λ (s : State T S). live_count s.store) stored.state
      ∙ live_count-inserted old.store item paired.valid stored.not_full

  pub count-removed :
      (ix : ℕ) (item : T)
      → get old.store ix ≡ Some item
      → new ≡ unbound old ix
      → live_count old.store ≡ live_count new.store + 1
  count-removed ix item live is =
      live_count-removed old.store ix item paired.valid live
      ∙ ap (λ (s : State T S). live_count s.store + 1) (sym is)

-- with room, an insert that is refused is one of a duplicate
pub IsDuplicate-with_room :
    {T S : Type 0} (old : SizedState T S) (new : Memory)
    → IsPaired old.state
    → (item : T) (r : Result ℕ (InsertRefusal T))
    → IfErr r (Refuses old.state.store item)
    → InsertsInMemory (1 ≤ room old) old.memory r new
    → 1 ≤ room old
    → IfErr r IsDuplicate
IsDuplicate-with_room old new paired item (Ok ix) refused did some = tt
IsDuplicate-with_room old new paired item (Err (Duplicate back first second)) refused did some = tt
IsDuplicate-with_room old new paired item (Err (Full back)) refused did some =
    let full = refused.1 in
    absurd (omega (arith, some, ap length full.0, full.1, paired.valid.counted))
IsDuplicate-with_room old new paired item (Err (OutOfMemory back)) refused did some = absurd (did.not_refused some tt)
