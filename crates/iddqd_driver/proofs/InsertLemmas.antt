-- What an insert answers and keeps, from its two look-ups and from what entering the item did.
use Rattle.std.proofs.Common.{◌≡◌, ◌∙◌, ◌≤◌, ◌+◌, ℕ, Bool, true, false, List, Option, Some, None, is_some, Result, Ok, Err, refl, sym, ap, subst, arith, max, Ordering}
use Rattle.std.proofs.lemmas.Bool.{false≢true}
use Rattle.std.specs.Ordering.{nat_cmp}
use Rattle.std.specs.FinMap as finite
use Rattle.std.specs.FinMap.{FinMap}
use Rattle.std.specs.Result.{IsOk, IfOk, OnOk, OnErr}
use Rattle.iddqd.specs.declared.item_set.GrowError.{GrowError}
use Rattle.iddqd.specs.ItemSet.{SizedStore, room as set_room}
use Rattle.iddqd.specs.Sizes.{doubled}
use Rattle.iddqd.specs.Store.{Store, IsFull, IsValid, next_index, inserted}
use Rattle.iddqd_hash.specs.HashTable.{Table, UsesRoom, capacity as hashed_capacity, memory as cells, room as hashed_room}
use Rattle.iddqd_hash.specs.MapHashTable.{filed}
use Rattle.iddqd_hash.specs.Sizes.{most_cells, Reserves}
use Rattle.iddqd_order.specs.MapBTreeTable.{Order, HasRoom, order_of, capacity as ordered_capacity}
use Rattle.iddqd_by_order.specs.Ordered.{AddsInPlace}
use Rattle.iddqd_driver.specs.Keys.{Keys}
use Rattle.iddqd_driver.specs.State.{State, IsPaired}
use Rattle.iddqd_driver.specs.KeyIndexes.{finds_reported, hash_in, first_key_index, second_key_index, LooksUp, Keeps}
use Rattle.iddqd_driver.specs.Machine.{StoresAt}
use Rattle.iddqd_driver.specs.Memory.{HasRoomInParts, IsOutOfMemory}
use Rattle.iddqd_driver.specs.Parts.{InsertsParts}
use Rattle.iddqd_driver.specs.declared.keyed_items.InsertRefusal.{InsertRefusal}
use Rattle.iddqd_driver.specs.declared.keyed_items.InsertRefusal.TheVariants.{Memory}
use Rattle.iddqd_driver.proofs.KeyLemmas.{AreLawful}
use Rattle.iddqd_driver.proofs.KeepsLemmas.{Keeps-same, Keeps-inserted_state}
use Rattle.iddqd_driver.proofs.MemoryLemmas.{IsNoLower-same, InsertsInParts-stored, few_cells, few_slots_by, not_more}

module _ {T S K1 K2 : Type 0} (keys : Keys T K1 K2 S) (s : State T S) (item : T) (store : Store T)
    (filed : FinMap nat_cmp ℕ) (order : List ℕ) where
  abbrev new : State T S
  new = record s { store = store; filed = filed; order = order }

  abbrev Adds : Type 0
  Adds = AddsInPlace keys.second keys.compare_second s.store item s.order order

  pub StoresAt-from_parts :
      (r : Result ℕ (InsertRefusal T)) → (IsOk r → IsFull s.store → ⊥) → IfOk r (λ ix. ix ≡ next_index s.store)
      → OnOk r (store ≡ inserted s.store item)
      → OnOk r (filed ≡ finite.insert s.filed (next_index s.store) (hash_in keys s (keys.first item))) → OnOk r Adds
      → IfOk r (λ ix. StoresAt keys s item ix new)
  StoresAt-from_parts (Err refusal) not_full index stored entered adds = tt
  StoresAt-from_parts (Ok ix) not_full index stored entered adds =
      record { not_full = not_full refl; index = index; adds = adds.adds; state = rw (stored, entered) refl }

  pub same-from_parts :
      (r : Result ℕ (InsertRefusal T)) → OnErr r (store ≡ s.store) → OnErr r (filed ≡ s.filed)
      → OnErr r (order ≡ s.order) → OnErr r (new ≡ s)
  same-from_parts (Ok ix) items hashes indexes = tt
  same-from_parts (Err refusal) items hashes indexes = rw (items, hashes, indexes) refl

  pub Keeps-from_stored :
      AreLawful keys → IsPaired s → (r : Result ℕ (InsertRefusal T))
      → LooksUp (first_key_index keys) s (keys.first item) (finds_reported r).0
      → LooksUp (second_key_index keys) s (keys.second item) (finds_reported r).1
      → IfOk r (λ ix. StoresAt keys s item ix new) → OnOk r Adds → OnErr r (new ≡ s) → Keeps keys s new
  Keeps-from_stored lawful paired (Ok ix) first second stored adds same =
      subst (Keeps keys s) (sym stored.state)
      (Keeps-inserted_state keys s paired lawful item order stored.not_full first.found second adds)
  Keeps-from_stored lawful paired (Err refusal) first second stored adds same = Keeps-same keys s paired new same

-- a look-up that found nothing returned none
pub none_before : (found : Option ℕ) (some : Bool) → some ≡ is_some found → some ≡ false → None ≡ found
none_before None some is never = refl
none_before (Some ix) some is never = absurd (false≢true (sym never ∙ is))

pub not_both_errors : {A : Type 0} (r : Result A GrowError) → r ≡ Err GrowError.Full → r ≡ Err GrowError.Memory → ⊥
not_both_errors r full memory =
    let same = sym full ∙ memory in absurd (cc)

-- ---- an insert into a store and two tables

module _ {T K : Type 0} (key_of : T → K) (compare : K → K → Ordering) (item : T) (hash : ℕ) (items : SizedStore T)
    (table : Table ℕ) (order : Order) where
  -- a refusal that takes no memory
  pub InsertsParts-same :
      (refusal : InsertRefusal T) (new_items : SizedStore T) (new_order : Order)
      → (HasRoomInParts items table order → IsOutOfMemory refusal → ⊥)
      → new_items ≡ items
      → new_order ≡ order
      → InsertsParts key_of compare item hash items table order (Err refusal) new_items table new_order
  InsertsParts-same refusal new_items new_order never same ordered = rw (same, ordered) (record {
    not_full = λ ok. absurd (false≢true ok);
    index = tt;
    stored = tt;
    entered = tt;
    placed = tt;
    items_stay = refl;
    hashes_stay = refl;
    order_stays = refl;
    memory = record {
      no_lower = IsNoLower-same _ _ refl;
      same_ordered = refl;
      refused_early = λ _. refl;
      had_room = λ _. refl;
      not_refused = never;
    };
    few_slots = not_more _ _;
    few_cells = not_more _ _;
  })

  module _
      (grown : SizedStore T) (mid : Table ℕ) (valid : IsValid items.store) (contents : grown.store ≡ items.store)
      (more : items.capacity ≤ grown.capacity) (kept : 1 ≤ set_room items → grown ≡ items)
      (grows : set_room items ≡ 0 → grown.capacity ≡ doubled items)
      (same_filed : filed mid ≡ filed table)
      (few : cells mid ≤ max (cells table) (most_cells (finite.len (filed table) + 1)))
      (held : hashed_capacity table ≤ hashed_capacity mid)
      (counted : hashed_capacity table ≡ finite.len (filed table) + hashed_room table)
    where
      -- memory ran out in a table after the store grew
      pub InsertsParts-out_of_memory :
          {A E : Type 0} (r : Result A E) (new_items : SizedStore T) (new_order : Order)
          → Reserves 1 table r mid
          → (HasRoomInParts items table order → ⊥)
          → new_items ≡ grown
          → new_order ≡ order
          → InsertsParts key_of compare item hash items table order (Err (Memory item)) new_items mid new_order
      InsertsParts-out_of_memory r new_items new_order reserves never same ordered = rw (same, ordered) (record {
        not_full = λ ok. absurd (false≢true ok);
        index = tt;
        stored = tt;
        entered = tt;
        placed = tt;
        items_stay = contents;
        hashes_stay = same_filed;
        order_stays = refl;
        memory = record {
          no_lower = record { slots = more; hashed = held; cells = reserves.memory_stays; ordered = omega arith };
          same_ordered = refl;
          refused_early = λ other. absurd (other tt);
          had_room = λ some. absurd (never some);
          not_refused = λ some. absurd (never some);
        };
        few_slots = few_slots_by items grown grown.capacity valid kept grows refl;
        few_cells = few;
      })

      -- the item was stored, its index filed and placed
      pub InsertsParts-stored :
          {A E : Type 0} (r : Result A E) (ix : ℕ) (new_items : SizedStore T) (new_table : Table ℕ) (put new_order : Order)
          → Reserves 1 table r mid
          → (IsFull items.store → ⊥)
          → ix ≡ next_index grown.store
          → new_items ≡ record grown { store = inserted grown.store item }
          → filed new_table ≡ finite.insert (filed mid) ix hash
          → UsesRoom mid new_table
          → AddsInPlace key_of compare items.store item (order_of order) (order_of put)
          → ordered_capacity put ≡ ordered_capacity order
          → new_order ≡ put
          → InsertsParts key_of compare item hash items table order (Ok ix) new_items new_table new_order
      InsertsParts-stored r ix new_items new_table put new_order reserves not_full index stored filed_is uses placed ordered is = rw is (record {
        not_full = λ _. not_full;
        index = index ∙ ap next_index contents;
        stored = ap (λ (s : SizedStore T). s.store) stored ∙ ap (λ s. inserted s item) contents;
        entered = rw (index, contents, same_filed) at filed_is;
        placed = placed;
        items_stay = tt;
        hashes_stay = tt;
        order_stays = tt;
        memory = InsertsInParts-stored items grown new_items.capacity table mid new_table order (ordered_capacity put) r ix
            more kept (ap (λ (s : SizedStore T). s.capacity) stored) reserves held counted uses ordered;
        few_slots = few_slots_by items grown new_items.capacity valid kept grows (ap (λ (s : SizedStore T). s.capacity) stored);
        few_cells = few_cells _ _ _ _ few uses.same_memory;
      })

  -- where each part has room, none runs out of memory
  pub store_has_room : set_room items ≡ 0 → HasRoomInParts items table order → ⊥
  store_has_room none parts = let some = parts.slots in absurd (omega (arith, none, some))

  pub table_has_room :
      {A E : Type 0} (error : E) (mid : Table ℕ)
      → hashed_capacity table ≡ finite.len (filed table) + hashed_room table
      → Reserves {A = A} 1 table (Err error) mid
      → HasRoomInParts items table order
      → ⊥
  table_has_room error mid counted reserves parts =
      let some : 1 ≤ hashed_room table = omega (arith, parts.hashed, counted) in
      absurd (false≢true (reserves.had_room some).0)

  pub order_has_room :
      (seen : Order) → seen ≡ order → (HasRoom seen → false ≡ true) → HasRoomInParts items table order → ⊥
  order_has_room seen same roomy parts = absurd (false≢true (roomy (rw same parts.ordered)))
