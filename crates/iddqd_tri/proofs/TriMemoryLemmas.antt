-- The memory of the parts of items with three keys, before and after their steps.
use Rattle.std.proofs.Common.{◌≡◌, ◌∙◌, ◌⊎◌, ◌+◌, ◌-◌, ◌≤◌, ℕ, zero, suc, inl, inr, min, max, List, [], ◌∷◌, length, cond, None, is_some, IsSome, Result, Ok, Err, refl, ap, subst, arith}
use Rattle.std.specs.Result.{IsOk, OnOk, OnErr, result_and}
use Rattle.std.specs.Ordering.{nat_cmp}
use Rattle.std.specs.FinMap as finite
use Rattle.std.specs.FinMap.{FinMap}
use Rattle.std.proofs.lemmas.Cmp.{nat_cmp_total}
use Rattle.std.proofs.lemmas.Result.{on_ok_weaker}
use Rattle.iddqd.specs.Store.{Store, IsValid, IsFull, slot_count, live_count}
use Rattle.iddqd.specs.Sizes.{doubled, Shrinks as SetShrinks}
use Rattle.iddqd.specs.ItemSet.{SizedStore, room as set_room}
use Rattle.iddqd_hash.specs.HashTable.{Table, room, memory, HasNoMemory, KeepsMemory, UsesRoom}
use Rattle.iddqd_hash.specs.MapHashTable.{filed}
use Rattle.iddqd_hash.specs.Sizes.{Reserves, Shrinks, most_cells}
use Rattle.iddqd_by_hash.proofs.HashedCountLemmas.{len-held}
use Rattle.iddqd_tri.specs.TriKeys.{Three}
use Rattle.iddqd_tri.specs.TriState.{Maps, HoldLive}
use Rattle.iddqd_tri.specs.TriMemory.{TableMemory, TriMemory, SizedTri, least_capacity, reaching, SomeTableHasMore, TableGrows, SlotsGrow, Grows, TableShrinks, Shrinks as TriShrinks, ReservesItems}
use Rattle.iddqd_tri.specs.TriTables.{maps_of, tri_state_of, table_memory, tables_memory, memory_of, sized_tri_of, HaveLen, HaveRoom, SomeHasMore, TablesGrow, TablesShrink}
use Rattle.iddqd_tri.specs.declared.tri_tables.TriTables.{TriTables}

len_taken :
    (m : FinMap nat_cmp ℕ) (ix : ℕ)
    → IsSome (finite.get m ix)
    → finite.len (finite.remove m ix) + 1 ≡ finite.len m
len_taken m ix here =
    let fewer : finite.len (finite.remove m ix) ≡ finite.len m - 1 =
    finite.len-remove nat_cmp_total m ix ∙ ap (λ b. cond b (finite.len m - 1) (finite.len m)) here in
    let some : finite.len m ≡ 0 → ⊥ = λ none. absurd (let never = rw (finite.empty_of_len m none, finite.get-empty) at here in cc) in
    omega (arith, fewer, some)

len_filed :
    (m : FinMap nat_cmp ℕ) (ix hash : ℕ)
    → finite.get m ix ≡ None
    → finite.len (finite.insert m ix hash) ≡ finite.len m + 1
len_filed m ix hash none =
    finite.len-insert nat_cmp_total m ix hash ∙ ap (λ b. cond b (finite.len m) (finite.len m + 1)) (ap is_some none)

same_numbers : (a b : TableMemory) → a.capacity ≡ b.capacity → a.cells ≡ b.cells → a ≡ b
same_numbers a b capacity cells = λ i. record { capacity = capacity i; cells = cells i }

pub same_three : (a b : Three TableMemory) → a.first ≡ b.first → a.second ≡ b.second → a.third ≡ b.third → a ≡ b
same_three a b one two three = λ i. record { first = one i; second = two i; third = three i }

pub same_memory : (a b : TriMemory) → a.slots ≡ b.slots → a.tables ≡ b.tables → a ≡ b
same_memory a b slots tables = λ i. record { slots = slots i; tables = tables i }

-- a table without memory
pub table_none :
    (t : Table ℕ)
    → filed t ≡ finite.empty
    → HasNoMemory t
    → table_memory t ≡ record { capacity = 0; cells = 0 }
table_none t none has =
    same_numbers (table_memory t) (record { capacity = 0; cells = 0 }) (omega (arith, ap finite.len none, finite.len-empty nat_cmp ℕ, has.no_room)) has.no_cell

-- one table
module _ (old new : Table ℕ) where
  pub table_taken :
      (ix : ℕ)
      → IsSome (finite.get (filed old) ix)
      → filed new ≡ finite.remove (filed old) ix
      → KeepsMemory old new
      → room new ≡ room old + 1
      → table_memory new ≡ table_memory old
  table_taken ix here taken kept more =
      same_numbers (table_memory new) (table_memory old) (omega (arith, ap finite.len taken, len_taken (filed old) ix here, more)) kept.same_memory

  pub table_filed :
      (ix hash : ℕ)
      → finite.get (filed old) ix ≡ None
      → filed new ≡ finite.insert (filed old) ix hash
      → UsesRoom old new
      → table_memory new ≡ table_memory old
  table_filed ix hash none added used =
      same_numbers (table_memory new) (table_memory old) (omega (arith, ap finite.len added, len_filed (filed old) ix hash none, used.one_less)) used.same_memory

  module _ {A E : Type 0} (n : ℕ) (result : Result A E) (same : filed new ≡ filed old) where
    pub TableGrows-reserved :
        Reserves n old result new
        → memory new ≤ max (memory old) (most_cells (finite.len (filed old) + n))
        → TableGrows (finite.len (filed old) + n) (table_memory old) (table_memory new)
    TableGrows-reserved made few = record {
      had_room = λ fits. ap table_memory (made.had_room (omega arith)).1;
      capacity_at_least = omega (arith, ap finite.len same, made.room_stays);
      cells_at_least = made.memory_stays;
      few = few;
    }

    pub TableShrinks-shrunk :
        Shrinks n (finite.len (filed old)) old result new
        → TableShrinks (max n (finite.len (filed old))) (table_memory old) result (table_memory new)
    TableShrinks-shrunk gave = record {
      never_more = gave.never_more;
      capacity_at_least = omega (arith, ap finite.len same, gave.room_stays);
      shrunk = gave.shrunk;
    }

-- a table that stays
pub TableGrows-same : (wanted : ℕ) (m : TableMemory) → TableGrows wanted m m
TableGrows-same wanted m = record {
  had_room = λ _. refl;
  capacity_at_least = omega arith;
  cells_at_least = omega arith;
  few = omega arith;
}

-- a table that grew, and was filled or stays
pub TableGrows-then :
    (wanted : ℕ) (old grown new : TableMemory)
    → TableGrows wanted old grown
    → new ≡ grown
    → TableGrows wanted old new
TableGrows-then wanted old grown new grows same = rw same grows

-- a memory that stays
pub Grows-same : (limit wanted : ℕ) (m : TriMemory) → Grows limit wanted m m
Grows-same limit wanted m = record {
  slots = record { had_room = λ _. refl; slots_at_least = omega arith; few = omega arith };
  first = TableGrows-same wanted m.tables.first;
  second = TableGrows-same wanted m.tables.second;
  third = TableGrows-same wanted m.tables.third;
}

none_or_some : (n : ℕ) → (n ≡ 0) ⊎ (1 ≤ n)
none_or_some zero = inl refl
none_or_some (suc n) = inr (omega arith)

-- what a store takes for one more
pub SlotsGrow-one :
    {T : Type 0} (old new : SizedStore T)
    → IsValid old.store
    → (IsFull old.store → ⊥)
    → (1 ≤ set_room old → new ≡ old)
    → (set_room old ≡ 0 → new.capacity ≡ doubled old)
    → old.capacity ≤ new.capacity
    → SlotsGrow old.store.limit (live_count old.store + 1) old.capacity new.capacity
SlotsGrow-one old new valid not_full kept grown more = elim (none_or_some (set_room old)) [
  | inl none ↦
      let is = grown none in
      let short : live_count old.store + 1 ≤ old.capacity → ⊥ = λ fits. not_full (no_items old.store.free (omega (arith, none)), omega (arith, none, fits, valid.counted, valid.small)) in
      record { had_room = λ fits. absurd (short fits); slots_at_least = more; few = omega (arith, is) }
  | inr some ↦
      let is = ap (λ (s : SizedStore _). s.capacity) (kept some) in
      record { had_room = λ _. is; slots_at_least = more; few = omega (arith, is) }
]
  where
    no_items : (free : List ℕ) → length free ≡ 0 → free ≡ []
    no_items [] is = refl
    no_items (x ∷ rest) is = absurd (omega (arith, is))

-- the tables of a store count its items
pub HaveLen-held : {T : Type 0} (s : Store T) (maps : Maps) → HoldLive s maps → HaveLen (live_count s) maps
HaveLen-held s maps held = record {
  first = len-held s maps.first held.first;
  second = len-held s maps.second held.second;
  third = len-held s maps.third held.third;
}

-- a memory that grows for no more than it can hold stays as it is
pub Grows-none :
    (limit wanted : ℕ) (old new : TriMemory)
    → wanted ≤ old.slots
    → wanted ≤ least_capacity old.tables
    → Grows limit wanted old new
    → new ≡ old
Grows-none limit wanted old new slots tables grows =
    same_memory new old (grows.slots.had_room slots) (same_three new.tables old.tables (grows.first.had_room (omega arith)) (grows.second.had_room (omega arith)) (grows.third.had_room (omega arith)))

module _ {T : Type 0} (items : SizedStore T) (tables : TriTables) (held : HoldLive items.store (maps_of tables)) where
  -- what the parts take is what all of them take
  pub Grows-parts :
      (limit n : ℕ) (left : SizedStore T) (after : TriTables)
      → SlotsGrow limit (live_count items.store + n) items.capacity left.capacity
      → TablesGrow n tables after
      → Grows limit (live_count items.store + n) (memory_of items tables) (memory_of left after)
  Grows-parts limit n left after slots grow =
      let len = HaveLen-held items.store (maps_of tables) held in
      record {
        slots = slots;
        first = subst (λ l. TableGrows (l + n) (table_memory tables.first) (table_memory after.first)) len.first grow.first;
        second = subst (λ l. TableGrows (l + n) (table_memory tables.second) (table_memory after.second)) len.second grow.second;
        third = subst (λ l. TableGrows (l + n) (table_memory tables.third) (table_memory after.third)) len.third grow.third;
      }

  -- where all can hold so many more, each table can
  pub HaveRoom-held : (n : ℕ) → live_count items.store + n ≤ least_capacity (tables_memory tables) → HaveRoom n tables
  HaveRoom-held n fits =
      let len = HaveLen-held items.store (maps_of tables) held in
      record {
        first = omega (arith, len.first);
        second = omega (arith, len.second);
        third = omega (arith, len.third);
      }

  -- and the other way round
  pub capacity-held : (n : ℕ) → HaveRoom n tables → live_count items.store + n ≤ least_capacity (tables_memory tables)
  capacity-held n has =
      let len = HaveLen-held items.store (maps_of tables) held in
      omega (arith, len.first, len.second, len.third, has.first, has.second, has.third)

-- a slot or a place under the limit is room of the store
pub set_room-held :
    {T : Type 0} (items : SizedStore T)
    → IsValid items.store
    → live_count items.store + 1 ≤ min items.capacity items.store.limit
    → 1 ≤ set_room items
set_room-held items valid fits = omega (arith, valid.counted, valid.small)

same_sized : {T S : Type 0} (a b : SizedTri T S) → a.state ≡ b.state → a.memory ≡ b.memory → a ≡ b
same_sized a b state memory = λ i. record { state = state i; memory = memory i }

module _
    {T S : Type 0} (hasher : S) (items left : SizedStore T) (tables after : TriTables)
    (held : HoldLive items.store (maps_of tables)) (same : left.store ≡ items.store)
    (same_maps : maps_of after ≡ maps_of tables)
  where
    same_state : tri_state_of hasher left.store after ≡ tri_state_of hasher items.store tables
    same_state = rw (same, same_maps) refl

    pub ReservesItems-made :
        {A E : Type 0} (valid : IsValid items.store) (additional : ℕ) (result : Result A E)
        → let wanted = reaching (tri_state_of hasher items.store tables) additional in
        let more = min additional (items.store.limit - live_count items.store) in
        SlotsGrow items.store.limit wanted items.capacity left.capacity
        → wanted ≤ left.capacity
        → TablesGrow more tables after
        → OnOk result (HaveRoom more after)
        → (HaveRoom more tables → IsOk result)
        → ReservesItems additional (sized_tri_of hasher items tables) result (sized_tri_of hasher left after)
    ReservesItems-made valid additional result slots enough grow roomy had =
        let more = min additional (items.store.limit - live_count items.store) in
        let grows = Grows-parts items tables held items.store.limit more left after slots grow in
        record {
          state = same_state;
          reserved = on_ok_weaker result (λ has.
              let holds = capacity-held left after (rw (same, same_maps) held) more has in
              omega (arith, holds, enough, ap live_count same, ap (λ (s : Store T). s.limit) same, valid.counted, valid.small)) roomy;
          grows = grows;
          had_room = λ fits. (
            had (HaveRoom-held items tables held more (omega (arith, fits))),
            same_sized (sized_tri_of hasher left after) (sized_tri_of hasher items tables) same_state (Grows-none items.store.limit (live_count items.store + more) _ _ (omega (arith, fits)) (omega (arith, fits)) grows),
          );
        }

module _
    {T : Type 0} (items left : SizedStore T) (tables after : TriTables) (held : HoldLive items.store (maps_of tables))
    (valid : IsValid items.store) (least : ℕ)
  where
    abbrev slots_kept : ℕ
    slots_kept = max least (slot_count items.store)

    abbrev items_kept : ℕ
    items_kept = max least (live_count items.store)

    counted :
        {A E : Type 0} (old new : TableMemory) (len : ℕ) (r : Result A E)
        → len ≡ live_count items.store
        → TableShrinks (max least len) old r new
        → TableShrinks items_kept old r new
    counted old new len r is shrinks = subst (λ l. TableShrinks (max least l) old r new) is shrinks

    refused_else :
        {A E : Type 0} (old new : TableMemory) (r : Result A E) (error : E)
        → TableShrinks items_kept old r new
        → TableShrinks {A = A} items_kept old (Err error) new
    refused_else old new r error shrinks = record { never_more = shrinks.never_more; capacity_at_least = shrinks.capacity_at_least; shrunk = tt }

    has_more :
        SomeHasMore least after
        → maps_of after ≡ maps_of tables
        → SomeTableHasMore items_kept (tables_memory after)
    has_more some same =
        let len = HaveLen-held items.store (maps_of tables) held in
        let one = ap (λ (m : Maps). finite.len m.first) same in
        let two = ap (λ (m : Maps). finite.len m.second) same in
        let three = ap (λ (m : Maps). finite.len m.third) same in
        elim some [
          | inl more ↦ inl (omega (arith, more, one, len.first))
          | inr rest ↦ elim rest [
            | inl more ↦ inr (inl (omega (arith, more, two, len.second)))
            | inr more ↦ inr (inr (omega (arith, more, three, len.third)))
          ]
        ]

    pub Shrinks-made :
        {A E : Type 0} (slots tabled : Result A E)
        → SetShrinks least items slots left
        → maps_of after ≡ maps_of tables
        → TablesShrink least tables tabled after
        → OnErr tabled (SomeHasMore least after)
        → (least ≡ 0 → HaveLen 0 (maps_of tables) → IsOk tabled)
        → TriShrinks slots_kept items_kept (memory_of items tables) (result_and slots tabled) (memory_of left after)
    Shrinks-made (Ok done) tabled gave same shrank refused succeeds =
        let len = HaveLen-held items.store (maps_of tables) held in
        record {
          never_more = gave.never_more;
          slots_at_least = gave.never_less;
          shrunk = whatever tabled gave.shrunk;
          first = counted _ _ _ tabled len.first shrank.first;
          second = counted _ _ _ tabled len.second shrank.second;
          third = counted _ _ _ tabled len.third shrank.third;
          refused = on_err_weaker tabled (λ some. inr (has_more some same)) refused;
          succeeds = λ none.
              let no_item : live_count items.store ≡ 0 = omega (arith, none, valid.counted) in
              succeeds (omega (arith, none)) (subst (λ n. HaveLen n (maps_of tables)) no_item len);
        }
      where
        whatever : {A E P : Type 0} (r : Result A E) → P → OnOk r P
        whatever (Ok x) is = is
        whatever (Err e) is = tt

        on_err_weaker : {A E P Q : Type 0} (r : Result A E) → (P → Q) → OnErr r P → OnErr r Q
        on_err_weaker (Ok x) then is = tt
        on_err_weaker (Err e) then is = then is
    Shrinks-made (Err error) tabled gave same shrank refused succeeds =
        let len = HaveLen-held items.store (maps_of tables) held in
        record {
          never_more = gave.never_more;
          slots_at_least = gave.never_less;
          shrunk = tt;
          first = refused_else _ _ tabled error (counted _ _ _ tabled len.first shrank.first);
          second = refused_else _ _ tabled error (counted _ _ _ tabled len.second shrank.second);
          third = refused_else _ _ tabled error (counted _ _ _ tabled len.third shrank.third);
          refused = inl gave.refused;
          succeeds = λ none. gave.succeeds none;
        }
