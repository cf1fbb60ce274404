use Rattle.std.proofs.Common.{◌≡◌, ◌↔◌, ◌∙◌, ℕ, ◌+◌, ◌≤◌, List, [], ◌∷◌, Option, None, Result, Ok, Err, sym, ap, subst, arith}
use Rattle.std.specs.Result.{IsOk, IfOk, OnOk, IsErr, IsErrAnd, IfErr, OnErr}
use Rattle.iddqd.specs.Store.{Store, IsFull, next_index, inserted, live_count}
use Rattle.iddqd_tri.specs.Clashes.{AreInOrder, IsOneOf, clashing}
use Rattle.iddqd_tri.specs.TriKeys.{TriKeys, tri_keys_of, hashes_in}
use Rattle.iddqd_keys.specs.Removals.{removed_all}
use Rattle.iddqd_tri.specs.TriState.{TriState, Maps, IsTriState, ClashesAt, HasNoClash, maps_with, maps_without_all}
use Rattle.iddqd_tri.specs.TriMemory.{SizedTri, Grows, room}
use Rattle.iddqd_tri.specs.declared.tri_refusal.TriRefusal.{TriRefusal}
use Rattle.iddqd_tri.specs.declared.tri_refusal.TriRefusal.TheVariants.{Memory}
use Rattle.iddqd_tri.specs.TriTables.{maps_of, tri_state_of, memory_of, sized_tri_of}
use Rattle.iddqd_tri.specs.TriCalls.{HasNoPlace, Overwriting}
use Rattle.iddqd_tri.proofs.ClashLemmas.{none_listed, some_listed, some_there}
use Rattle.iddqd_tri.proofs.TriLemmas.{AreLawful-from_bounds}
use Rattle.iddqd_tri.proofs.TriCallLemmas.{ClashesAt-live, AreClashes-listed, HasNoClash-none, with_none, inserted_apart, inserted_over}
use Rattle.iddqd_tri.proofs.TriMemoryLemmas.{Grows-parts, Grows-none, Grows-same, HaveRoom-held, set_room-held}
use Rattle.iddqd_tri.proofs.TriCountLemmas.{count-overwriting, room-overwriting, IsOk-with_room}
use Rattle.iddqd_tri.proofs.tri_items.TriItems.insert_overwrite.Goals.{After-replace_clashes-ix}
use Rattle.iddqd_tri.proofs.tri_items.TriItems.insert_overwrite.Given.{Over}
use Rattle.iddqd_tri.proofs.tri_items.TriItems.insert_overwrite.Goals as goal

-- the keys of the items
abbrev keys_in :
    (g : Over) → TriKeys g.row.T.Denot g.row.T-Key1.Denot g.row.T-Key2.Denot g.row.T-Key3.Denot g.row.S.Denot
keys_in g = tri_keys_of g.T.TriHashItem g.T.Key1.PartialEq.eq g.T.Key1.Hash.hash_input g.T.Key2.PartialEq.eq g.T.Key2.Hash.hash_input g.T.Key3.PartialEq.eq g.T.Key3.Hash.hash_input g.S.BuildHasher g.S.Hasher.Hasher

pub replace_clashes-ix-requires-clause-live : goal.replace_clashes-ix-requires-clause-live
replace_clashes-ix-requires-clause-live g c =
    let found = rw (← c.self.view_is) at c.clashes-clashes.ensures.clashes in
    λ ix here. ClashesAt-live (keys_in g) c.self.inside.items.store c.args.item ix ((found ix).0 here)

pub replace_clashes-ix-requires-clause-some : goal.replace_clashes-ix-requires-clause-some
replace_clashes-ix-requires-clause-some g c =
    some_there _ (λ none. let is = c.is_empty.ensures.1 none in let not = c.if-is_empty.false in cc)

-- what it hands back
abbrev pair : (g : _) (c : After-replace_clashes-ix g) → ℕ × List (Option g.row.T.Denot)
pair g c =
    let r = c.replace_clashes-ix.result in
    (r.0, (r.1.0 ∷ (r.1.1 ∷ (r.1.2 ∷ []))))

-- what is left where nothing clashes, and what is answered
apart :
    (g : Over) (s : TriState g.row.T.Denot g.row.S.Denot) (item : g.row.T.Denot) (first second third : Option ℕ)
    → IsTriState (keys_in g) s
    → AreInOrder first second third
    → ((ix : ℕ) → IsOneOf first second third ix ↔ ClashesAt (keys_in g) s.store item ix)
    → first ≡ None
    → (r : Result ℕ (TriRefusal g.row.T.Denot)) (store : Store g.row.T.Denot) (maps : Maps)
    → (IsOk r → IsFull s.store → ⊥)
    → IfOk r (λ ix. ix ≡ next_index s.store)
    → OnOk r (store ≡ inserted s.store item)
    → OnOk r (maps ≡ maps_with s.maps (next_index s.store) (hashes_in (keys_in g) s.hasher item))
    → IfErr r (HasNoPlace s.store item)
    → OnErr r (store ≡ s.store)
    → OnErr r (maps ≡ s.maps)
    → IsTriState (keys_in g) (record s { store = store; maps = maps })
    × Overwriting (keys_in g) s item (with_none r) (record s { store = store; maps = maps })
apart g s item first second third o ordered found none r store maps not_full index stored added refused items_stay maps_stay =
    let are = AreClashes-listed (keys_in g) s.store item first second third ordered found in
    let lawful = AreLawful-from_bounds g.T.TriHashItem _ _ _ _ _ _ g.S.BuildHasher g.S.Hasher.Hasher s.hasher g.met.T.Key1.PartialEq.laws g.met.T.Key1.Hash.respects_eq g.met.T.Key2.PartialEq.laws g.met.T.Key2.Hash.respects_eq g.met.T.Key3.PartialEq.laws g.met.T.Key3.Hash.respects_eq in
    inserted_apart (keys_in g) s item lawful o _ (none_listed first second third ordered none) are r store maps not_full index stored added refused items_stay maps_stay

-- what the insert without clashes leaves and answers, if it succeeds
did_ok : (g : _) (c : goal.In_ok-ix g)
    → let was = tri_state_of c.self.inside.state c.self.inside.items.store c.self.inside.tables in
    let is = tri_state_of c.self.inside.state c.insert_without_clash.new.items.store c.insert_without_clash.new.tables in
    IsTriState (keys_in g) is × Overwriting (keys_in g) was c.args.item (with_none c.insert_without_clash.result) is
did_ok g c =
    let s = tri_state_of c.self.inside.state c.self.inside.items.store c.self.inside.tables in
    let found = rw (← c.self.view_is) at c.clashes-clashes.ensures.clashes in
    let did = c.insert_without_clash.ensures in
    let r = c.insert_without_clash.result in
    let maps = maps_of c.insert_without_clash.new.tables in
    let added = subst (λ h. OnOk r (maps ≡ maps_with s.maps (next_index s.store) h)) c.of-hashes.ensures did.added in
    apart g s c.args.item _ _ _ c.self.invariant c.clashes-clashes.ensures.ordered found (c.is_empty.ensures.0 c.if-is_empty.true) r c.insert_without_clash.new.items.store maps did.not_full did.index did.stored added did.refused did.items_stay did.tables_stay

pub invariant_of-self-then-is_empty : goal.invariant_of-self-then-is_empty
invariant_of-self-then-is_empty g c = (did_ok g c).0

pub returns-then-is_empty-clause-overwrites : goal.returns-then-is_empty-clause-overwrites
returns-then-is_empty-clause-overwrites g c =
    let is = tri_state_of c.self.inside.state c.insert_without_clash.new.items.store c.insert_without_clash.new.tables in
    let left = subst (λ r. Overwriting (keys_in g) (tri_state_of c.self.inside.state c.self.inside.items.store c.self.inside.tables) c.args.item (with_none r) is) c.in_ok-ix.was (did_ok g c).1 in
    subst (λ t. Overwriting (keys_in g) t.state c.args.item (with_none (Ok c.in_ok-ix.ix)) is) c.self.view_is left

pub returns-then-is_empty-clause-state_after : goal.returns-then-is_empty-clause-state_after
returns-then-is_empty-clause-state_after g c = (did_ok g c).0

-- the same, if it is refused
did_err : (g : _) (c : goal.After-from_residual g)
    → let was = tri_state_of c.self.inside.state c.self.inside.items.store c.self.inside.tables in
    let is = tri_state_of c.self.inside.state c.insert_without_clash.new.items.store c.insert_without_clash.new.tables in
    IsTriState (keys_in g) is × Overwriting (keys_in g) was c.args.item (with_none c.insert_without_clash.result) is
did_err g c =
    let s = tri_state_of c.self.inside.state c.self.inside.items.store c.self.inside.tables in
    let found = rw (← c.self.view_is) at c.clashes-clashes.ensures.clashes in
    let did = c.insert_without_clash.ensures in
    let r = c.insert_without_clash.result in
    let maps = maps_of c.insert_without_clash.new.tables in
    let added = subst (λ h. OnOk r (maps ≡ maps_with s.maps (next_index s.store) h)) c.of-hashes.ensures did.added in
    apart g s c.args.item _ _ _ c.self.invariant c.clashes-clashes.ensures.ordered found (c.is_empty.ensures.0 c.if-is_empty.true) r c.insert_without_clash.new.items.store maps did.not_full did.index did.stored added did.refused did.items_stay did.tables_stay

pub invariant_of-self : goal.invariant_of-self
invariant_of-self g c = (did_err g c).0

-- a result that is an error, and this one
error_of :
    {A E : Type 0} (r : Result A E) (error : E)
    → IsErr r × IsErrAnd r (λ e. e ≡ error)
    → r ≡ Err error
error_of (Ok a) error is = absurd (cc)
error_of (Err e) error is = ap Err is.1

pub returns-in_err-ix-clause-overwrites : goal.returns-in_err-ix-clause-overwrites
returns-in_err-ix-clause-overwrites g c =
    let is = tri_state_of c.self.inside.state c.insert_without_clash.new.items.store c.insert_without_clash.new.tables in
    let was = tri_state_of c.self.inside.state c.self.inside.items.store c.self.inside.tables in
    let left = subst (λ r. Overwriting (keys_in g) was c.args.item (with_none r) is) c.in_err-ix.was (did_err g c).1 in
    let back = sym (error_of c.from_residual.result c.in_err-ix.field-0.0 c.from_residual.ensures) in
    subst (λ t. Overwriting (keys_in g) t.state c.args.item c.from_residual.result is) c.self.view_is (subst (λ r. Overwriting (keys_in g) was c.args.item r is) back left)

-- what the call leaves, and what it answers
over : (g : _) (c : After-replace_clashes-ix g)
    → let was = tri_state_of c.self.inside.state c.self.inside.items.store c.self.inside.tables in
    let new = c.replace_clashes-ix.new in
    let is = tri_state_of c.self.inside.state new.items.store new.tables in
    IsTriState (keys_in g) is × Overwriting (keys_in g) was c.args.item (Ok (pair g c)) is
over g c =
    let s = tri_state_of c.self.inside.state c.self.inside.items.store c.self.inside.tables in
    let item = c.args.item in
    let found = rw (← c.self.view_is) at c.clashes-clashes.ensures.clashes in
    let are = AreClashes-listed (keys_in g) s.store item _ _ _ c.clashes-clashes.ensures.ordered found in
    let lawful = AreLawful-from_bounds g.T.TriHashItem _ _ _ _ _ _ g.S.BuildHasher g.S.Hasher.Hasher c.self.inside.state g.met.T.Key1.PartialEq.laws g.met.T.Key1.Hash.respects_eq g.met.T.Key2.PartialEq.laws g.met.T.Key2.Hash.respects_eq g.met.T.Key3.PartialEq.laws g.met.T.Key3.Hash.respects_eq in
    let did = c.replace_clashes-ix.ensures in
    let maps = maps_of c.replace_clashes-ix.new.tables in
    let clashes = clashing c.clashes-clashes.result in
    let left = removed_all s.store clashes in
    let added = subst (λ h. maps ≡ maps_with (maps_without_all s.maps clashes) (next_index left) h) c.of-hashes.ensures did.added in
    let (x, rest, some) = some_listed c.clashes-clashes.result.first c.clashes-clashes.result.second c.clashes-clashes.result.third (λ none. let is = c.is_empty.ensures.1 none in let not = c.if-is_empty.false in cc) in
    inserted_over (keys_in g) s item lawful c.self.invariant clashes x rest some are (pair g c) c.replace_clashes-ix.new.items.store maps did.index did.values did.stored added

pub invariant_of-self-2 : goal.invariant_of-self-2
invariant_of-self-2 g c = (over g c).0

pub returns-clause-overwrites : goal.returns-clause-overwrites
returns-clause-overwrites g c =
    subst (λ t. Overwriting (keys_in g) t.state c.args.item (Ok (pair g c)) (tri_state_of c.self.inside.state c.replace_clashes-ix.new.items.store c.replace_clashes-ix.new.tables)) c.self.view_is (over g c).1

pub returns-clause-state_after : goal.returns-clause-state_after
returns-clause-state_after g c = (over g c).0

-- over others the memory stays
same :
    (g : _) (c : After-replace_clashes-ix g)
    → memory_of c.replace_clashes-ix.new.items c.replace_clashes-ix.new.tables ≡ c.args.self.now.memory
same g c = c.replace_clashes-ix.ensures.memory ∙ ap (λ (t : SizedTri _ _). t.memory) c.self.view_is

pub returns-clause-over_others : goal.returns-clause-over_others
returns-clause-over_others g c = λ ix clash. same g c

pub returns-clause-in_room : goal.returns-clause-in_room
returns-clause-in_room g c = λ some. same g c

pub returns-clause-grows : goal.returns-clause-grows
returns-clause-grows g c =
    let s = c.args.self.now.state.store in
    subst (λ m. Grows s.limit (live_count s + 1) c.args.self.now.memory m) (sym (same g c)) (Grows-same s.limit (live_count s + 1) c.args.self.now.memory)

-- it grows for one item
grown_ok : (g : _) (c : goal.In_ok-ix g)
    → let s = c.self.inside.items.store in
    Grows s.limit (live_count s + 1) (memory_of c.self.inside.items c.self.inside.tables)
    (memory_of c.insert_without_clash.new.items c.insert_without_clash.new.tables)
grown_ok g c =
    Grows-parts c.self.inside.items c.self.inside.tables c.self.invariant.held c.self.inside.items.store.limit 1 c.insert_without_clash.new.items c.insert_without_clash.new.tables c.insert_without_clash.ensures.slots c.insert_without_clash.ensures.memory

-- and nothing clashes with the item
none_ok : (g : _) (c : goal.In_ok-ix g) → HasNoClash (keys_in g) c.self.inside.items.store c.args.item
none_ok g c =
    let s = c.self.inside.items.store in
    let found = rw (← c.self.view_is) at c.clashes-clashes.ensures.clashes in
    let are = AreClashes-listed (keys_in g) s c.args.item _ _ _ c.clashes-clashes.ensures.ordered found in
    HasNoClash-none (keys_in g) s c.args.item (clashing c.clashes-clashes.result) (none_listed _ _ _ c.clashes-clashes.ensures.ordered (c.is_empty.ensures.0 c.if-is_empty.true)) are

pub returns-then-is_empty-clause-over_others : goal.returns-then-is_empty-clause-over_others
returns-then-is_empty-clause-over_others g c =
    rw (← c.self.view_is) (λ ix clash. absurd (none_ok g c ix clash))

pub returns-then-is_empty-clause-in_room : goal.returns-then-is_empty-clause-in_room
returns-then-is_empty-clause-in_room g c =
    rw (← c.self.view_is) (λ some. Grows-none _ _ _ _ (omega (arith, some)) (omega (arith, some)) (grown_ok g c))

pub returns-then-is_empty-clause-grows : goal.returns-then-is_empty-clause-grows
returns-then-is_empty-clause-grows g c = rw (← c.self.view_is) (grown_ok g c)

-- it grows for one item
grown_err : (g : _) (c : goal.After-from_residual g)
    → let s = c.self.inside.items.store in
    Grows s.limit (live_count s + 1) (memory_of c.self.inside.items c.self.inside.tables)
    (memory_of c.insert_without_clash.new.items c.insert_without_clash.new.tables)
grown_err g c =
    Grows-parts c.self.inside.items c.self.inside.tables c.self.invariant.held c.self.inside.items.store.limit 1 c.insert_without_clash.new.items c.insert_without_clash.new.tables c.insert_without_clash.ensures.slots c.insert_without_clash.ensures.memory

-- and nothing clashes with the item
none_err : (g : _) (c : goal.After-from_residual g) → HasNoClash (keys_in g) c.self.inside.items.store c.args.item
none_err g c =
    let s = c.self.inside.items.store in
    let found = rw (← c.self.view_is) at c.clashes-clashes.ensures.clashes in
    let are = AreClashes-listed (keys_in g) s c.args.item _ _ _ c.clashes-clashes.ensures.ordered found in
    HasNoClash-none (keys_in g) s c.args.item (clashing c.clashes-clashes.result) (none_listed _ _ _ c.clashes-clashes.ensures.ordered (c.is_empty.ensures.0 c.if-is_empty.true)) are

pub returns-in_err-ix-clause-over_others : goal.returns-in_err-ix-clause-over_others
returns-in_err-ix-clause-over_others g c =
    rw (← c.self.view_is) (λ ix clash. absurd (none_err g c ix clash))

pub returns-in_err-ix-clause-in_room : goal.returns-in_err-ix-clause-in_room
returns-in_err-ix-clause-in_room g c =
    rw (← c.self.view_is) (λ some. Grows-none _ _ _ _ (omega (arith, some)) (omega (arith, some)) (grown_err g c))

pub returns-in_err-ix-clause-grows : goal.returns-in_err-ix-clause-grows
returns-in_err-ix-clause-grows g c = rw (← c.self.view_is) (grown_err g c)

pub returns-in_err-ix-clause-needed : goal.returns-in_err-ix-clause-needed
returns-in_err-ix-clause-needed g c =
    let items = c.self.inside.items in
    let tables = c.self.inside.tables in
    let error = c.in_err-ix.field-0.0 in
    let same : (back : _) → c.from_residual.result ≡ Err (Memory back) → Memory back ≡ error = λ back is. subst (λ r. IsErrAnd r (λ e. e ≡ error)) is c.from_residual.ensures.1 in
    let needed : (back : _) → c.from_residual.result ≡ Err (Memory back) → 1 ≤ room (sized_tri_of c.self.inside.state items tables) → ⊥ = λ back is some. c.insert_without_clash.ensures.needed back (c.in_err-ix.was ∙ ap Err (sym (same back is))) (set_room-held items c.self.invariant.valid (omega (arith, some))) (HaveRoom-held items tables c.self.invariant.held 1 (omega (arith, some))) in
    rw (← c.self.view_is) (λ back is. record { no_clash = none_err g c; no_room = let never = needed back is in omega arith })

-- ---- how many items there are then, and how many more need no memory

pub returns-then-is_empty-clause-count : goal.returns-then-is_empty-clause-count
returns-then-is_empty-clause-count g c =
    let was = tri_state_of c.self.inside.state c.self.inside.items.store c.self.inside.tables in
    let is = tri_state_of c.self.inside.state c.insert_without_clash.new.items.store c.insert_without_clash.new.tables in
    let did = subst (λ r. Overwriting (keys_in g) was c.args.item (with_none r) is) c.in_ok-ix.was (did_ok g c).1 in
    rw (← c.self.view_is)
    (count-overwriting (keys_in g) c.args.item was c.self.invariant (with_none (Ok c.in_ok-ix.ix)) is did)

pub returns-then-is_empty-clause-room : goal.returns-then-is_empty-clause-room
returns-then-is_empty-clause-room g c =
    let was = sized_tri_of c.self.inside.state c.self.inside.items c.self.inside.tables in
    let is = sized_tri_of c.self.inside.state c.insert_without_clash.new.items c.insert_without_clash.new.tables in
    let did = subst (λ r. Overwriting (keys_in g) was.state c.args.item (with_none r) is.state) c.in_ok-ix.was (did_ok g c).1 in
    let stays : 1 ≤ room was → is.memory ≡ was.memory = λ some. Grows-none _ _ _ _ (omega (arith, some)) (omega (arith, some)) (grown_ok g c) in
    rw (← c.self.view_is)
    (room-overwriting (keys_in g) c.args.item was c.self.invariant (with_none (Ok c.in_ok-ix.ix)) is did stays)

-- what a refusal answers
did_refuse : (g : _) (c : goal.After-from_residual g)
    → let was = tri_state_of c.self.inside.state c.self.inside.items.store c.self.inside.tables in
    let is = tri_state_of c.self.inside.state c.insert_without_clash.new.items.store c.insert_without_clash.new.tables in
    Overwriting (keys_in g) was c.args.item c.from_residual.result is
did_refuse g c =
    let was = tri_state_of c.self.inside.state c.self.inside.items.store c.self.inside.tables in
    let is = tri_state_of c.self.inside.state c.insert_without_clash.new.items.store c.insert_without_clash.new.tables in
    let left = subst (λ r. Overwriting (keys_in g) was c.args.item (with_none r) is) c.in_err-ix.was (did_err g c).1 in
    let back = sym (error_of c.from_residual.result c.in_err-ix.field-0.0 c.from_residual.ensures) in
    subst (λ r. Overwriting (keys_in g) was c.args.item r is) back left

pub returns-in_err-ix-clause-count : goal.returns-in_err-ix-clause-count
returns-in_err-ix-clause-count g c =
    let was = tri_state_of c.self.inside.state c.self.inside.items.store c.self.inside.tables in
    rw (← c.self.view_is)
    (count-overwriting (keys_in g) c.args.item was c.self.invariant c.from_residual.result _ (did_refuse g c))

pub returns-in_err-ix-clause-room : goal.returns-in_err-ix-clause-room
returns-in_err-ix-clause-room g c =
    let was = sized_tri_of c.self.inside.state c.self.inside.items c.self.inside.tables in
    let is = sized_tri_of c.self.inside.state c.insert_without_clash.new.items c.insert_without_clash.new.tables in
    let stays : 1 ≤ room was → is.memory ≡ was.memory = λ some. Grows-none _ _ _ _ (omega (arith, some)) (omega (arith, some)) (grown_err g c) in
    rw (← c.self.view_is)
    (room-overwriting (keys_in g) c.args.item was c.self.invariant c.from_residual.result is (did_refuse g c) stays)

pub returns-in_err-ix-clause-not_refused : goal.returns-in_err-ix-clause-not_refused
returns-in_err-ix-clause-not_refused g c =
    let was = sized_tri_of c.self.inside.state c.self.inside.items c.self.inside.tables in
    let needed = rw (← c.self.view_is) at (returns-in_err-ix-clause-needed g c) in
    rw (← c.self.view_is)
    (IsOk-with_room (keys_in g) c.args.item was c.self.invariant c.from_residual.result _ (did_refuse g c) needed)

pub returns-clause-count : goal.returns-clause-count
returns-clause-count g c =
    let was = tri_state_of c.self.inside.state c.self.inside.items.store c.self.inside.tables in
    rw (← c.self.view_is)
    (count-overwriting (keys_in g) c.args.item was c.self.invariant (Ok (pair g c)) _ (over g c).1)

pub returns-clause-room : goal.returns-clause-room
returns-clause-room g c =
    let was = sized_tri_of c.self.inside.state c.self.inside.items c.self.inside.tables in
    let is = sized_tri_of c.self.inside.state c.replace_clashes-ix.new.items c.replace_clashes-ix.new.tables in
    rw (← c.self.view_is)
    (room-overwriting (keys_in g) c.args.item was c.self.invariant (Ok (pair g c)) is (over g c).1
    (λ some. c.replace_clashes-ix.ensures.memory))
