-- How many items there are after a call, how many inserts then need no memory, and that an insert with room isn't
-- refused.
use Rattle.std.proofs.Common.{◌≡◌, ◌∙◌, ◌+◌, ◌-◌, ◌≤◌, ℕ, List, [], ◌∷◌, length, count_by, Option, Some, None, is_some, OnSome, Result, Ok, Err, IsOk, IfOk, refl, sym, ap, subst, arith}
use Rattle.std.specs.List.{Contains}
use Rattle.iddqd.specs.Store.{Store, IsValid, IsFull, get, live_count, removed}
use Rattle.iddqd.proofs.LiveCountLemmas.{live_count-inserted, live_count-removed}
use Rattle.iddqd_keys.specs.Removals.{removed_all}
use Rattle.iddqd_keys.specs.Scan.{IsLive}
use Rattle.iddqd_keys.proofs.RemovalLemmas.{AreLiveInTurn-rising, IsValid-removed_all, live_count-removed_all, limit-removed_all, count-padded}
use Rattle.iddqd_tri.specs.TriKeys.{TriKeys}
use Rattle.iddqd_tri.specs.TriState.{TriState, IsTriState, HasNoClash, AreClashes}
use Rattle.iddqd_tri.specs.TriCalls.{OverwritesAt, Overwriting}
use Rattle.iddqd_tri.specs.TriMemory.{SizedTri, NeedsMemory, capacity, room}
use Rattle.iddqd_tri.specs.declared.tri_refusal.TriRefusal.{TriRefusal}
use Rattle.iddqd_tri.specs.declared.tri_refusal.TriRefusal.TheVariants.{Full, Memory}
use Rattle.iddqd_tri.proofs.TriCallLemmas.{ClashesAt-live, HasNoClash-none, not_full_after}

-- ---- a removal

pub count-taken :
    {T : Type 0} (old new : Store T)
    → IsValid old
    → (ix : ℕ) (r : Option T)
    → r ≡ get old ix
    → OnSome r (new ≡ removed old ix)
    → OnSome r (live_count old ≡ live_count new + 1)
count-taken old new valid ix None is gone = tt
count-taken old new valid ix (Some item) is gone =
    live_count-removed old ix item valid (sym is) ∙ ap (λ s. live_count s + 1) (sym gone)

-- the memory and the limit stay, so the capacity does
capacity-same :
    {T S : Type 0} (old new : SizedTri T S)
    → new.state.store.limit ≡ old.state.store.limit
    → new.memory ≡ old.memory
    → capacity new ≡ capacity old
capacity-same old new limit same = rw (limit, same) refl

one_less : (held was is : ℕ) → was ≡ is + 1 → was ≤ held → held - is ≡ held - was + 1
one_less held was is fewer within = omega arith

pub room-taken :
    {T S : Type 0} (old new : SizedTri T S) (ix : ℕ) (r : Option T)
    → OnSome r (new.state.store ≡ removed old.state.store ix)
    → new.memory ≡ old.memory
    → OnSome r (live_count old.state.store ≡ live_count new.state.store + 1)
    → OnSome r (live_count old.state.store ≤ capacity old → room new ≡ room old + 1)
room-taken old new ix None gone same fewer = tt
room-taken old new ix (Some item) gone same fewer = λ within.
    let held = capacity-same old new (ap (λ (s : Store _). s.limit) gone) same in
    subst (λ n. n - live_count new.state.store ≡ room old + 1) (sym held) (one_less (capacity old) _ _ fewer within)

-- ---- an insert that overwrites

room_left : (held was is gone : ℕ) → is + gone ≡ was + 1 → 1 ≤ held - was → held - is + 1 ≡ held - was + gone
room_left held was is gone count some = omega arith

module _ {T K1 K2 K3 S : Type 0} (keys : TriKeys T K1 K2 K3 S) (item : T) where
  module _ (s : TriState T S) (o : IsTriState keys s) where
    not_full :
        (clashes : List ℕ)
        → AreClashes keys s.store item clashes
        → (HasNoClash keys s.store item → IsFull s.store → ⊥)
        → IsFull (removed_all s.store clashes)
        → ⊥
    not_full [] are place full = place (HasNoClash-none keys s.store item [] refl are) full
    not_full (x ∷ rest) are place full = not_full_after s.store x rest full

    count-overwritten :
        (ix : ℕ) (back : List (Option T)) (new : TriState T S)
        → OverwritesAt keys s item ix back new
        → live_count new.store + count_by is_some back ≡ live_count s.store + 1
    count-overwritten ix back new did =
        let clashes = did.clashes in
        let are = did.are_clashes in
        let live : (ix : ℕ) → Contains clashes ix → IsLive s.store ix = λ ix here. ClashesAt-live keys s.store item ix ((are.each ix).0 here) in
        let in_turn = AreLiveInTurn-rising s.store clashes are.rising live in
        let fewer = live_count-removed_all s.store clashes in_turn o.valid in
        let valid = IsValid-removed_all s.store clashes in_turn o.valid in
        let more = live_count-inserted (removed_all s.store clashes) item valid (not_full clashes are did.place) in
        let lives = ap (λ (t : TriState T S). live_count t.store) did.state in
        let given = ap (count_by is_some) did.items ∙ count-padded (get s.store) 3 clashes are.at_most_three live in
        omega (arith, fewer, more, lives, given)

    pub count-overwriting :
        (r : Result (ℕ × List (Option T)) (TriRefusal T)) (new : TriState T S)
        → Overwriting keys s item r new
        → IfOk r (λ p. live_count new.store + count_by is_some p.1 ≡ live_count s.store + 1)
    count-overwriting (Ok (ix, back)) new did = count-overwritten ix back new did
    count-overwriting (Err refusal) new did = tt

  module _ (old : SizedTri T S) (o : IsTriState keys old.state) where
    pub room-overwriting :
        (r : Result (ℕ × List (Option T)) (TriRefusal T)) (new : SizedTri T S)
        → Overwriting keys old.state item r new.state
        → (1 ≤ room old → new.memory ≡ old.memory)
        → IfOk r (λ p. 1 ≤ room old → room new + 1 ≡ room old + count_by is_some p.1)
    room-overwriting (Err refusal) new did same = tt
    room-overwriting (Ok (ix, back)) new did same = λ some.
        let limit = ap (λ (t : TriState T S). t.store.limit) did.state ∙ limit-removed_all old.state.store did.clashes in
        let held = capacity-same old new limit (same some) in
        let count = count-overwritten old.state o ix back new.state did in
        subst (λ n. n - live_count new.state.store + 1 ≡ room old + count_by is_some back) (sym held)
        (room_left (capacity old) _ _ _ count some)

    pub IsOk-with_room :
        (r : Result (ℕ × List (Option T)) (TriRefusal T)) (new : TriState T S)
        → Overwriting keys old.state item r new
        → ((back : T) → r ≡ Err (Memory back) → NeedsMemory keys old item)
        → 1 ≤ room old
        → IsOk r
    IsOk-with_room (Ok p) new did needed some = refl
    IsOk-with_room (Err (Full back)) new did needed some =
        let full = did.2 in
        absurd (omega (arith, some, ap length full.0, full.1, o.valid.counted))
    IsOk-with_room (Err (Memory back)) new did needed some = absurd (omega (arith, some, (needed back refl).no_room))
