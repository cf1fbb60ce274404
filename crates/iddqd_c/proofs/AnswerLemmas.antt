-- What functions on entries answer, from what the calls of the map answer.
use Rattle.std.proofs.Common.{◌≡◌, ◌∙◌, ◌+◌, ℕ, Bool, true, false, List, Option, Some, None, inl, refl, sym, subst, arith, true≢false}
use Rattle.std.specs.Prelude.{◌||◌}
use Rattle.std.specs.Str.{bytes_eq}
use Rattle.iddqd.specs.Store.{Store, get, live_count}
use Rattle.iddqd_hash.specs.Sizes.{most_cells}
use Rattle.iddqd_keys.specs.Scan.{AnswersScan, AreApart, HasNoHit}
use Rattle.iddqd_codes.specs.declared.TheConstants.{OK}
use Rattle.iddqd_map.specs.Map.{RemovesFull, RemovesHit}
use Rattle.iddqd_map.specs.Memory.{MakesRoom}
use Rattle.iddqd_map.specs.PairConflict.{Reports}
use Rattle.iddqd_map.specs.Several.{either_key}
use Rattle.iddqd_c.specs.Entries.{FindsFirst, FindsLeast, FindsSecond, RemovesFirst, RemovesIndex, RemovesSecond, TakesMemory}
use Rattle.iddqd_c.specs.Held.{Items, Taken}
use Rattle.iddqd_c.specs.Keys.{has_first, has_second}
use Rattle.iddqd_c.specs.Rows.{SaysRow, row_of}
use Rattle.iddqd_c.specs.declared.entry.Entry.{Entry}
use Rattle.iddqd_c.specs.declared.entry.Row.{Row}

module _ (ix code : ℕ) (row : Row) where
  -- the row at an index that a look-up found is that of the one entry that passes
  pub finds_first :
      (bytes : List ℕ) (m : Items)
      → AnswersScan m.store (has_first bytes) (Some ix)
      → SaysRow code row ix (get m.store ix)
      → FindsFirst bytes code row m
  finds_first bytes m scan says =
      let (entry, live, passes) = (scan ix).1 refl in
      let said = subst (SaysRow code row ix) live says in
      inl (said.0, (ix, (entry, record { live = live; only = scan }, said.1)))

  -- and of the one with the least index among those that pass
  pub finds_second :
      (second : ℕ) (m : Items)
      → FindsLeast m.store (has_second second) (Some ix)
      → SaysRow code row ix (get m.store ix)
      → FindsSecond second code row m
  finds_second second m (hit, least) says =
      let (entry, live, passes) = hit in
      let said = subst (SaysRow code row ix) live says in
      inl (said.0, (ix, (entry, record { live = live; hit = hit; least = least }, said.1)))

  -- the same of a removal
  pub removes_second :
      (second : ℕ) (old new : Items)
      → FindsLeast old.store (has_second second) (Some ix)
      → RemovesIndex ix code row old new
      → RemovesSecond second code row old new
  removes_second second old new (hit, least) (Some entry, says, removes) =
      inl (says.0, (ix, (entry, record { live = removes.0; hit = hit; least = least }, says.1, removes)))
  removes_second second old new (hit, least) (None, says, removes) =
      let (entry, live, passes) = hit in
      let both : Some entry ≡ None = sym live ∙ removes.0 in
      cc

-- a removal that says which index it was
pub removes_first :
    (bytes : List ℕ) (row : Row) (old new : Items) (ix : ℕ) (entry : Entry)
    → RemovesFull old (has_first bytes) (Some (ix, entry)) new
    → row ≡ row_of ix entry
    → RemovesFirst bytes OK row old new
removes_first bytes row old new ix entry (only, left, memory) says =
    let hit : RemovesHit old (has_first bytes) entry new = record { ix = ix; hit = only; left = left; memory = memory } in
    inl (refl, (entry, (hit, says)))

-- a table that stayed took no memory
pub takes_none : (old new : Items) → new ≡ old → TakesMemory old new
takes_none old new same = subst (TakesMemory old) (sym same) (record {
  had_room = λ _. refl;
  slots_at_least = omega arith;
  capacity_at_least = omega arith;
  few_slots = omega arith;
  few_cells = omega arith;
})

-- a table of second keys that takes no cells for an insert leaves those of the table of hashes
pub takes_hashed :
    (old new : Items) (grown : ℕ → ℕ) → ((count : ℕ) → grown count ≡ 0)
    → MakesRoom (λ n. most_cells n + grown n) old new.memory → TakesMemory old new
takes_hashed old new grown none takes =
    let zero : grown (live_count old.store + 1) ≡ 0 = none (live_count old.store + 1) in
    record {
      had_room = takes.had_room;
      slots_at_least = takes.slots_at_least;
      capacity_at_least = takes.capacity_at_least;
      few_slots = takes.few_slots;
      few_cells = omega (arith, takes.few_cells, zero);
    }

or_first : (a b : Bool) → a ≡ true → (a || b) ≡ true
or_first true b is = refl
or_first false b is = absurd (true≢false (sym is))

or_second : (a b : Bool) → b ≡ true → (a || b) ≡ true
or_second true b is = refl
or_second false b is = is

-- how the map compares first keys
abbrev pub alike_first : Entry → Entry → Bool
alike_first x y = bytes_eq x.first.bytes.items y.first.bytes.items

-- what the map says of an entry that shares no unique key, by its keys
module _ (taken : Taken) (alike : Entry → Entry → Bool) (same : (x y : Entry) → alike x y ≡ taken x.second y) where
  pub new_first :
      (s : Store Entry) (entry : Entry) → HasNoHit s (either_key alike_first alike entry)
      → HasNoHit s (has_first entry.first.bytes.items)
  new_first s entry none ix (other, live, passes) =
      none ix (other, live, or_first _ _ passes)

  pub new_second :
      (s : Store Entry) (entry : Entry) → HasNoHit s (either_key alike_first alike entry)
      → HasNoHit s (taken entry.second)
  new_second s entry none ix (other, live, passes) =
      none ix (other, live, or_second _ _ (same entry other ∙ passes))

  -- and of entries of which no two share a unique key
  pub apart_first :
      (s : Store Entry) → AreApart (either_key alike_first alike) s
      → AreApart (λ x. has_first x.first.bytes.items) s
  apart_first s apart i j x y at_i at_j shared = apart i j x y at_i at_j (or_first _ _ shared)

  pub apart_second : (s : Store Entry) → AreApart (either_key alike_first alike) s → AreApart (λ x. taken x.second) s
  apart_second s apart i j x y at_i at_j shared = apart i j x y at_i at_j (or_second _ _ (same x y ∙ shared))

-- what the table of hashes reports of an entry is what a scan for its first key answers
pub scans_first :
    (s : Store Entry) (entry : Entry) (at : Option ℕ)
    → Reports alike_first (λ s item at. AnswersScan s (alike_first item) (Some at)) s entry at
    → AnswersScan s (has_first entry.first.bytes.items) at
scans_first s entry None none = none
scans_first s entry (Some ix) scan = scan

-- what a scan answers has the least index of all that pass, since no other passes
pub scan_least : (s : Store Entry) (test : Entry → Bool) (r : Option ℕ) → AnswersScan s test r → FindsLeast s test r
scan_least s test None none = none
scan_least s test (Some ix) scan = ((scan ix).1 refl, λ j hit. (let here : j ≡ ix = (scan j).0 hit in omega (arith, here)))
