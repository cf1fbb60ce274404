-- What the functions on keyed items answer and leave, by the relations of the map.
use Rattle.std.specs.Prelude.{◌≡◌, ◌⊎◌, ◌+◌, ◌≤◌, ◌<◌, ℕ, Bool, List, ◌∷◌, ◌++◌, drop, length, Option, Some, None, IsSome, Ok, Err, Result}
use Rattle.std.specs.List.{slice_range, zip}
use Rattle.std.specs.declared.alloc.AllocError.{AllocError}
use Rattle.iddqd.specs.Store.{IsFull, Store, get, live_count, next_index, inserted, rebound, cleared}
use Rattle.iddqd_hash.specs.Sizes.{most_cells}
use Rattle.iddqd_keys.specs.Scan.{HasNoHit, AnswersScan, AreApart, IsHit}
use Rattle.iddqd_map.specs.Groups.{CountsHits}
use Rattle.iddqd_map.specs.Map.{IsOnly, RemovesAt, RemovesHit, room}
use Rattle.iddqd_map.specs.Memory.{MakesRoom, ReservesItems}
use Rattle.iddqd_map.specs.PairConflict.{Reports, first_of, second_of}
use Rattle.iddqd_map.specs.Ranges.{LeavesOthers}
use Rattle.iddqd_map.specs.declared.pair_conflict.PairConflict.{PairConflict}
use Rattle.iddqd_map.specs.declared.refusal.InsertRefusal.{InsertRefusal}
use Rattle.iddqd_map.specs.declared.refusal.InsertRefusal.TheVariants.{Duplicate, Full, Memory}
use Rattle.iddqd_ord_map.specs.OrderedSteps.{most_cells as most_ordered}
use Rattle.iddqd_codes.specs.declared.TheConstants.{OK, MISSING, DUPLICATE, FULL, MEMORY, SMALL}
use Rattle.iddqd_c.specs.Held.{Items, Taken}
use Rattle.iddqd_c.specs.Keys.{IsEntry, has_first, has_second}
use Rattle.iddqd_c.specs.Rows.{AreAlike, CopiesBytes, SaysRow, no_row, number_of, row_of}
use Rattle.iddqd_c.specs.declared.entry.Conflict.{Conflict}
use Rattle.iddqd_c.specs.declared.entry.Entry.{Entry}
use Rattle.iddqd_c.specs.declared.entry.Row.{Row}

-- the entry with this value
abbrev pub with_value : Entry → ℕ → Entry
with_value entry value = record entry { value = value }

-- what a count answers
abbrev pub Counts : ℕ → ℕ → Items → Type 0
Counts code count m = (code ≡ OK) × (count ≡ live_count m.store)

-- what a question for the room answers
abbrev pub CountsRoom : ℕ → ℕ → Items → Type 0
CountsRoom code count m = (code ≡ OK) × (count ≡ room m)

-- what a read of an index answers
abbrev pub GetsRow : ℕ → ℕ → Row → Items → Type 0
GetsRow ix code row m = SaysRow code row ix (get m.store ix)

-- What a look-up by a first key answers: the row of the one entry that has it; or no entry has it.
abbrev pub FindsFirst : List ℕ → ℕ → Row → Items → Type 0
FindsFirst bytes code row m =
    ((code ≡ OK) × ((ix : ℕ) × ((entry : Entry) × IsOnly m.store (has_first bytes) ix entry × (row ≡ row_of ix entry))))
    ⊎ ((code ≡ MISSING) × HasNoHit m.store (has_first bytes))

-- this is the entry at the index, it passes the test, and no entry at a lesser index does
pub record IsLeast (s : Store Entry) (test : Entry → Bool) (ix : ℕ) (entry : Entry) : Type 0 where
  pub live : get s ix ≡ Some entry
  pub hit : IsHit s test ix
  pub least : (j : ℕ) → IsHit s test j → ix ≤ j

-- the least index whose entry passes the test; `None` if and only if no entry passes
abbrev pub FindsLeast : Store Entry → (Entry → Bool) → Option ℕ → Type 0
FindsLeast s test (Some ix) = IsHit s test ix × ((j : ℕ) → IsHit s test j → ix ≤ j)
FindsLeast s test None = HasNoHit s test

-- What a look-up by a second key answers: the row of the entry with the least index among those that have it; or no
-- entry has it. In a table whose second keys are unique there is one such entry at most.
abbrev pub FindsSecond : ℕ → ℕ → Row → Items → Type 0
FindsSecond second code row m =
    ((code ≡ OK)
    × ((ix : ℕ) × ((entry : Entry) × IsLeast m.store (has_second second) ix entry × (row ≡ row_of ix entry))))
    ⊎ ((code ≡ MISSING) × HasNoHit m.store (has_second second))

-- The answers for these keys stand at the start of a buffer, and the places behind them are as they were.
pub record FillsAnswers {X : Type 0} (P : X → Row → Type 0) (asked : List X) (was rows : List Row) : Type 0 where
  pub answers : List Row
  pub each : AreAlike P asked answers
  pub filled : rows ≡ answers ++ drop (length asked) was

-- what a look-up of many keys answers for one of them: what the look-up of this key answers, with the row for no entry
-- if it misses
abbrev pub ReportsRow : (ℕ → Row → Type 0) → Row → Type 0
ReportsRow finds row = finds OK row ⊎ (finds MISSING row × (row ≡ no_row))

-- what it answers for a second key
abbrev pub AnswersSecond : Items → ℕ → Row → Type 0
AnswersSecond m second = ReportsRow (λ code row. FindsSecond second code row m)

-- what a look-up of many second keys answers: `SMALL`, if the buffer has fewer places than there are keys
abbrev pub FindsMany : List ℕ → ℕ → List Row → List Row → Items → Type 0
FindsMany seconds code was rows m =
    ((code ≡ OK) × (length seconds ≤ length was) × FillsAnswers (AnswersSecond m) seconds was rows)
    ⊎ ((code ≡ SMALL) × (length was < length seconds) × (rows ≡ was))

-- where keys that end at these offsets begin and end: each begins where the one before ends, and the first at 0
abbrev pub spans : List ℕ → List (ℕ × ℕ)
spans ends = zip (0 ∷ ends) ends

-- whether bytes have a span from a start to an end
abbrev pub HasSpan : List ℕ → ℕ → ℕ → Type 0
HasSpan bytes start end = (start ≤ end) × (end ≤ length bytes)

-- what a look-up of many first keys answers for the one with these bytes
abbrev pub AnswersFirst : Items → List ℕ → Row → Type 0
AnswersFirst m bytes = ReportsRow (λ code row. FindsFirst bytes code row m)

-- what a look-up of many first keys answers for a span of its bytes: for the key there, if the bytes have this span,
-- otherwise as for a missing key
abbrev pub AnswersSpan : Items → List ℕ → ℕ × ℕ → Row → Type 0
AnswersSpan m bytes (start, end) row =
    (HasSpan bytes start end × AnswersFirst m (slice_range bytes start end) row)
    ⊎ ((HasSpan bytes start end → ⊥) × (row ≡ no_row))

-- What a look-up of many first keys answers, whose bytes stand one after the other and end at these offsets: `SMALL`,
-- if the buffer has fewer places than there are keys.
abbrev pub FindsManyFirst : List ℕ → List ℕ → ℕ → List Row → List Row → Items → Type 0
FindsManyFirst bytes ends code was rows m =
    ((code ≡ OK) × (length ends ≤ length was) × FillsAnswers (AnswersSpan m bytes) (spans ends) was rows)
    ⊎ ((code ≡ SMALL) × (length was < length ends) × (rows ≡ was))

-- the bytes of an entry's first key in a buffer, if there is an entry
abbrev pub CopiesKey : Option Entry → ℕ → ℕ → List ℕ → List ℕ → Type 0
CopiesKey (Some entry) code count was buffer = CopiesBytes entry.first.bytes.items code count was buffer
CopiesKey None code count was buffer = code ≡ MISSING

-- what a read of a first key answers
abbrev pub WritesKey : ℕ → ℕ → ℕ → List ℕ → List ℕ → Items → Type 0
WritesKey ix code count was buffer m = CopiesKey (get m.store ix) code count was buffer

-- what the removal of an index answers and leaves
abbrev pub RemovesIndex : ℕ → ℕ → Row → Items → Items → Type 0
RemovesIndex ix code row old new =
    (removed : Option Entry) × SaysRow code row ix removed × RemovesAt old ix removed new

-- What a removal by a first key answers and leaves: the one entry that has it was removed; or no entry has it, and
-- nothing changes.
abbrev pub RemovesFirst : List ℕ → ℕ → Row → Items → Items → Type 0
RemovesFirst bytes code row old new =
    ((code ≡ OK)
    × ((entry : Entry) × ((hit : RemovesHit old (has_first bytes) entry new) × (row ≡ row_of hit.ix entry))))
    ⊎ ((code ≡ MISSING) × HasNoHit old.store (has_first bytes) × (new ≡ old))

-- What a removal by a second key answers and leaves: the entry with the least index among those that have it was
-- removed; or no entry has it, and nothing changes.
abbrev pub RemovesSecond : ℕ → ℕ → Row → Items → Items → Type 0
RemovesSecond second code row old new =
    ((code ≡ OK)
    × ((ix : ℕ) × ((entry : Entry) × IsLeast old.store (has_second second) ix entry × (row ≡ row_of ix entry)
    × RemovesAt old ix (Some entry) new)))
    ⊎ ((code ≡ MISSING) × HasNoHit old.store (has_second second) × (new ≡ old))

-- What a change of the value at an index answers and leaves: the entry there has the same keys and this value, all
-- others stay, and so does the memory. If the index isn't live, nothing changes.
abbrev pub SetsValue : ℕ → ℕ → ℕ → Items → Items → Type 0
SetsValue ix value code old new =
    ((code ≡ OK) × (new.memory ≡ old.memory)
    × ((was : Entry) × (get old.store ix ≡ Some was) × (new.store ≡ rebound old.store ix (with_value was value))))
    ⊎ ((code ≡ MISSING) × (get old.store ix ≡ None) × (new ≡ old))

-- what a count of a group answers
abbrev pub CountsGroup : ℕ → ℕ → ℕ → Items → Type 0
CountsGroup second code count m = (code ≡ OK) × CountsHits m.store (has_second second) count

-- What the removal of a group answers and leaves: the entries with this second key are gone, and all others stay under
-- their indexes; how many are gone; the memory stays.
pub record RemovesGroup (second code count : ℕ) (old new : Items) : Type 0 where
  pub done : code ≡ OK
  pub left : LeavesOthers old.store (has_second second) new.store
  pub counted : count + live_count new.store ≡ live_count old.store
  pub memory : new.memory ≡ old.memory

-- what a clear answers and leaves
abbrev pub Clears : ℕ → Items → Items → Type 0
Clears code old new = (code ≡ OK) × (new.store ≡ cleared old.store) × (new.memory ≡ old.memory)

-- whether memory ran out, as a code
abbrev pub SaysDone : {A E : Type 0} → ℕ → Result A E → Type 0
SaysDone code (Ok done) = code ≡ OK
SaysDone code (Err refused) = code ≡ MEMORY

-- what a reserve answers and leaves, for tables that have at most so many cells for a number of indexes
abbrev pub ReservesCells : (ℕ → ℕ) → ℕ → ℕ → Items → Items → Type 0
ReservesCells most additional code old new =
    (result : Result (Unit {0}) AllocError) × SaysDone code result × ReservesItems most additional old result new

-- what a reserve answers and leaves: what the map promises of its two tables
abbrev pub Reserves : ℕ → ℕ → Items → Items → Type 0
Reserves = ReservesCells (λ count. most_cells count + most_ordered count)

-- what an insert leaves of the memory: what the map may take for one more item
abbrev pub TakesMemory : Items → Items → Type 0
TakesMemory old new = MakesRoom most_cells old new.memory

-- What the key index of second keys reports of an entry, if it reports anything, has this index: that of the entry that
-- stands in the way.
abbrev pub SaysSecond :
    {C : Type 0} → (Entry → Entry → Bool) → (Store Entry → Entry → C → Type 0) → Taken → Option C → Option ℕ → Type 0
SaysSecond alike conflicts taken at other =
    (s : Store Entry) (entry : Entry) → Reports alike conflicts s entry at → AnswersScan s (taken entry.second) other

-- The code says why the map refused an entry, and of a duplicate the conflict says which indexes it reports.
abbrev pub SaysRefusal :
    {C : Type 0} → (Entry → Entry → Bool) → (Store Entry → Entry → C → Type 0) → Taken → ℕ → Conflict
    → InsertRefusal Entry (PairConflict ℕ C) → Type 0
SaysRefusal alike conflicts taken code conflict (Duplicate entry at) =
    (code ≡ DUPLICATE) × (conflict.first ≡ number_of (first_of at))
    × ((other : Option ℕ) × (conflict.second ≡ number_of other) × (IsSome (second_of at) → IsSome other)
    × SaysSecond alike conflicts taken (second_of at) other)
SaysRefusal alike conflicts taken code conflict (Full entry) = code ≡ FULL
SaysRefusal alike conflicts taken code conflict (Memory entry) = code ≡ MEMORY

-- `taken second` says which entries stand in the way of another one with this second key
module _ (taken : Taken) where
  -- What a check answers: no two entries share a key that they mustn't share; or memory ran out. No other code is left.
  abbrev pub SaysSound : ℕ → Items → Type 0
  SaysSound code m =
      ((code ≡ OK) × AreApart (λ x. has_first x.first.bytes.items) m.store × AreApart (λ x. taken x.second) m.store)
      ⊎ (code ≡ MEMORY)

  module _ (bytes : List ℕ) (second : ℕ) where
    -- no entry has the first key, and none stands in the way of the second
    abbrev pub AreNew : Items → Type 0
    AreNew m = HasNoHit m.store (has_first bytes) × HasNoHit m.store (taken second)

    -- an entry has the first key, or one stands in the way of the second, and the conflict says which
    pub record ReportsConflict (conflict : Conflict) (m : Items) : Type 0 where
      pub first : Option ℕ
      pub other : Option ℕ
      pub first_number : conflict.first ≡ number_of first
      pub other_number : conflict.second ≡ number_of other
      pub some : IsSome first ⊎ IsSome other
      pub by_first : AnswersScan m.store (has_first bytes) first
      pub by_second : AnswersScan m.store (taken second) other

    -- why an entry with these keys can't be inserted for whose first key there is no memory
    abbrev pub RefusesAt : ℕ → Conflict → Items → Type 0
    RefusesAt code conflict m =
        ((code ≡ DUPLICATE) × ReportsConflict conflict m)
        ⊎ ((code ≡ FULL) × AreNew m × IsFull m.store)
        ⊎ ((code ≡ MEMORY) × AreNew m × (IsFull m.store → ⊥))

    module _ (value : ℕ) where
      -- An entry with these keys and this value was stored at the next index, and none stood in its way.
      pub record StoresEntry (at : ℕ) (old new : Items) : Type 0 where
        pub entry : Entry
        pub is_entry : IsEntry bytes second value entry
        pub new_keys : AreNew old
        pub not_full : IsFull old.store → ⊥
        pub index : at ≡ next_index old.store
        pub stored : new.store ≡ inserted old.store entry
        pub live : get new.store at ≡ Some entry

      -- What an insert answers and leaves, by its code. A duplicate is reported before a full table, and both even
      -- where there is no memory.
      abbrev pub InsertsAt : ℕ → ℕ → Conflict → Items → Items → Type 0
      InsertsAt code at conflict old new =
          ((code ≡ OK) × StoresEntry at old new)
          ⊎ ((code ≡ DUPLICATE) × ReportsConflict conflict old × (new ≡ old))
          ⊎ ((code ≡ FULL) × AreNew old × IsFull old.store × (new ≡ old))
          ⊎ ((code ≡ MEMORY) × AreNew old × (IsFull old.store → ⊥) × (new.store ≡ old.store))
