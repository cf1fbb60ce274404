-- What is read of a table that has its pairs in a list.
use Rattle.std.proofs.Common.{arith, ◌≡◌, ◌∙◌, ◌+◌, ◌-◌, ◌*◌, ◌<◌, ◌≤◌, ℕ, List, [], ◌∷◌, ◌++◌, Option, Some, None, IsSome, map, length, max, slice_get, Result, Ok, Err, OnOk, OnErr, refl, ap, false, true}
use Rattle.std.specs.List.{filter_map}
use Rattle.std.specs.Option.{option_flatten, option_map}
use Rattle.std.specs.Result.{IsErr}
use Rattle.std.proofs.lemmas.Option.{slice_get-map, slice_get_within}
use Rattle.iddqd_hash.specs.HashTable.{Table, listed, entries, pair_at, room, memory, HasNoMemory, KeepsMemory, UsesRoom}
use Rattle.iddqd_hash.specs.Sizes.{most_cells, Reserves}

some_within :
    {X : Type 0} (xs : List X) (place : ℕ) (o : Option X)
    → slice_get xs place ≡ o
    → IsSome o
    → place < length xs
some_within xs place None is here = absurd (let never : false ≡ true = here in cc)
some_within xs place (Some x) is here = slice_get_within xs place x is

-- what is pushed stands at the length
pub slice_get_pushed :
    {X : Type 0} (xs : List X) (x : X) (place : ℕ)
    → place ≡ length xs
    → slice_get (xs ++ x ∷ []) place ≡ Some x
slice_get_pushed xs x place is = rw is (at_end xs)
  where
    at_end : (xs : List _) → slice_get (xs ++ x ∷ []) (length xs) ≡ Some x
    at_end [] = refl
    at_end (y ∷ xs) = at_end xs

module _ {T : Type 0} where
  all_stand : (es : List (ℕ × T)) → filter_map (λ pair. pair) (map Some es) ≡ es
  all_stand [] = refl
  all_stand (e ∷ es) = ap (λ xs. e ∷ xs) (all_stand es)

  one_layer : (o : Option (ℕ × T)) → option_flatten (option_map Some o) ≡ o
  one_layer None = refl
  one_layer (Some e) = refl

  module _ (es : List (ℕ × T)) (spare held : ℕ) where
    pub entries-listed : entries (listed es spare held) ≡ es
    unfolding entries listed
    entries-listed = all_stand es

    pub pair_at-listed : pair_at (listed es spare held) ≡ slice_get es
    unfolding pair_at listed
    pair_at-listed = λ i place. (ap option_flatten (slice_get-map Some es place) ∙ one_layer (slice_get es place)) i

    pub room-listed : room (listed es spare held) ≡ spare
    unfolding room listed
    room-listed = refl

    pub memory-listed : memory (listed es spare held) ≡ held
    unfolding memory listed
    memory-listed = refl

    -- a cell in which a pair stands is a place in the list
    pub within_listed : (place : ℕ) → IsSome (pair_at (listed es spare held) place) → place < length es
    within_listed place here =
        let there : IsSome (slice_get es place) = rw pair_at-listed at here in
        some_within es place (slice_get es place) refl there

  pub HasNoMemory-listed :
      (es : List (ℕ × T)) (spare held : ℕ)
      → spare ≡ 0
      → held ≡ 0
      → HasNoMemory (listed es spare held)
  HasNoMemory-listed es spare held no_room no_cell =
      record { no_room = room-listed es spare held ∙ no_room; no_cell = memory-listed es spare held ∙ no_cell }

  module _
      (xs ys : List (ℕ × T)) (before held after holds : ℕ) (same : holds ≡ held)
      (kept : length ys + after ≡ length xs + before)
    where
      pub KeepsMemory-listed : before ≤ after → KeepsMemory (listed xs before held) (listed ys after holds)
      KeepsMemory-listed stays =
          record {
            room_stays = rw (room-listed xs, room-listed ys) stays;
            same_capacity = rw (entries-listed xs, entries-listed ys, room-listed xs, room-listed ys) kept;
            same_memory = rw (memory-listed xs, memory-listed ys) same;
          }

      pub UsesRoom-listed : before ≡ after + 1 → UsesRoom (listed xs before held) (listed ys after holds)
      UsesRoom-listed less =
          record {
            one_less = rw (room-listed xs, room-listed ys) less;
            same_capacity = rw (entries-listed xs, entries-listed ys, room-listed xs, room-listed ys) kept;
            same_memory = rw (memory-listed xs, memory-listed ys) same;
          }

  pub Reserves-unneeded :
      {A E : Type 0} (additional : ℕ) (t : Table T) (x : A)
      → additional ≤ room t
      → Reserves {A = A} {E = E} additional t (Ok x) t
  Reserves-unneeded additional t x here =
      record {
        reserved = here;
        refused = tt;
        had_room = λ _. (refl, refl);
        room_stays = omega arith;
        memory_stays = omega arith;
        few = omega arith;
      }

  pub Reserves-denied :
      {A E : Type 0} (additional : ℕ) (t : Table T) (r : Result A E)
      → IsErr r
      → room t < additional
      → Reserves additional t r t
  Reserves-denied additional t (Ok x) failed short = absurd (let never : false ≡ true = failed in cc)
  Reserves-denied additional t (Err e) failed short =
      record {
        reserved = tt;
        refused = refl;
        had_room = λ had. absurd (omega arith);
        room_stays = omega arith;
        memory_stays = omega arith;
        few = omega arith;
      }

  -- a vector that had less room than was asked for, and was asked to hold at least twice as many pairs
  module _
      (es : List (ℕ × T)) (additional len now held wanted holds : ℕ) (counted : len ≡ length es)
      (short : held - len < additional) (full : len ≤ held) (same : now ≡ len) (enough : len + additional ≤ wanted)
      (few : wanted ≤ max (len + additional) (held * 2)) (more : held ≤ holds)
    where
      pub Reserves-listed :
          {A E : Type 0} (r : Result A E)
          → OnOk r (holds ≡ max held wanted)
          → OnErr r (holds ≡ held)
          → Reserves additional (listed es (held - len) held) r (listed es (holds - now) holds)
      Reserves-listed r reserved refused =
          record {
            reserved = rw room-listed (roomy r reserved);
            refused = stays r refused;
            had_room = λ had. absurd (let room : additional ≤ held - len = rw room-listed at had in omega arith);
            room_stays = rw (room-listed es _ held, room-listed es _ holds) (omega arith);
            memory_stays = rw (memory-listed es _ held, memory-listed es _ holds) more;
            few =
                rw (entries-listed es _ held, memory-listed es _ held, memory-listed es _ holds) (at_most r reserved refused);
          }
        where
          roomy : {A E : Type 0} (r : Result A E) → OnOk r (holds ≡ max held wanted) → OnOk r (additional ≤ holds - now)
          roomy (Ok x) is = omega arith
          roomy (Err e) is = tt

          stays :
              {A E : Type 0} (r : Result A E)
              → OnErr r (holds ≡ held)
              → OnErr r (listed es (holds - now) holds ≡ listed es (held - len) held)
          stays (Ok x) is = tt
          stays (Err e) is = λ i. listed es (is i - same i) (is i)

          at_most :
              {A E : Type 0} (r : Result A E)
              → OnOk r (holds ≡ max held wanted)
              → OnErr r (holds ≡ held)
              → holds ≤ max held (most_cells (length es + additional))
          at_most (Ok x) is refused = omega arith
          at_most (Err e) is refused = omega arith
