-- What a walk over the values under a hash has still to come to.
use Rattle.std.proofs.Common.{◌≡◌, ◌∙◌, ℕ, None, ◌+◌, ◌%◌, ◌<◌, List, [], ◌∷◌, Option, Some, length, drop, slice_index, sym, ap, subst, arith}
use Rattle.std.proofs.Math.Nat.{mod-lt}
use Rattle.std.specs.List.Sorted.{IsPermutation}
use Rattle.std.proofs.lemmas.List.{nil_from_length}
use Rattle.std.proofs.lemmas.List.Sorted.{IsPermutation-refl, length_permutation}
use Rattle.std.proofs.lemmas.Option.{same_Some}
use Rattle.iddqd_hash.specs.HashTable.{under}
use Rattle.iddqd_hash.specs.OpenTable.{slot_at, pairs, HasEmpty, IsPowerOfTwo, IsReached, IsProbed, IsSound, PassesBy}
use Rattle.iddqd_hash.specs.OpenWalkUnder.{from_home, steps_to, rest_under, GoesOn, IsWalkUnder}
use Rattle.iddqd_hash.proofs.UnderLemmas.{under_few}
use Rattle.iddqd_hash.proofs.OpenTableLemmas.{empty_from, power_from}
use Rattle.iddqd_hash.proofs.OpenWalkLemmas.{steps_to-walked, IsReached-start, IsReached-next, IsReached-on}
use Rattle.iddqd_hash.proofs.OpenRoundLemmas.{met, met_home, met-dropped, met_from, met-ended, within, inside, read_here, used, others_on}

pub GoesOn-inside : (tags : List ℕ) (hash place : ℕ) → GoesOn tags hash place → place < length tags
GoesOn-inside tags hash place on =
    subst (λ x. x < length tags) on.reached.is_there (mod-lt (hash + on.reached.steps) (omega (arith, on.ends.1)))

module _ {T : Type 0} (tags : List ℕ) (slots : List (Option (ℕ × T))) (hash : ℕ) (probed : IsProbed tags slots) where
  rest_at :
      (place : ℕ)
      → HasEmpty tags
      → (walk : IsReached tags hash place)
      → rest_under hash slots (Some place) ≡ met hash (drop walk.steps (from_home hash slots))
  rest_at place some walk =
      let n : ℕ = length tags in
      let below : walk.steps < n = within tags slots hash probed some place walk in
      let here : steps_to n hash place ≡ walk.steps =
      subst (λ x. steps_to n hash x ≡ walk.steps) walk.is_there (steps_to-walked n hash walk.steps below) in
      ap (λ k. met hash (drop k (from_home hash slots))) (ap (λ n. steps_to n hash place) probed.same_length ∙ here)

  pub rest-start :
      HasEmpty tags
      → IsPermutation (under hash (pairs slots)) (rest_under hash slots (Some (hash % length tags)))
  rest-start some =
      subst (λ xs. IsPermutation (under hash (pairs slots)) xs) (sym (rest_at (hash % length tags) some (IsReached-start tags hash))) (met_home hash slots)

  -- a walk that goes on at a place, and passes by what isn't under the hash
  module _ (from place : ℕ) (on : GoesOn tags hash from) (by : PassesBy tags slots hash from place) where
    abbrev there : IsReached tags hash place
    there = IsReached-on tags hash from place on.reached by.walk

    pub place_inside : place < length tags
    place_inside =
        subst (λ x. x < length tags) there.is_there (mod-lt (hash + there.steps) (omega (arith, GoesOn-inside tags hash from on)))

    rest-passed :
        rest_under hash slots (Some from) ≡ met hash (drop (on.reached.steps + by.walk.steps) (from_home hash slots))
    rest-passed =
        let below : on.reached.steps + by.walk.steps < length tags =
        within tags slots hash probed on.ends place there in
        let before : on.reached.steps + by.walk.steps < length (from_home hash slots) =
        inside tags slots hash probed on.ends place there in
        rest_at from on.ends on.reached
        ∙ met-dropped hash (from_home hash slots) on.reached.steps by.walk.steps (omega arith) (λ k value less. others_on tags slots hash probed on.ends from place on.reached by k value below less)

    pub rest-none : slice_index tags place ≡ 0 → rest_under hash slots (Some from) ≡ []
    rest-none empty = rest-passed ∙ met-ended tags slots hash probed on.ends place there empty

    module _ (value : T) (is : slot_at slots place ≡ Some (hash, value)) where
      abbrev further : IsReached tags hash ((place + 1) % length tags)
      further = IsReached-next tags hash place there (used tags slots hash probed on.ends place there value is)

      pub rest-found :
          rest_under hash slots (Some from) ≡ value ∷ rest_under hash slots (Some ((place + 1) % length tags))
      rest-found =
          rest-passed
          ∙ met_from hash (from_home hash slots) (on.reached.steps + by.walk.steps) value (inside tags slots hash probed on.ends place there) (read_here tags slots hash probed on.ends place there value is)
          ∙ ap (λ xs. value ∷ xs) (sym (rest_at ((place + 1) % length tags) on.ends further))

      pub GoesOn-next : GoesOn tags hash ((place + 1) % length tags)
      GoesOn-next = record { power = on.power; ends = on.ends; reached = further }

-- a walk that begins at a place, or has ended at once: it comes to all values under the hash
pub record Begins {T : Type 0} (tags : List ℕ) (slots : List (Option (ℕ × T))) (hash : ℕ) (from : Option ℕ) (most : ℕ)
    : Type 0 where
  pub walk : IsWalkUnder tags slots hash from most
  pub all : IsPermutation (under hash (pairs slots)) (rest_under hash slots from)

module _
    {T : Type 0} (tags : List ℕ) (slots : List (Option (ℕ × T))) (len used hash : ℕ)
    (sound : IsSound tags slots len used)
  where
    pub Begins-ended : length tags ≡ 0 → Begins tags slots hash None len
    Begins-ended none =
        record {
          walk = record { probed = sound.probed; goes_on = λ place is. absurd (cc); counted = omega arith };
          all = rw (nil_from_length slots (sound.probed.same_length ∙ none)) (IsPermutation-refl []);
        }

    pub Begins-home : 0 < length tags → Begins tags slots hash (Some (hash % length tags)) len
    Begins-home some =
        let ends : HasEmpty tags = empty_from tags slots len used sound some in
        let power : IsPowerOfTwo (length tags) = power_from tags slots len used sound some in
        let all : IsPermutation (under hash (pairs slots)) (rest_under hash slots (Some (hash % length tags))) =
        rest-start tags slots hash sound.probed ends in
        record {
          walk = record {
            probed = sound.probed;
            goes_on = λ place is. subst (λ n. GoesOn tags hash n) (same_Some _ _ is) (record { power = power; ends = ends; reached = IsReached-start tags hash });
            counted = omega (arith, length_permutation _ _ all, under_few hash (pairs slots), sound.counted);
          };
          all = all;
        }
