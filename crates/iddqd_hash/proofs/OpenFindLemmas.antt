-- The steps of the loop that tries the pairs under a hash, one place after the other.
use Rattle.std.proofs.Common.{◌≡◌, ℕ, Bool, ◌+◌, ◌%◌, ◌<◌, ◌≤◌, List, Option, Some, true, false, length, slice_index, arith, Contains}
use Rattle.std.proofs.Math.Nat.{lt_of_le_of_lt, mod-lt}
use Rattle.iddqd_hash.specs.Asks.{CanAsk, HitsPair, Misses}
use Rattle.iddqd_hash.specs.HashTable.{under}
use Rattle.iddqd_hash.specs.OpenTable.{slot_at, pairs, HasEmpty, IsProbed, FindsNext}
use Rattle.iddqd_hash.proofs.AskLemmas.{CanAsk-takes, CanAsk-asked}
use Rattle.iddqd_hash.proofs.OpenWalkLemmas.{places_left, places_left-next, places_left-on, found_left, found_left-next}
use Rattle.iddqd_hash.proofs.OpenLookupLemmas.{Looking, Looking-start, Looking-passed, Looking-next, HitsPair-looked, Misses-looked, PassesBy-inside, FindsNext-none, tag_read, value_read}
use Rattle.iddqd_hash.proofs.OpenRoundLemmas.{used, Contains-met}

module _
    {F T : Type 0} (takes : F → T → Type 0) (ask : F → T → Bool → F → Type 0) (f : F) (tags : List ℕ)
    (slots : List (Option (ℕ × T))) (hash : ℕ)
  where
    -- what is known before the place `found` is tried: each pair before it was refused
    pub record Trying (found : Option ℕ) (now : F) : Type 0 where
      pub can : CanAsk takes ask now (under hash (pairs slots))
      pub at : ℕ
      pub looking : Looking ask f tags slots hash at now
      pub finds : FindsNext tags slots hash at found

    module _ (probed : IsProbed tags slots) (some : HasEmpty tags) where
      any : 0 < length tags
      any = let k = some.0 in let below : k < length tags = some.1 in omega arith

      pub home_inside : (home : ℕ) → home ≡ hash % length tags → home < length tags
      home_inside home is = rw is (mod-lt hash any)

      pub Trying-start :
          (home : ℕ) (found : Option ℕ)
          → home ≡ hash % length tags
          → CanAsk takes ask f (under hash (pairs slots))
          → FindsNext tags slots hash home found
          → Trying found f
      Trying-start home found is can finds =
          record { can = can; at = _; looking = Looking-start ask f tags slots hash; finds = rw is at finds }

      pub Trying-missed :
          (found : Option ℕ) (now : F)
          → Trying found now
          → ((place : ℕ) → found ≡ Some place → ⊥)
          → Misses ask f (under hash (pairs slots))
      Trying-missed found now state none =
          let ended = FindsNext-none _ _ _ _ _ none state.finds in
          Misses-looked ask f tags slots hash probed some _ _ (Looking-passed ask f tags slots hash probed some _ _ _ state.looking ended.1) ended.2

      module _ (found : Option ℕ) (place : ℕ) (now : F) (state : Trying found now) (is : found ≡ Some place) where
        finds : FindsNext tags slots hash state.at (Some place)
        finds = rw is at state.finds

        pub Trying-inside : place < length tags
        Trying-inside = PassesBy-inside tags slots hash _ place any finds.0

        pub Trying-full : 128 ≤ slice_index tags place
        Trying-full = omega (arith, tag_read tags slots place hash finds.1.0 Trying-inside probed finds.1.1)

        looking : Looking ask f tags slots hash place now
        looking = Looking-passed ask f tags slots hash probed some _ place now state.looking finds.0

        module _ (stored : ℕ) (held : T) (read : slot_at slots place ≡ Some (stored, held)) where
          pub Trying-value : slot_at slots place ≡ Some (hash, held)
          Trying-value = value_read slots place stored held read hash finds.1.0 finds.1.1

          here : Contains (under hash (pairs slots)) held
          here = let inside = Trying-inside in Contains-met hash slots place held (omega (arith, probed.same_length)) Trying-value

          pub Trying-takes : takes now held
          Trying-takes = CanAsk-takes takes ask _ _ held state.can here

          pub Trying-hit :
              (last : F)
              → ask now held true last
              → HitsPair ask f hash (under hash (pairs slots)) (slot_at slots place)
          Trying-hit last = HitsPair-looked ask f tags slots hash probed some place now looking held last Trying-value

          module _ (last : F) (refused : ask now held false last) (next : ℕ) (after : next ≡ (place + 1) % length tags)
              (later : Option ℕ) (further : FindsNext tags slots hash next later)
            where
              onward : Looking ask f tags slots hash ((place + 1) % length tags) last
              onward = Looking-next ask f tags slots hash probed some place now looking held last Trying-value refused

              pub Trying-next : Trying later last
              Trying-next =
                  record { can = CanAsk-asked takes ask _ _ held false last state.can here refused; at = _; looking = onward; finds = rw after at further }

              pub Trying-smaller : found_left (length tags) hash later < found_left (length tags) hash found
              Trying-smaller =
                  rw is
                  (found_left-next (length tags) hash place later
                  (λ at found_at.
                  let n = length tags in
                  let beyond : FindsNext tags slots hash ((place + 1) % n) (Some at) = rw (found_at, after) at further in
                  let fewer : places_left n hash ((place + 1) % n) < places_left n hash place =
                  places_left-next tags hash place some looking.walk (used tags slots hash probed some place looking.walk held Trying-value) in
                  lt_of_le_of_lt (places_left-on tags hash ((place + 1) % n) at onward.walk beyond.0.walk some) fewer))
