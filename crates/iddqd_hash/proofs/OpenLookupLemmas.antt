-- How a look-up goes by what isn't under its hash, reads a cell beside its tag, and asks of each value under the hash.
use Rattle.std.proofs.Common.{◌≡◌, ◌≢◌, ◌∙◌, ℕ, Bool, ◌+◌, ◌%◌, ◌<◌, List, ◌++◌, Option, Some, None, true, false, length, take, drop, get_or, slice_index, refl, sym, ap, subst, arith, add-zero}
use Rattle.std.proofs.Math.Nat.{mod-eq_of_lt, mod-lt}
use Rattle.std.specs.List.Sorted.{IsPermutation}
use Rattle.std.proofs.lemmas.List.{append-nil, take-append-drop}
use Rattle.std.proofs.lemmas.Fn.{FoldsTo-push}
use borrow.Author.Count.{below_more}
use Rattle.iddqd_hash.specs.Asks.{AllRefused, HitsPair, Misses}
use Rattle.iddqd_hash.specs.HashTable.{under}
use Rattle.std.proofs.lemmas.Option.{same_Some}
use Rattle.iddqd_hash.specs.OpenTable.{tag_of, slot_at, pairs, Suits, HasEmpty, IsReached, IsProbed, PassesBy, FindsNext}
use Rattle.iddqd_hash.specs.OpenWalkUnder.{from_home}
use Rattle.iddqd_hash.proofs.OpenWalkLemmas.{onward, steps_within, IsReached-next, IsReached-on}
use Rattle.iddqd_hash.proofs.OpenRoundLemmas.{met, met-append, met_same, met_more, met_at, met_home, met-skipped, met-ended, inside, read_here, used, others_on}

-- a walk that passes by what isn't under the hash
module _ {T : Type 0} (tags : List ℕ) (slots : List (Option (ℕ × T))) (hash from : ℕ) where
  pub PassesBy-start : from < length tags → PassesBy tags slots hash from from
  PassesBy-start inside =
      record {
        walk = record { steps = 0; is_there = ap (λ x. x % length tags) (add-zero from) ∙ mod-eq_of_lt inside; passed = λ k below. absurd (omega arith) };
        others = λ k value below. absurd (omega arith);
      }

  pub PassesBy-next :
      (at : ℕ)
      → PassesBy tags slots hash from at
      → 0 < slice_index tags at
      → ((value : T) → slot_at slots at ≢ Some (hash, value))
      → PassesBy tags slots hash from ((at + 1) % length tags)
  PassesBy-next at by used other =
      record {
        walk = record {
          steps = by.walk.steps + 1;
          is_there = sym (onward (length tags) from by.walk.steps 1) ∙ ap (λ x. (x + 1) % length tags) by.walk.is_there;
          passed =
              below_more (λ k. 0 < slice_index tags ((from + k) % length tags)) by.walk.steps by.walk.passed (subst (λ x. 0 < slice_index tags x) (sym by.walk.is_there) used);
        };
        others = λ k value below. below_more (λ k. (value : T) → slot_at slots ((from + k) % length tags) ≢ Some (hash, value)) by.walk.steps (λ k less value. by.others k value less) (subst (λ x. (value : T) → slot_at slots x ≢ Some (hash, value)) (sym by.walk.is_there) other) k below value;
      }

  pub PassesBy-inside : (at : ℕ) → 0 < length tags → PassesBy tags slots hash from at → at < length tags
  PassesBy-inside at some by = subst (λ x. x < length tags) by.walk.is_there (mod-lt (from + by.walk.steps) some)

-- a walk that comes to no pair comes to an empty cell
pub FindsNext-none :
    {T : Type 0} (tags : List ℕ) (slots : List (Option (ℕ × T))) (hash from : ℕ) (r : Option ℕ)
    → ((place : ℕ) → r ≡ Some place → ⊥)
    → FindsNext tags slots hash from r
    → FindsNext tags slots hash from None
FindsNext-none tags slots hash from None none finds = finds
FindsNext-none tags slots hash from (Some place) none finds = absurd (none place refl)

-- a pair that is read at a place
module _
    {T : Type 0} (slots : List (Option (ℕ × T))) (at stored : ℕ) (held : T)
    (read : slot_at slots at ≡ Some (stored, held))
  where
    -- under the hash that is looked for
    pub full_read : (hash : ℕ) → stored ≡ hash → (value : T) × (slot_at slots at ≡ Some (hash, value))
    full_read hash same = (held, read ∙ ap (λ n. Some (n, held)) same)

    pub hash_read : (hash : ℕ) (value : T) → slot_at slots at ≡ Some (hash, value) → stored ≡ hash
    hash_read hash value is = ap (λ (p : ℕ × T). p.0) (same_Some _ _ (sym read ∙ is))

    -- the value that is read at the place of a hit
    pub value_read :
        (hash : ℕ) (found : T)
        → slot_at slots at ≡ Some (hash, found)
        → slot_at slots at ≡ Some (hash, held)
    value_read hash found is = read ∙ ap (λ n. Some (n, held)) (hash_read hash found is)

-- the tag of a cell with a pair is that of the pair's hash
pub tag_read :
    {T : Type 0} (tags : List ℕ) (slots : List (Option (ℕ × T))) (at hash : ℕ) (value : T)
    → at < length tags
    → IsProbed tags slots
    → slot_at slots at ≡ Some (hash, value)
    → slice_index tags at ≡ tag_of hash
tag_read tags slots at hash value inside probed is =
    subst (λ o. Suits (slice_index tags at) o) is (probed.suited at inside)

-- A walk from the home of a hash that asked of each value under it that it came to.
module _
    {F T : Type 0} (ask : F → T → Bool → F → Type 0) (f : F) (tags : List ℕ) (slots : List (Option (ℕ × T))) (hash : ℕ)
  where
    -- the walk has come to a place, and each value under the hash before it was refused
    pub record Looking (at : ℕ) (last : F) : Type 0 where
      pub walk : IsReached tags hash at
      pub were_refused : AllRefused ask f (under hash (pairs (take walk.steps (from_home hash slots)))) last

    pub Looking-start : Looking (hash % length tags) f
    Looking-start =
        record {
          walk = record { steps = 0; is_there = ap (λ x. x % length tags) (add-zero hash); passed = λ k below. absurd (omega arith) };
          were_refused = refl;
        }

    module _ (probed : IsProbed tags slots) (some : HasEmpty tags) where
      pub Looking-passed :
          (at place : ℕ) (last : F)
          → Looking at last
          → PassesBy tags slots hash at place
          → Looking place last
      Looking-passed at place last looking by =
          let walk : IsReached tags hash place = IsReached-on tags hash at place looking.walk by.walk in
          let below : looking.walk.steps + by.walk.steps < length tags =
          steps_within tags hash walk.steps some walk.passed in
          let within : looking.walk.steps + by.walk.steps < length (from_home hash slots) =
          inside tags slots hash probed some place walk in
          record {
            walk = walk;
            were_refused =
                subst (λ xs. AllRefused ask f xs last)
                (sym (met-skipped hash (from_home hash slots) looking.walk.steps by.walk.steps (omega arith) (λ k value less. others_on tags slots hash probed some at place looking.walk by k value below less)))
                looking.were_refused;
          }

      module _ (place : ℕ) (before : F) (looking : Looking place before) where
        inside_here : looking.walk.steps < length (from_home hash slots)
        inside_here = inside tags slots hash probed some place looking.walk

        module _ (value : T) (last : F) (is : slot_at slots place ≡ Some (hash, value)) where
          read : get_or (from_home hash slots) looking.walk.steps None ≡ Some (hash, value)
          read = read_here tags slots hash probed some place looking.walk value is

          pub HitsPair-looked :
              ask before value true last
              → HitsPair ask f hash (under hash (pairs slots)) (slot_at slots place)
          HitsPair-looked accepted =
              record {
                value = value;
                is_pair = is;
                hit = record {
                  refused = under hash (pairs (take looking.walk.steps (from_home hash slots)));
                  unasked = under hash (pairs (drop (looking.walk.steps + 1) (from_home hash slots)));
                  each_once =
                      subst (λ xs. IsPermutation (under hash (pairs slots)) xs) (met_at hash (from_home hash slots) looking.walk.steps inside_here value read) (met_home hash slots);
                  before = before;
                  were_refused = looking.were_refused;
                  last = last;
                  accepted = accepted;
                };
              }

          pub Looking-next : ask before value false last → Looking ((place + 1) % length tags) last
          Looking-next refused =
              record {
                walk =
                    IsReached-next tags hash place looking.walk (used tags slots hash probed some place looking.walk value is);
                were_refused =
                    rw (met_more hash (from_home hash slots) looking.walk.steps inside_here, met_same hash _ value read)
                    (FoldsTo-push _ f _ before value last looking.were_refused refused);
              }

        pub Misses-looked : slice_index tags place ≡ 0 → Misses ask f (under hash (pairs slots))
        Misses-looked empty =
            let whole : met hash (from_home hash slots) ≡ met hash (take looking.walk.steps (from_home hash slots)) =
            ap (met hash) (sym (take-append-drop looking.walk.steps (from_home hash slots)))
            ∙ met-append hash (take looking.walk.steps (from_home hash slots)) (drop looking.walk.steps (from_home hash slots))
            ∙ ap (λ xs. met hash (take looking.walk.steps (from_home hash slots)) ++ xs) (met-ended tags slots hash probed some place looking.walk empty)
            ∙ append-nil _ in
            record {
              asked = under hash (pairs (take looking.walk.steps (from_home hash slots)));
              each_once = subst (λ xs. IsPermutation (under hash (pairs slots)) xs) whole (met_home hash slots);
              last = before;
              were_refused = looking.were_refused;
            }
