-- What a hash table that indexes a store by one key keeps, and what it plans for an item.
use Rattle.std.proofs.Common.{◌≡◌, ◌≢◌, ◌∙◌, ◌+◌, ◌≤◌, ℕ, Bool, IsTrue, true, false, not, cond, List, [], ◌∷◌, map, length, Option, Some, None, Result, Ok, Err, OnOk, refl, sym, ap, arith}
use Rattle.std.specs.Cmp.{nat_cmp_total}
use Rattle.std.specs.Ordering.{nat_cmp}
use Rattle.std.specs.FinMap as finite
use Rattle.std.specs.FinMap.{FinMap}
use Rattle.std.specs.Option.{IfSome}
use Rattle.std.proofs.lemmas.List.{length-map}
use Rattle.iddqd.specs.Store.{Store, get}
use Rattle.iddqd_hash.specs.HashTable.{Table, entries, room, capacity}
use Rattle.iddqd_hash.specs.MapHashTable.{filed, swapped}
use Rattle.iddqd_hash.proofs.MemberLemmas.{get-insert_at}
use Rattle.iddqd_keys.specs.Scan.{AnswersScan}
use Rattle.iddqd_by_hash.specs.Hashed.{Hashing, IsInPlace, IsLawful, Takes}
use Rattle.iddqd_by_hash.specs.declared.hashed_move.Move.{Move}
use Rattle.iddqd_by_hash.specs.declared.hashed_move.Move.TheVariants.{Stays, To}
use Rattle.iddqd_map.specs.Hashed.{moves}
use Rattle.iddqd_map.specs.Indexing.{Indexes, IsKnownHash, Plans, PlansOrConflicts}
use Rattle.iddqd_map.specs.KeyIndex.{AreKnownAt, PlansMove, TakesFound}
use Rattle.iddqd_map.specs.Map.{shares}
use Rattle.iddqd_map.specs.Several.{HasNoOther}
use Rattle.iddqd_map.proofs.IndexingLemmas.{Indexes-removed}

-- a map has no more keys than the list that it was made from has entries
at_most_listed : (es : List (ℕ × ℕ)) → finite.len (finite.from_entries {R = nat_cmp} es) ≤ length es
at_most_listed [] = rw (finite.len-empty nat_cmp ℕ) (omega arith)
at_most_listed (e ∷ es) =
    let rest = finite.from_entries {R = nat_cmp} es in
    let fewer = at_most_listed es in
    let is = finite.len-insert nat_cmp_total rest e.0 e.1 in
    let more : cond (finite.contains_key rest e.0) (finite.len rest) (finite.len rest + 1) ≤ finite.len rest + 1 = at_most (finite.contains_key rest e.0) (finite.len rest) in
    omega (arith, fewer, is, more)
  where
    at_most : (b : Bool) (n : ℕ) → cond b n (n + 1) ≤ n + 1
    at_most true n = omega arith
    at_most false n = omega arith

-- so the indexes that are filed are no more than the pairs in the cells
pub filed_at_most : (t : Table ℕ) → finite.len (filed t) ≤ length (entries t)
unfolding filed
filed_at_most t =
    let fewer = at_most_listed (map swapped (entries t)) in
    let long = length-map (entries t) swapped in
    omega (arith, fewer, long)

-- where nothing is filed no pair stands in a cell
none_listed : (es : List (ℕ × ℕ)) → finite.from_entries {R = nat_cmp} es ≡ finite.empty → length es ≡ 0
none_listed [] is = refl
none_listed (e ∷ es) is =
    let here : finite.get (finite.from_entries {R = nat_cmp} (e ∷ es)) e.0 ≡ Some e.1 = get-insert_at (finite.from_entries {R = nat_cmp} es) e.0 e.1 in
    let gone : finite.get (finite.from_entries {R = nat_cmp} (e ∷ es)) e.0 ≡ None = ap (λ m. finite.get m e.0) is ∙ finite.get-empty nat_cmp e.0 in
    absurd (cc (here, gone))

pub empty_none : (t : Table ℕ) → filed t ≡ finite.empty → length (entries t) ≡ 0
unfolding filed
empty_none t is =
    let none = none_listed (map swapped (entries t)) is in
    let long = length-map (entries t) swapped in
    omega (arith, none, long)

-- room that was made for more indexes, beside those that there are
pub reserved_beside :
    {A E : Type 0} (r : Result A E) (live additional : ℕ) (old new : Table ℕ)
    → finite.len (filed old) ≡ live
    → filed new ≡ filed old
    → OnOk r (additional ≤ room new)
    → OnOk r (live + additional ≤ capacity new)
reserved_beside (Ok done) live additional old new counted same roomy =
    let long = filed_at_most new in
    let kept = ap finite.len same in
    omega (arith, long, kept, counted, roomy)
reserved_beside (Err error) live additional old new counted same roomy = tt

module _
    {T K : Type 0} (key_of : T → K) (hashing : Hashing K) (lawful : IsLawful hashing) (s : Store T)
    (m : FinMap nat_cmp ℕ) (o : Indexes key_of hashing s m)
  where
    module _ (ix : ℕ) (item : T) where
      -- who shares the key with the item is the one whose place it takes
      no_other :
          (plan : Move)
          → Plans key_of hashing s ix item plan
          → HasNoOther s (shares key_of hashing.equal item) ix
      no_other (To hash) planned j hit = absurd (planned.0 j hit)
      no_other Stays (y, is, same) j (x, there, like) =
          let e = lawful.equivalence in
          o.in_sync.apart j ix x y there is (e.trans (key_of x) (key_of item) (key_of y) (e.symm (key_of x) (key_of item) ∙ like) same)

      -- the index moves exactly where the key doesn't stay
      moves_unlike :
          (plan : Move)
          → Plans key_of hashing s ix item plan
          → (was : T)
          → get s ix ≡ Some was
          → moves plan ≡ not (shares key_of hashing.equal item was)
      moves_unlike Stays (there, is, same) was live =
          let one : there ≡ was = (let e : Some there ≡ Some was = sym is ∙ live in cc) in
          rw (← one, same) refl
      moves_unlike (To hash) planned was live = by_cases (shares key_of hashing.equal item was) refl
        where
          by_cases :
              (b : Bool)
              → shares key_of hashing.equal item was ≡ b
              → true ≡ not (shares key_of hashing.equal item was)
          by_cases true is = absurd (planned.0 ix (was, live, is))
          by_cases false is = rw is refl

      pub PlansMove-planned :
          (r : Result Move ℕ)
          → PlansOrConflicts key_of hashing s ix item r
          → PlansMove (shares key_of hashing.equal item) (shares key_of hashing.equal item)
          (Plans key_of hashing s ix item) moves
          (λ at. (at ≢ ix) × AnswersScan s (shares key_of hashing.equal item) (Some at)) s ix r
      PlansMove-planned (Ok plan) planned = (planned, no_other plan planned, moves_unlike plan planned)
      PlansMove-planned (Err at) taken = taken

-- what taking the index that was found leaves indexes the store without it
pub TakesFound-taken :
    {S T K : Type 0} (key_of : T → K) (hashing : S → Hashing K) (state : S) (s : Store T) (m new : FinMap nat_cmp ℕ)
    → Indexes key_of (hashing state) s m
    → (test : T → Bool) (r : Option ℕ)
    → AnswersScan s test r
    → Takes m r new
    → TakesFound (λ state s. Indexes key_of (hashing state) s new) state s r
TakesFound-taken key_of hashing state s m new o test None scan same = rw same o
TakesFound-taken key_of hashing state s m new o test (Some ix) scan same =
    let (item, live, passed) = (scan ix).1 refl in
    rw same (Indexes-removed key_of (hashing state) s m o ix item live)

-- the hash of a query is that of the item which a scan by the query found
pub hash_found :
    {T K : Type 0} (key_of : T → K) (hashing : Hashing K) (s : Store T) (test : T → Bool) (hash : ℕ)
    → ((x : T) → IsTrue (test x) → hash ≡ hashing.hash_of (key_of x))
    → (found : Option ℕ)
    → AnswersScan s test found
    → IfSome found (λ ix. AreKnownAt (IsKnownHash key_of hashing) s ix (Some hash))
hash_found key_of hashing s test hash hashed None scan = tt
hash_found key_of hashing s test hash hashed (Some ix) scan = λ item live.
    let (x, stands, passed) = (scan ix).1 refl in
    let same : x ≡ item = cc (stands, live) in
    rw (← same) (hashed x passed)

-- what is known of an item by one key is known of it beside what isn't by the others
module _ {T H G : Type 0} (one : T → H → Type 0) (rest : T → G → Type 0) (s : Store T) where
  pub known_first :
      (known : H) (none : G)
      → ((item : T) → rest item none)
      → (found : Option ℕ)
      → IfSome found (λ ix. AreKnownAt one s ix known)
      → IfSome found (λ ix. AreKnownAt (λ item (both : H × G). one item both.0 × rest item both.1) s ix (known, none))
  known_first known none unknown None is = tt
  known_first known none unknown (Some ix) is = λ item live. (is item live, unknown item)

  pub known_rest :
      (none : H) (known : G)
      → ((item : T) → one item none)
      → (found : Option ℕ)
      → IfSome found (λ ix. AreKnownAt rest s ix known)
      → IfSome found (λ ix. AreKnownAt (λ item (both : H × G). one item both.0 × rest item both.1) s ix (none, known))
  known_rest none known unknown None is = tt
  known_rest none known unknown (Some ix) is = λ item live. (unknown item, is item live)

-- a live index of a table that is in place is filed under the hash of its item's key
pub filed_under :
    {T K : Type 0} (key_of : T → K) (hashing : Hashing K) (s : Store T) (m : FinMap nat_cmp ℕ) (ix : ℕ) (item : T)
    (hash : ℕ)
    → IsInPlace key_of hashing s m
    → get s ix ≡ Some item
    → hash ≡ hashing.hash_of (key_of item)
    → finite.get m ix ≡ Some hash
filed_under key_of hashing s m ix item hash placed live is = placed ix item live ∙ ap Some (sym is)
