-- For maps: what asks along the order of a key leave, where the next is found before a refused one is removed.
use Rattle.std.proofs.Common.{◌≡◌, ◌≢◌, ◌∙◌, ◌+◌, ◌<◌, ◌≤◌, ◌&&◌, inl, inr, ℕ, zero, suc, nat_eq, Bool, true, false, not, cond, is_some, length, List, [], ◌∷◌, map, Option, Some, None, refl, sym, ap, subst, Ordering, arith, length-set}
use Rattle.std.specs.Bool.{Decides}
use Rattle.std.specs.Cmp.{IsTotalOrder}
use Rattle.std.specs.List.{Contains, FoldsTo}
use Rattle.std.specs.Set.{is_member}
use Rattle.std.specs.Ordering.{is_gt, ordering_reverse}
use Rattle.std.specs.declared.cmp.Ordering.TheVariants.{Less, Equal, Greater}
use Rattle.std.specs.declared.ops.Bound.TheVariants.{Included}
use Rattle.std.proofs.lemmas.Bool.{cases_eq}
use Rattle.std.proofs.lemmas.Bool.Decides.{Decides-eqb, not_from_Decides}
use Rattle.std.proofs.lemmas.Cmp.{alike_right, tied_itself}
use Rattle.std.proofs.lemmas.Map.Made.{is_member-Decides}
use Rattle.iddqd.specs.Store.{Store, IsValid, get, live_count, removed}
use Rattle.iddqd.proofs.LiveCountLemmas.{live_count-removed}
use Rattle.iddqd.proofs.LiveLemmas.{get-removed_at, get-removed_other}
use Rattle.iddqd.proofs.StoreLemmas.{contains_head, contains_tail, contains_cases, contains_none, live_within}
use Rattle.iddqd_keys.specs.KeyWalk.{by_key_then_index, ComesBefore, IsFirstHit, IsNextHit, pairs_at}
use Rattle.iddqd_keys.specs.OrderedQuery.{is_between, is_equal}
use Rattle.iddqd_keys.specs.Scan.{IsHit}
use Rattle.iddqd_keys.proofs.KeyWalkLemmas.{between_equal, pairs_at-alike, pairs_at-first, totals}
use Rattle.iddqd_keys.proofs.NextLemmas.{SortsFrom, SortsFrom-more, SortsFrom-removed, SortsFrom-none, SortsWithin-from, before_still, both, from_later, next_hits, next_still, not_before_itself}
use Rattle.iddqd_keys.proofs.ScanLemmas.{live_before}
use Rattle.iddqd_map.specs.Ranges.{itself}
use Rattle.iddqd_map.specs.RangeRetain.{AsksFrom, AsksWithin, KeepsMisses, MayAskWithin, RetainsWithin}
use Rattle.iddqd_map.specs.Retain.{removed_of}
use Rattle.iddqd_keys.specs.Removals.{removed_all}

-- how many numbers below a limit pass
abbrev how_many : (ℕ → Bool) → ℕ → ℕ
how_many p zero = 0
how_many p (suc n) = how_many p n + cond (p n) 1 0

at_most : (a b : Bool) → (a ≡ true → b ≡ true) → cond a 1 0 ≤ cond b 1 0
at_most true b up = rw (up refl) (omega arith)
at_most false b up = omega arith

fewer : (p q : ℕ → Bool) (n : ℕ) → ((j : ℕ) → p j ≡ true → q j ≡ true) → how_many p n ≤ how_many q n
fewer p q zero up = omega arith
fewer p q (suc n) up = omega (arith, fewer p q n up, at_most (p n) (q n) (up n))

less :
    (p q : ℕ → Bool) (n x : ℕ)
    → ((j : ℕ) → p j ≡ true → q j ≡ true)
    → x < n
    → p x ≡ false
    → q x ≡ true
    → how_many p n < how_many q n
less p q zero x up within fails passes = absurd (omega arith)
less p q (suc n) x up within fails passes = elim (cases_eq x n) [
  | inl same ↦
      let none : ◌≡◌ {A = ℕ} (cond (p n) 1 0) 0 = ap (λ b. cond b 1 0) (subst (λ k. p k ≡ false) same fails) in
      let one : ◌≡◌ {A = ℕ} (cond (q n) 1 0) 1 = ap (λ b. cond b 1 0) (subst (λ k. q k ≡ true) same passes) in
      omega (arith, fewer p q n up, none, one)
  | inr apart ↦
      let lower : x < n = omega (arith, within, apart) in
      omega (arith, less p q n x up lower fails passes, at_most (p n) (q n) (up n))
]

-- never more than the limit
no_more : (p : ℕ → Bool) (n : ℕ) → how_many p n ≤ n
no_more p zero = omega arith
no_more p (suc n) = omega (arith, no_more p n, at_most (p n) true (λ passes. refl))

module _ {T K : Type 0} (key_of : T → K) (compare : K → K → Ordering) where
  -- the first hits
  pub first_passes :
      (s : Store T) (test : T → Bool) (first : Option ℕ)
      → IsFirstHit key_of compare s test first
      → (n : ℕ)
      → first ≡ Some n
      → IsHit s test n
  first_passes s test first is n same =
      let here : IsFirstHit key_of compare s test (Some n) = subst (IsFirstHit key_of compare s test) same is in
      here.0

  -- the index is live, and it is this one or behind it
  abbrev awaits : Store T → Option ℕ → ℕ → Bool
  awaits s None j = false
  awaits s (Some ix) j = is_some (get s j) && not (is_gt (by_key_then_index key_of compare s ix j))

  -- how many may be asked about still: an upper bound, since not all need be within
  pub to_ask : Store T → Option ℕ → ℕ
  to_ask s next = how_many (awaits s next) (length s.items)

  -- and no more than there are slots
  pub to_ask-most : (s : Store T) (next : Option ℕ) → to_ask s next ≤ length s.items
  unfolding to_ask
  to_ask-most s next = no_more (awaits s next) (length s.items)

  module _ (total : IsTotalOrder compare) (s : Store T) (test : T → Bool) (ix : ℕ) (next : Option ℕ)
      (is : IsNextHit key_of compare s test ix next) (item : T) (live : get s ix ≡ Some item) where
    behind_both :
        (n j : ℕ)
        → by_key_then_index key_of compare s ix n ≡ Less
        → not (is_gt (by_key_then_index key_of compare s n j)) ≡ true
        → by_key_then_index key_of compare s ix j ≡ Less
    behind_both n j first then =
        let o = totals key_of compare total s in
        elim (by_key_then_index key_of compare s n j) as (λ r. by_key_then_index key_of compare s n j ≡ r → not (is_gt r) ≡ true → by_key_then_index key_of compare s ix j ≡ Less) [
          | Less ↦ λ at _. o.trans ix n j first at
          | Equal ↦ λ at _. sym (alike_right o n j ix at) ∙ first
          | Greater ↦ λ at other. cc
        ] refl then

    awaits_later :
        (n : Option ℕ)
        → IsNextHit key_of compare s test ix n
        → (j : ℕ)
        → awaits s n j ≡ true
        → awaits s (Some ix) j ≡ true
    awaits_later None is j waits = cc
    awaits_later (Some n) is j waits =
        let (there, then) = both (is_some (get s j)) (not (is_gt (by_key_then_index key_of compare s n j))) waits in
        rw (there, behind_both n j is.1 then) refl

    awaits_itself : awaits s (Some ix) ix ≡ true
    awaits_itself = rw (ap is_some live, tied_itself (totals key_of compare total s) ix) refl

    awaits_no_more : (n : Option ℕ) → IsNextHit key_of compare s test ix n → awaits s n ix ≡ false
    awaits_no_more None is = refl
    awaits_no_more (Some n) is =
        let back : by_key_then_index key_of compare s n ix ≡ Greater = (totals key_of compare total s).antisymm n ix ∙ ap ordering_reverse is.1 in
        rw (ap is_some live, back) refl

    pub to_ask-kept : to_ask s next < to_ask s (Some ix)
    unfolding to_ask
    to_ask-kept =
        less (awaits s next) (awaits s (Some ix)) (length s.items) ix (awaits_later next is) (live_within s.items ix (ap is_some live)) (awaits_no_more next is) awaits_itself

    awaits_before :
        (n : Option ℕ)
        → IsNextHit key_of compare s test ix n
        → (j : ℕ)
        → awaits (removed s ix) n j ≡ true
        → awaits s n j ≡ true
    awaits_before None is j waits = waits
    awaits_before (Some n) is j waits = elim (cases_eq j ix) [
      | inl same ↦
          let gone = ap is_some (get-removed_at s ix item live) in
          let there = subst (λ k. is_some (get (removed s ix) k) ≡ true) same (both (is_some (get (removed s ix) j)) _ waits).0 in
          absurd (cc)
      | inr apart ↦
          let n_apart : n ≢ ix = λ same. not_before_itself key_of compare total s ix (subst (λ k. by_key_then_index key_of compare s ix k ≡ Less) same is.1) in
          let there = get-removed_other s ix j apart in
          let then = before_still key_of compare s ix n j n_apart apart in
          sym (ap (λ o. is_some o && not (is_gt (by_key_then_index key_of compare (removed s ix) n j))) there
          ∙ ap (λ r. is_some (get s j) && not (is_gt r)) then) ∙ waits
    ]

    pub to_ask-removed : to_ask (removed s ix) next < to_ask s (Some ix)
    unfolding to_ask
    to_ask-removed =
        let no_more = fewer (awaits (removed s ix) next) (awaits s next) (length s.items) (awaits_before next is) in
        let long = length-set s.items ix None in
        let same : to_ask (removed s ix) next ≡ how_many (awaits (removed s ix) next) (length s.items) = ap (how_many (awaits (removed s ix) next)) long in
        omega (arith, no_more, same, to_ask-kept)

module _
    {T : Type 0} (compare : T → T → Ordering) (total : IsTotalOrder compare) (within : T → Bool)
  where
    module _ {F : Type 0} (ask : F → T → Bool → F → Type 0) where
      -- the same as `RetainsWithin`, from an index on
      pub record RetainsFrom (f : F) (s : Store T) (next : Option ℕ) (new : Store T) (last : F) : Type 0 where
        pub indexes : List ℕ
        pub sorted : SortsFrom itself compare within s next indexes
        pub asks : List ((ℕ × T) × Bool)
        pub each_once : map (λ a. a.0) asks ≡ pairs_at s indexes
        pub were_asked : FoldsTo (λ p a q. ask p a.0.1 a.1 q) f asks last
        pub gone : (ix : ℕ) → Contains (removed_of asks) ix → get new ix ≡ None
        pub others : (ix : ℕ) → (Contains (removed_of asks) ix → ⊥) → get new ix ≡ get s ix
        pub left : new ≡ removed_all s (removed_of asks)

      -- nothing is left to ask about
      pub RetainsFrom-none : (f : F) (s : Store T) → RetainsFrom f s None s f
      RetainsFrom-none f s = record {
        indexes = [];
        sorted = SortsFrom-none itself compare total s within;
        asks = [];
        each_once = refl;
        were_asked = refl;
        gone = λ ix here. absurd (contains_none ix here);
        others = λ ix other. refl;
        left = refl;
      }

      -- all that are within are asked about from the first on
      pub RetainsWithin-from :
          (f : F) (s new : Store T) (last : F) (first : Option ℕ)
          → IsFirstHit itself compare s within first
          → RetainsFrom f s first new last
          → RetainsWithin compare within ask f s new last
      RetainsWithin-from f s new last first is r = record {
        indexes = r.indexes;
        sorted = SortsWithin-from itself compare total s within first r.indexes is r.sorted;
        asks = r.asks;
        each_once = r.each_once;
        were_asked = r.were_asked;
        gone = r.gone;
        others = r.others;
        left = r.left;
      }

      module _
          (f after last : F) (s new : Store T) (ix : ℕ) (item : T) (next : Option ℕ) (live : get s ix ≡ Some item)
          (passes : within item ≡ true) (is : IsNextHit itself compare s within ix next)
        where
          -- one that is kept, and then those from the next on
          pub RetainsFrom-kept :
              ask f item true after
              → RetainsFrom after s next new last
              → RetainsFrom f s (Some ix) new last
          RetainsFrom-kept asked r = record {
            indexes = ix ∷ r.indexes;
            sorted = SortsFrom-more itself compare total s within ix next is r.indexes (item, live, passes) r.sorted;
            asks = ((ix, item), true) ∷ r.asks;
            each_once = ap (λ l. (ix, item) ∷ l) r.each_once ∙ sym (pairs_at-first s (ix ∷ r.indexes) r.indexes ix item refl live);
            were_asked = (after, asked, r.were_asked);
            gone = r.gone;
            others = r.others;
            left = r.left;
          }

          -- one that is removed, and then those from the next on
          pub RetainsFrom-removed :
              ask f item false after
              → RetainsFrom after (removed s ix) next new last
              → RetainsFrom f s (Some ix) new last
          RetainsFrom-removed asked r =
              let sorts = SortsFrom-removed itself compare total s within ix next is r.indexes item live r.sorted in
              let apart : (j : ℕ) → Contains r.indexes j → j ≢ ix = λ j there same.
              not_before_itself itself compare total s ix (subst (λ k. by_key_then_index itself compare s ix k ≡ Less) same (from_later itself compare total s within ix next j is ((sorts.each j).0 there).1)) in
              let still : pairs_at (removed s ix) r.indexes ≡ pairs_at s r.indexes =
              pairs_at-alike s (removed s ix) r.indexes (λ j there. get-removed_other s ix j (apart j there)) in
              let own : get new ix ≡ None = elim (is_member nat_eq (removed_of r.asks) ix) as (λ b. Decides b (Contains (removed_of r.asks) ix) → get new ix ≡ None) [
                | true ↦ λ d. r.gone ix (d.0 refl)
                | false ↦ λ d. r.others ix (not_from_Decides false d refl) ∙ get-removed_at s ix item live
              ] (is_member-Decides Decides-eqb (removed_of r.asks) ix) in
              record {
                indexes = ix ∷ r.indexes;
                sorted = SortsFrom-more itself compare total s within ix next is r.indexes (item, live, passes) sorts;
                asks = ((ix, item), false) ∷ r.asks;
                each_once = ap (λ l. (ix, item) ∷ l) (r.each_once ∙ still) ∙ sym (pairs_at-first s (ix ∷ r.indexes) r.indexes ix item refl live);
                were_asked = (after, asked, r.were_asked);
                gone = λ j here. elim (contains_cases ix j (removed_of r.asks) here) [
                  | inl same ↦ subst (λ k. get new k ≡ None) same own
                  | inr there ↦ r.gone j there
                ];
                others = λ j other.
                    let apart_j : j ≢ ix = λ same. other (rw same (contains_head ix (removed_of r.asks))) in
                    r.others j (λ there. other (contains_tail ix j (removed_of r.asks) there)) ∙ get-removed_other s ix j apart_j;
                left = r.left;
              }

          -- an item that was asked about, and kept or removed by the answer
          module _
              (now : Store T) (b : Bool) (kept : b ≡ true → now ≡ s) (gone : b ≡ false → now ≡ removed s ix)
              (asked : ask f item b after)
            where
              -- what holds where it was kept, and where it was removed
              left_as :
                  (P : Store T → Type 0)
                  → (b ≡ true → P s)
                  → (b ≡ false → P (removed s ix))
                  → P now
              left_as P at_kept at_removed = elim b as (λ a. b ≡ a → P now) [
                | true ↦ λ is_true. subst P (sym (kept is_true)) (at_kept is_true)
                | false ↦ λ is_false. subst P (sym (gone is_false)) (at_removed is_false)
              ] refl

              pub RetainsFrom-asked :
                  RetainsFrom after now next new last
                  → RetainsFrom f s (Some ix) new last
              RetainsFrom-asked = left_as (λ t. RetainsFrom after t next new last → RetainsFrom f s (Some ix) new last)
                  (λ is_true. RetainsFrom-kept (subst (λ a. ask f item a after) is_true asked))
                  (λ is_false. RetainsFrom-removed (subst (λ a. ask f item a after) is_false asked))

              pub to_ask-asked : to_ask itself compare now next < to_ask itself compare s (Some ix)
              to_ask-asked = left_as (λ t. to_ask itself compare t next < to_ask itself compare s (Some ix))
                  (λ _. to_ask-kept itself compare total s within ix next is item live)
                  (λ _. to_ask-removed itself compare total s within ix next is item live)

              pub next_passes : (n : ℕ) → next ≡ Some n → IsHit now within n
              next_passes n same = left_as (λ t. IsHit t within n)
                  (λ _. next_hits itself compare s within ix next is n same)
                  (λ _. next_still itself compare total s within ix next is [] item live n same)

              pub live_then : (j : ℕ) (x : T) → get now j ≡ Some x → get s j ≡ Some x
              live_then j x = left_as (λ t. get t j ≡ Some x → get s j ≡ Some x)
                  (λ _ there. there)
                  (λ _ there. (live_before s ix j item x live there).1)

              pub others_stay : (j : ℕ) → j ≢ ix → get now j ≡ get s j
              others_stay j apart = left_as (λ t. get t j ≡ get s j) (λ _. refl) (λ _. get-removed_other s ix j apart)

              pub limit_stays : now.limit ≡ s.limit
              limit_stays = left_as (λ t. t.limit ≡ s.limit) (λ _. refl) (λ _. refl)

              pub no_more_live : IsValid s → live_count now ≤ live_count s
              no_more_live valid = left_as (λ t. live_count t ≤ live_count s)
                  (λ _. omega arith)
                  (λ _. omega (arith, live_count-removed s ix item valid live))

-- a closure that may be called from an index on
module _
    {F T : Type 0} (compare : T → T → Ordering) (within : T → Bool) (takes : F → T → Type 0)
    (ask : F → T → Bool → F → Type 0)
  where
    AsksFrom-by :
        (I : F → Type 0) (s : Store T)
        → ((p : F) (ix : ℕ) (x : T) → get s ix ≡ Some x → I p → takes p x)
        → ((p : F) (ix : ℕ) (x : T) (b : Bool) (q : F) → get s ix ≡ Some x → I p → ask p x b q → I q)
        → (n : ℕ) (f : F) (at : Option ℕ)
        → I f
        → AsksFrom compare within takes ask s n f at
    AsksFrom-by I s asks keeps zero f at i = tt
    AsksFrom-by I s asks keeps (suc n) f None i = tt
    AsksFrom-by I s asks keeps (suc n) f (Some ix) i = λ item live. (
      asks f ix item live i,
      λ b f' next called is. AsksFrom-by I s asks keeps n f' next (keeps f ix item b f' live i called),
    )

    -- it may be called where an invariant of its states allows each call, and each call keeps it
    pub AsksWithin-by :
        (I : F → Type 0) (s : Store T)
        → ((p : F) (ix : ℕ) (x : T) → get s ix ≡ Some x → I p → takes p x)
        → ((p : F) (ix : ℕ) (x : T) (b : Bool) (q : F) → get s ix ≡ Some x → I p → ask p x b q → I q)
        → (f : F)
        → I f
        → AsksWithin compare within takes ask f s
    AsksWithin-by I s asks keeps f i = record { at = λ n first is. AsksFrom-by I s asks keeps n f first i }

    pub MayAskWithin-asks :
        (f : F) (s : Store T)
        → MayAskWithin compare within takes ask f s
        → AsksWithin compare within takes ask f s
    MayAskWithin-asks f s may =
        may (λ asks.
        AsksWithin-by (λ p. Unit {0}) s (λ p ix x live i. asks p x) (λ p ix x b q live i called. tt) f tt)

    -- the item at the index may be asked about
    pub takes-at :
        (s : Store T) (f : F) (at : Option ℕ) (ix : ℕ) (item : T)
        → ((n : ℕ) → AsksFrom compare within takes ask s n f at)
        → at ≡ Some ix
        → get s ix ≡ Some item
        → takes f item
    takes-at s f at ix item can is live =
        ((subst (AsksFrom compare within takes ask s 1 f) is (can 1)) item live).0

    module _ (total : IsTotalOrder compare) (s : Store T) (ix : ℕ) (was : T) (here : get s ix ≡ Some was) where
      -- what is behind an index is another one
      behind_apart : (j : ℕ) → ComesBefore itself compare s ix j → j ≢ ix
      behind_apart j behind same =
          not_before_itself itself compare total s ix (subst (ComesBefore itself compare s ix) same behind)

      -- the next hit behind what is behind a removed index was the next before
      next_before :
          (j : ℕ) (next : Option ℕ)
          → ComesBefore itself compare s ix j
          → IsNextHit itself compare (removed s ix) within j next
          → IsNextHit itself compare s within j next
      next_before j None behind is = λ i hit before.
          let i_apart = behind_apart i ((totals itself compare total s).trans ix j i behind before) in
          is i (hit.0, get-removed_other s ix i i_apart ∙ hit.1, hit.2)
          (before_still itself compare s ix j i (behind_apart j behind) i_apart ∙ before)
      next_before j (Some k) behind is =
          let (item, live, passes) = is.0 in
          let (k_apart, there) = live_before s ix k was item here live in
          let j_apart = behind_apart j behind in (
            (item, there, passes),
            sym (before_still itself compare s ix j k j_apart k_apart) ∙ is.1,
            λ i hit before other.
                let i_apart = behind_apart i ((totals itself compare total s).trans ix j i behind before) in
                sym (before_still itself compare s ix k i k_apart i_apart)
                ∙ is.2 i (hit.0, get-removed_other s ix i i_apart ∙ hit.1, hit.2)
                (before_still itself compare s ix j i j_apart i_apart ∙ before) other,
          )

      AsksFrom-removed :
          (n : ℕ) (f : F) (at : Option ℕ)
          → ((j : ℕ) → at ≡ Some j → ComesBefore itself compare s ix j)
          → AsksFrom compare within takes ask s n f at
          → AsksFrom compare within takes ask (removed s ix) n f at
      AsksFrom-removed zero f at behind asks = tt
      AsksFrom-removed (suc n) f None behind asks = tt
      AsksFrom-removed (suc n) f (Some j) behind asks = λ item live.
          let there = (live_before s ix j was item here live).1 in
          let j_behind = behind j refl in (
            (asks item there).0,
            λ b f' next called is.
                let is_next = next_before j next j_behind is in
                let later = λ (k : ℕ) (same : next ≡ Some k).
                (totals itself compare total s).trans ix j k j_behind
                (subst (IsNextHit itself compare s within j) same is_next).1 in
                AsksFrom-removed n f' next later ((asks item there).1 b f' next called is_next),
          )

      -- after the item at the index was asked about, and kept or removed by the answer
      pub AsksFrom-asked :
          (f after : F) (at next : Option ℕ) (now : Store T) (b : Bool)
          → ((n : ℕ) → AsksFrom compare within takes ask s n f at)
          → at ≡ Some ix
          → ask f was b after
          → IsNextHit itself compare s within ix next
          → (b ≡ true → now ≡ s)
          → (b ≡ false → now ≡ removed s ix)
          → (n : ℕ)
          → AsksFrom compare within takes ask now n after next
      AsksFrom-asked f after at next now b can same asked is kept gone n =
          let from : AsksFrom compare within takes ask s (suc n) f (Some ix) =
          subst (AsksFrom compare within takes ask s (suc n) f) same (can (suc n)) in
          let rest = (from was here).1 b after next asked is in
          elim b as (λ a. b ≡ a → AsksFrom compare within takes ask now n after next) [
            | true ↦ λ yes. subst (λ t. AsksFrom compare within takes ask t n after next) (sym (kept yes)) rest
            | false ↦ λ no.
                let behind = λ (k : ℕ) (at_k : next ≡ Some k).
                (subst (IsNextHit itself compare s within ix) at_k is).1 in
                subst (λ t. AsksFrom compare within takes ask t n after next) (sym (gone no))
                (AsksFrom-removed n after next behind rest)
          ] refl

-- between a query and itself are the keys at which it is Equal
module _ {T : Type 0} (comparing : T → Ordering) (old new : Store T) where
  pub AsksWithin-group :
      {F : Type 0} (compare : T → T → Ordering) (takes : F → T → Type 0) (ask : F → T → Bool → F → Type 0) (f : F)
      → AsksWithin compare (is_equal comparing) takes ask f old
      → AsksWithin compare (is_between (Included comparing) (Included comparing)) takes ask f old
  AsksWithin-group compare takes ask f asks =
      subst (λ within. AsksWithin compare within takes ask f old) (sym (between_equal comparing)) asks

  pub KeepsMisses-group :
      KeepsMisses old (is_between (Included comparing) (Included comparing)) new
      → KeepsMisses old (is_equal comparing) new
  KeepsMisses-group others =
      subst (λ within. KeepsMisses old within new) (between_equal comparing) others

  pub RetainsWithin-group :
      {F : Type 0} (compare : T → T → Ordering) (ask : F → T → Bool → F → Type 0) (f last : F)
      → RetainsWithin compare (is_between (Included comparing) (Included comparing)) ask f old new last
      → RetainsWithin compare (is_equal comparing) ask f old new last
  RetainsWithin-group compare ask f last along =
      subst (λ within. RetainsWithin compare within ask f old new last) (between_equal comparing) along
