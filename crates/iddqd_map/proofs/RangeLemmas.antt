-- For maps: what calls leave that remove the items whose keys are within bounds, one after the other.
use Rattle.std.proofs.Common.{◌≡◌, ◌≢◌, ◌∙◌, ℕ, Bool, [], ◌∷◌, Option, Some, None, refl, subst, Ordering}
use Rattle.std.specs.Cmp.{IsTotalOrder}
use Rattle.std.specs.declared.ops.Bound.TheVariants.{Included}
use Rattle.iddqd.specs.Store.{Store, get, removed}
use Rattle.iddqd.proofs.LiveLemmas.{get-removed_other}
use Rattle.iddqd_keys.specs.OrderedQuery.{is_equal}
use Rattle.iddqd_keys.specs.OrderedQuery.{is_between}
use Rattle.iddqd_keys.specs.KeyWalk.{ComesBefore, IsFirstHit, IsNextHit, pairs_at}
use Rattle.iddqd_keys.specs.Scan.{HasNoHit, IsHit}
use Rattle.iddqd_keys.proofs.KeyWalkLemmas.{SortsWithin-none, SortsWithin-first, hit_before, pairs_at-alike}
use Rattle.iddqd_keys.proofs.KeyWalkLemmas.{between_equal}
use Rattle.iddqd_keys.proofs.KeyWalkLemmas.{pairs_at-first}
use Rattle.iddqd_keys.proofs.NextLemmas.{before_still, next_still, not_before_itself}
use Rattle.iddqd_keys.proofs.ScanLemmas.{live_before}
use Rattle.iddqd_map.specs.Ranges.{LeavesOthers, RemovesAlong, itself}

module _
    {T : Type 0} (compare : T → T → Ordering) (total : IsTotalOrder compare) (within : T → Bool)
  where
    module _ {F : Type 0} (give : F → T → F → Type 0) where
      pub RemovesAlong-none :
          (f : F) (s : Store T)
          → HasNoHit s within
          → RemovesAlong compare within give f s s f
      RemovesAlong-none f s none = record {
        indexes = [];
        sorted = SortsWithin-none itself compare s within none;
        given = refl;
        left = refl;
      }

      pub RemovesAlong-first :
          (f next last : F) (s now new : Store T) (ix : ℕ) (item : T)
          → IsFirstHit itself compare s within (Some ix)
          → get s ix ≡ Some item
          → now ≡ removed s ix
          → give f item next
          → RemovesAlong compare within give next now new last
          → RemovesAlong compare within give f s new last
      RemovesAlong-first f next last s now new ix item first live gone given along =
          let then : RemovesAlong compare within give next (removed s ix) new last = rw gone at along in
          let rest = then.indexes in
          let same : pairs_at (removed s ix) rest ≡ pairs_at s rest =
          pairs_at-alike s (removed s ix) rest (λ j there.
          get-removed_other s ix j (hit_before itself compare s within total ix first j ((then.sorted.each j).0 there)).0) in
          let pairs : pairs_at s (ix ∷ rest) ≡ (ix, item) ∷ pairs_at s rest = pairs_at-first s (ix ∷ rest) rest ix item refl live in
          record {
            indexes = ix ∷ rest;
            sorted = SortsWithin-first itself compare s within total ix first rest then.sorted;
            given = rw pairs (next, given, rw same at then.given);
            left = then.left;
          }

-- once the first hit is removed, the first is the one that came next
module _
    {T K : Type 0} (key_of : T → K) (compare : K → K → Ordering) (total : IsTotalOrder compare) (s : Store T)
    (test : T → Bool) (ix : ℕ) (item : T) (live : get s ix ≡ Some item)
    (first : IsFirstHit key_of compare s test (Some ix))
  where
    before-too : (j : ℕ) → IsHit (removed s ix) test j → (j ≢ ix) × IsHit s test j
    before-too j (y, there, passed) =
        let (apart, was) = live_before s ix j item y live there in
        (apart, (y, was, passed))

    pub IsFirstHit-removed :
        (next : Option ℕ)
        → IsNextHit key_of compare s test ix next
        → IsFirstHit key_of compare (removed s ix) test next
    IsFirstHit-removed None is = λ j hit.
        let (apart, was) = before-too j hit in
        is j was (first.1 j was apart)
    IsFirstHit-removed (Some n) is = (
      next_still key_of compare total s test ix (Some n) is [] item live n refl,
      λ j hit other.
          let (apart, was) = before-too j hit in
          let n_apart : n ≢ ix = λ same. not_before_itself key_of compare total s ix (subst (λ k. ComesBefore key_of compare s ix k) same is.1) in
          before_still key_of compare s ix n j n_apart apart ∙ is.2 j was (first.1 j was apart) other,
    )

-- between a query and itself are the keys at which it is Equal
module _ {T : Type 0} (comparing : T → Ordering) (old new : Store T) where
  pub LeavesOthers-group :
      LeavesOthers old (is_between (Included comparing) (Included comparing)) new
      → LeavesOthers old (is_equal comparing) new
  LeavesOthers-group leaves =
      subst (λ within. LeavesOthers old within new) (between_equal comparing) leaves

  pub RemovesAlong-group :
      {F : Type 0} (compare : T → T → Ordering) (give : F → T → F → Type 0) (f last : F)
      → RemovesAlong compare (is_between (Included comparing) (Included comparing)) give f old new last
      → RemovesAlong compare (is_equal comparing) give f old new last
  RemovesAlong-group compare give f last along =
      subst (λ within. RemovesAlong compare within give f old new last) (between_equal comparing) along
