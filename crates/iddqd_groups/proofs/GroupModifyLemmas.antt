-- What calls along the indexes under a hash leave, where each item that passes a test is modified in place.
use Rattle.std.proofs.Common.{◌≡◌, ◌≢◌, ◌∙◌, ◌+◌, inl, inr, ℕ, nat_eq, Bool, true, false, List, [], ◌∷◌, filter, length, Some, refl, sym, ap, subst, arith}
use Rattle.std.specs.Borrow.{MutBor}
use Rattle.std.specs.Fn.{Mut, CalledAtMut}
use Rattle.std.specs.List.{Contains, IsDistinct}
use Rattle.std.proofs.lemmas.Bool.{cases_eq}
use Rattle.std.proofs.lemmas.Map.Keys.{IsDistinct-tail}
use Rattle.iddqd.specs.Store.{Store, IsValid, get, live_count, rebound}
use Rattle.iddqd.specs.LiveItems.{live_items}
use Rattle.iddqd.proofs.LiveCountLemmas.{live_count-rebound}
use Rattle.iddqd.proofs.LiveLemmas.{item_at}
use Rattle.iddqd.proofs.StoreLemmas.{IsValid-rebound, contains_cases, contains_head, contains_none, contains_tail, get-rebound_other}
use Rattle.iddqd_hash.specs.Asks.{CanAsk}
use Rattle.iddqd_hash.proofs.AskLemmas.{CanAsk-asked, CanAsk-takes}
use Rattle.iddqd_keys.specs.KeyWalk.{pairs_at}
use Rattle.iddqd_keys.specs.Scan.{IsLive}
use Rattle.iddqd_keys.proofs.KeyWalkLemmas.{pairs_at-first}
use Rattle.iddqd_by_hash.specs.Hashed.{passes}
use Rattle.iddqd_map.specs.ModifyMany.{CallsAlong, MayLeave, TakesMut, WasCalled}
use Rattle.iddqd_map.specs.RangeRetain.{KeepsMisses}
use Rattle.iddqd_map.proofs.AlongLemmas.{apart_first}
use Rattle.iddqd_map.proofs.ModifyLemmas.{CallsAlong-first, CallsAlong-none, WasCalled-now}
use Rattle.iddqd_map.proofs.RetainLemmas.{Contains-live}
use Rattle.iddqd_groups.specs.HashedGroup.{hits_among}
use Rattle.iddqd_groups.proofs.GroupLemmas.{filter-passed, filter-refused}
use Rattle.iddqd_map.proofs.GroupRetainLemmas.{Contains-passing}

module _
    {F T : Type 0} (g : Mut F (MutBor T × Unit {0}) (Unit {0} × (MutBor T × Unit {0}))) (test : T → Bool) (f : F)
    (under : List ℕ) (old : Store T)
  where
    -- the items that pass at indexes before `rest` were modified, and from there on all is as it was
    pub record ModifyingHits (now : Store T) (rest : List ℕ) (state : F) (count : ℕ) : Type 0 where
      pub can : CanAsk (TakesMut g) (MayLeave g) state (filter test (live_items old))
      pub valid : IsValid now
      pub once : IsDistinct nat_eq rest
      pub live : (j : ℕ) → Contains rest j → IsLive old j
      pub calls : (new : Store T) (last : F)
          → CallsAlong g (pairs_at old (hits_among old test rest)) state now new last
          → CallsAlong g (pairs_at old (hits_among old test under)) f old new last
      pub counted : count + length (hits_among old test rest) ≡ length (hits_among old test under)
      pub each : (j : ℕ) (was : T)
          → Contains under j
          → get old j ≡ Some was
          → test was ≡ true
          → (Contains rest j → ⊥)
          → WasCalled g was (get now j)
      pub ahead : (j : ℕ) → Contains rest j → get now j ≡ get old j
      pub others : KeepsMisses old test now
      pub as_many : live_count now ≡ live_count old
      pub limit : now.limit ≡ old.limit

    pub ModifyingHits-first :
        IsValid old
        → IsDistinct nat_eq under
        → ((j : ℕ) → Contains under j → IsLive old j)
        → CanAsk (TakesMut g) (MayLeave g) f (filter test (live_items old))
        → ModifyingHits old under f 0
    ModifyingHits-first valid once live can = record {
      can = can;
      valid = valid;
      once = once;
      live = live;
      calls = λ new last along. along;
      counted = omega arith;
      each = λ j was here there passed not_ahead. absurd (not_ahead here);
      ahead = λ j here. refl;
      others = λ j miss. refl;
      as_many = refl;
      limit = refl;
    }

    -- all of them
    module _ (now : Store T) (state : F) (count : ℕ) (w : ModifyingHits now [] state count) where
      pub ModifyingHits-calls : CallsAlong g (pairs_at old (hits_among old test under)) f old now state
      ModifyingHits-calls = w.calls now state (CallsAlong-none g state now)

      pub ModifyingHits-each :
          (j : ℕ) (was : T)
          → Contains under j
          → get old j ≡ Some was
          → test was ≡ true
          → WasCalled g was (get now j)
      ModifyingHits-each j was here there passed = w.each j was here there passed (λ none. contains_none j none)

      pub ModifyingHits-counted : count ≡ length (hits_among old test under)
      ModifyingHits-counted = omega (arith, w.counted)

    -- the next index
    module _
        (now : Store T) (ahead rest : List ℕ) (ix : ℕ) (state : F) (count : ℕ)
        (given : ModifyingHits now ahead state count) (at : ahead ≡ ix ∷ rest)
      where
        w : ModifyingHits now (ix ∷ rest) state count
        w = subst (λ xs. ModifyingHits now xs state count) at given

        old_here : (item : T) → get now ix ≡ Some item → get old ix ≡ Some item
        old_here item live = sym (w.ahead ix (contains_head ix rest)) ∙ live

        behind : (j : ℕ) → Contains rest j → Contains (ix ∷ rest) j
        behind j here = contains_tail ix j rest here

        among : (item : T) → get now ix ≡ Some item → test item ≡ true → Contains (filter test (live_items old)) item
        among item live passed = Contains-passing test (live_items old) item (Contains-live old ix item (old_here item live)) passed

        -- its item may be given to the closure, if it passes
        pub ModifyingHits-takes : (item : T) → get now ix ≡ Some item → test item ≡ true → TakesMut g state item
        ModifyingHits-takes item live passed =
            CanAsk-takes (TakesMut g) (MayLeave g) state (filter test (live_items old)) item w.can (among item live passed)

        -- its item is there
        pub ModifyingHits-live : (item : T) × (get now ix ≡ Some item)
        ModifyingHits-live =
            let (item, there) = item_at old ix (w.live ix (contains_head ix rest)) in
            (item, w.ahead ix (contains_head ix rest) ∙ there)

        -- an item that doesn't pass
        pub ModifyingHits-passed :
            (item : T)
            → get now ix ≡ Some item
            → test item ≡ false
            → ModifyingHits now rest state count
        ModifyingHits-passed item live refused =
            let fails : passes old test ix ≡ false = rw (passes, old_here item live) refused in
            let same = filter-refused (passes old test) ix rest fails in
            record {
              can = w.can;
              valid = w.valid;
              once = IsDistinct-tail nat_eq ix rest w.once;
              live = λ j here. w.live j (behind j here);
              calls = λ new last along.
                  w.calls new last (subst (λ xs. CallsAlong g (pairs_at old xs) state now new last) (sym same) along);
              counted = ap (λ xs. count + length xs) (sym same) ∙ w.counted;
              each = λ j was here there passed not_ahead. w.each j was here there passed
                  (λ before. elim (contains_cases ix j rest before) [
                    | inl is ↦
                        let one : Some item ≡ Some was = sym (old_here item live) ∙ ap (get old) is ∙ there in
                        let never : true ≡ false = sym passed ∙ ap test (sym (let x : item ≡ was = cc in x)) ∙ refused in
                        cc
                    | inr later ↦ not_ahead later
                  ]);
              ahead = λ j here. w.ahead j (behind j here);
              others = w.others;
              as_many = w.as_many;
              limit = w.limit;
            }

        -- an item that passes was modified
        pub ModifyingHits-called :
            (item left : T) (after : F) (then : Store T)
            → get now ix ≡ Some item
            → test item ≡ true
            → CalledAtMut g state item tt after left
            → then ≡ rebound now ix left
            → ModifyingHits then rest after (count + 1)
        ModifyingHits-called item left after then live passed called is =
            let was = old_here item live in
            let here : passes old test ix ≡ true = rw (passes, was) passed in
            let same = filter-passed (passes old test) ix rest here in
            let more : pairs_at old (hits_among old test (ix ∷ rest)) ≡ (ix, item) ∷ pairs_at old (hits_among old test rest) =
            pairs_at-first old (hits_among old test (ix ∷ rest)) (hits_among old test rest) ix item same was in
            let apart : (j : ℕ) → Contains rest j → j ≢ ix = apart_first ix rest w.once in
            rw is
            (record {
              can = CanAsk-asked (TakesMut g) (MayLeave g) state (filter test (live_items old)) item true after w.can
                  (among item live passed) (left, called);
              valid = IsValid-rebound now ix left item w.valid live;
              once = IsDistinct-tail nat_eq ix rest w.once;
              live = λ j there. w.live j (behind j there);
              calls = λ new last along.
                  w.calls new last
                  (subst (λ l. CallsAlong g l state now new last) (sym more)
                  (CallsAlong-first g (pairs_at old (hits_among old test rest)) state after last now new ix item left called along));
              counted =
                  (let long = ap length same in
                  let counted = w.counted in
                  omega (arith, long, counted));
              each = λ j before there_under there passes_too not_ahead. elim (cases_eq j ix) [
                | inl same_index ↦
                    let one : Some item ≡ Some before = sym was ∙ subst (λ k. get old k ≡ Some before) same_index there in
                    let equal : item ≡ before = cc in
                    subst (λ k. WasCalled g before (get (rebound now ix left) k)) (sym same_index)
                    (WasCalled-now g state after now ix before item left live
                    (subst (λ x. CalledAtMut g state x tt after left) equal called))
                | inr other ↦
                    subst (WasCalled g before) (sym (get-rebound_other now ix j left other))
                    (w.each j before there_under there passes_too
                    (λ ahead_still. elim (contains_cases ix j rest ahead_still) [
                      | inl first ↦ other (sym first)
                      | inr later ↦ not_ahead later
                    ]))
              ];
              ahead = λ j there. get-rebound_other now ix j left (apart j there) ∙ w.ahead j (behind j there);
              others = λ j miss.
                  let other : j ≢ ix = λ equal. miss (item, subst (λ k. get old k ≡ Some item) (sym equal) was, passed) in
                  get-rebound_other now ix j left other ∙ w.others j miss;
              as_many = live_count-rebound now ix left item w.valid live ∙ w.as_many;
              limit = w.limit;
            })
