-- For callers of `retain`, `retain_range_by` and their like: that exactly the items that pass
-- a test stay, where the closure's answers are that test, and that only others are passed to a second closure; and that
-- a closure may be asked which asks for something.
use Rattle.std.proofs.Common.{◌≡◌, ◌∙◌, inl, inr, ℕ, Bool, true, false, List, [], ◌∷◌, map, Some, None, refl, sym, ap, subst, Ordering}
use Rattle.std.specs.List.{Contains, filter, FoldsTo}
use Rattle.iddqd.specs.Store.{Store, get}
use Rattle.iddqd.specs.LiveItems.{live_pairs}
use Rattle.iddqd.proofs.StoreLemmas.{contains_head, contains_tail, contains_cases, contains_none}
use Rattle.iddqd_keys.specs.KeyWalk.{pairs_at}
use Rattle.iddqd_map.specs.Map.{MapState}
use Rattle.iddqd_map.specs.Bulk.{refused_of}
use Rattle.iddqd_map.specs.RangeRetain.{GivesRefusedWithin, RetainsWithin}
use Rattle.iddqd_map.specs.Retain.{kept_of, removed_of, Retains, RetainsTo}
pub use Rattle.iddqd_hash.proofs.AskLemmas.{CanAsk-by}

module _ {T : Type 0} (s : Store T) where
  -- a pair of an index and an item is listed only where the item is there
  pub pair_live : (indexes : List ℕ) (ix : ℕ) (x : T) → Contains (pairs_at s indexes) (ix, x) → get s ix ≡ Some x
  pair_live [] ix x here = absurd (contains_none (ix, x) here)
  pair_live (at ∷ rest) ix x here =
      elim (get s at) as (λ o. get s at ≡ o → get s ix ≡ Some x) [
        | Some y ↦ λ live.
            let listed : Contains ((at, y) ∷ pairs_at s rest) (ix, x) = rw live at here in
            elim (contains_cases (at, y) (ix, x) (pairs_at s rest) listed) [
              | inl same ↦
                  let place : at ≡ ix = ap (λ p. p.0) same in
                  let item : y ≡ x = ap (λ p. p.1) same in
                  subst (λ k. get s k ≡ Some x) place (live ∙ ap Some item)
              | inr behind ↦ pair_live rest ix x behind
            ]
        | None ↦ λ none. pair_live rest ix x (rw none at here)
      ] refl

  -- and only where the index is
  pub pair_listed : (indexes : List ℕ) (ix : ℕ) (x : T) → Contains (pairs_at s indexes) (ix, x) → Contains indexes ix
  pair_listed [] ix x here = absurd (contains_none (ix, x) here)
  pair_listed (at ∷ rest) ix x here =
      elim (get s at) as (λ o. get s at ≡ o → Contains (at ∷ rest) ix) [
        | Some y ↦ λ live.
            let listed : Contains ((at, y) ∷ pairs_at s rest) (ix, x) = rw live at here in
            elim (contains_cases (at, y) (ix, x) (pairs_at s rest) listed) [
              | inl same ↦ subst (Contains (at ∷ rest)) (ap (λ p. p.0) same) (contains_head at rest)
              | inr behind ↦ contains_tail at ix rest (pair_listed rest ix x behind)
            ]
        | None ↦ λ none. contains_tail at ix rest (pair_listed rest ix x (rw none at here))
      ] refl

  -- and the pair of a listed index and its item is
  pub live_pair :
      (indexes : List ℕ) (ix : ℕ) (x : T)
      → Contains indexes ix
      → get s ix ≡ Some x
      → Contains (pairs_at s indexes) (ix, x)
  live_pair [] ix x here live = absurd (contains_none ix here)
  live_pair (at ∷ rest) ix x here live =
      elim (contains_cases at ix rest here) [
        | inl same ↦
            let there : get s at ≡ Some x = subst (λ k. get s k ≡ Some x) (sym same) live in
            rw there (subst (λ k. Contains ((at, x) ∷ pairs_at s rest) (k, x)) same (contains_head (at, x) (pairs_at s rest)))
        | inr behind ↦
            elim (get s at) as (λ o. get s at ≡ o → Contains (pairs_at s (at ∷ rest)) (ix, x)) [
              | Some y ↦ λ is. rw is (contains_tail (at, y) (ix, x) (pairs_at s rest) (live_pair rest ix x behind live))
              | None ↦ λ none. rw none (live_pair rest ix x behind live)
            ] refl
      ]

-- `I` holds of each state of the closure, and there its answer on an item is whether that passes the test
module _
    {F T : Type 0} (ask : F → T → Bool → F → Type 0) (I : F → Type 0) (test : T → Bool)
    (says : (s : F) (x : T) (b : Bool) (t : F) → I s → ask s x b t → (b ≡ test x) × I t)
  where
    pub kept_tested :
        (f : F) (asks : List ((ℕ × T) × Bool)) (last : F)
        → I f
        → FoldsTo (λ p a q. ask p a.0.1 a.1 q) f asks last
        → kept_of asks ≡ filter (λ p. test p.1) (map (λ a. a.0) asks)
    kept_tested f [] last i asked = refl
    kept_tested f ((pair, true) ∷ asks) last i asked =
        let one = says f pair.1 true asked.0 i asked.1 in
        rw (← one.0, kept_tested asked.0 asks last one.1 asked.2) refl
    kept_tested f ((pair, false) ∷ asks) last i asked =
        let one = says f pair.1 false asked.0 i asked.1 in
        rw (← one.0, kept_tested asked.0 asks last one.1 asked.2) refl

    pub RetainsTo-tested :
        (f last : F) (old new : Store T)
        → I f
        → RetainsTo ask f old new last
        → live_pairs new ≡ filter (λ p. test p.1) (live_pairs old)
    RetainsTo-tested f last old new i to =
        to.kept ∙ kept_tested f to.asks last i to.were_asked ∙ ap (filter (λ p. test p.1)) to.each_once

    pub Retains-tested :
        (f : F) (old new : MapState T)
        → I f
        → Retains ask f old new
        → live_pairs new.store ≡ filter (λ p. test p.1) (live_pairs old.store)
    Retains-tested f old new i retains =
        RetainsTo-tested f retains.last old.store new.store i retains.retained

    -- an index is refused only with an item that fails
    refused_fails :
        (f : F) (asks : List ((ℕ × T) × Bool)) (last : F) (ix : ℕ)
        → I f
        → FoldsTo (λ p a q. ask p a.0.1 a.1 q) f asks last
        → Contains (removed_of asks) ix
        → (x : T) × Contains (map (λ a. a.0) asks) (ix, x) × (test x ≡ false)
    refused_fails f [] last ix i asked here = absurd (contains_none ix here)
    refused_fails f (((at, y), true) ∷ asks) last ix i asked here =
        let one = says f y true asked.0 i asked.1 in
        let (x, there, fails) = refused_fails asked.0 asks last ix one.1 asked.2 here in
        (x, contains_tail (at, y) (ix, x) (map (λ a. a.0) asks) there, fails)
    refused_fails f (((at, y), false) ∷ asks) last ix i asked here =
        let one = says f y false asked.0 i asked.1 in
        elim (contains_cases at ix (removed_of asks) here) [
          | inl same ↦ (
            y,
            subst (λ k. Contains ((at, y) ∷ map (λ a. a.0) asks) (k, y)) same (contains_head (at, y) (map (λ a. a.0) asks)),
            sym one.0,
          )
          | inr behind ↦
              let (x, there, fails) = refused_fails asked.0 asks last ix one.1 asked.2 behind in
              (x, contains_tail (at, y) (ix, x) (map (λ a. a.0) asks) there, fails)
        ]

    -- and one that fails is refused
    fails_refused :
        (f : F) (asks : List ((ℕ × T) × Bool)) (last : F) (ix : ℕ) (x : T)
        → I f
        → FoldsTo (λ p a q. ask p a.0.1 a.1 q) f asks last
        → Contains (map (λ a. a.0) asks) (ix, x)
        → test x ≡ false
        → Contains (removed_of asks) ix
    fails_refused f [] last ix x i asked here fails = absurd (contains_none (ix, x) here)
    fails_refused f (((at, y), true) ∷ asks) last ix x i asked here fails =
        let one = says f y true asked.0 i asked.1 in
        elim (contains_cases (at, y) (ix, x) (map (λ a. a.0) asks) here) [
          | inl same ↦
              let item : y ≡ x = ap (λ p. p.1) same in
              let passes : true ≡ test x = subst (λ z. true ≡ test z) item one.0 in
              absurd (cc)
          | inr behind ↦ fails_refused asked.0 asks last ix x one.1 asked.2 behind fails
        ]
    fails_refused f (((at, y), false) ∷ asks) last ix x i asked here fails =
        let one = says f y false asked.0 i asked.1 in
        elim (contains_cases (at, y) (ix, x) (map (λ a. a.0) asks) here) [
          | inl same ↦
              let place : at ≡ ix = ap (λ p. p.0) same in
              subst (λ k. Contains (at ∷ removed_of asks) k) place (contains_head at (removed_of asks))
          | inr behind ↦ contains_tail at ix (removed_of asks) (fails_refused asked.0 asks last ix x one.1 asked.2 behind fails)
        ]

    -- an item is passed to a second closure only where it fails
    given_fails :
        (f : F) (asks : List ((ℕ × T) × Bool)) (last : F) (x : T)
        → I f
        → FoldsTo (λ p a q. ask p a.0.1 a.1 q) f asks last
        → Contains (refused_of asks) x
        → (ix : ℕ) × Contains (map (λ a. a.0) asks) (ix, x) × (test x ≡ false)
    given_fails f [] last x i asked here = absurd (contains_none x here)
    given_fails f (((at, y), true) ∷ asks) last x i asked here =
        let one = says f y true asked.0 i asked.1 in
        let (ix, there, fails) = given_fails asked.0 asks last x one.1 asked.2 here in
        (ix, contains_tail (at, y) (ix, x) (map (λ a. a.0) asks) there, fails)
    given_fails f (((at, y), false) ∷ asks) last x i asked here =
        let one = says f y false asked.0 i asked.1 in
        elim (contains_cases y x (refused_of asks) here) [
          | inl same ↦ (
            at,
            subst (λ z. Contains ((at, y) ∷ map (λ a. a.0) asks) (at, z)) same (contains_head (at, y) (map (λ a. a.0) asks)),
            subst (λ z. test z ≡ false) same (sym one.0),
          )
          | inr behind ↦
              let (ix, there, fails) = given_fails asked.0 asks last x one.1 asked.2 behind in
              (ix, contains_tail (at, y) (ix, x) (map (λ a. a.0) asks) there, fails)
        ]

    -- of a range or a group: the second closure is called with items that were there, are within, and fail
    pub GivesRefusedWithin-tested :
        {G : Type 0} (give : G → T → G → Type 0) (order : T → T → Ordering) (within : T → Bool)
        (f : F) (gone : G) (old new : Store T)
        → I f
        → GivesRefusedWithin order within ask give f gone old new
        → (items : List T) × (last : G) × FoldsTo give gone items last
        × ((x : T) → Contains items x → (within x ≡ true) × (test x ≡ false))
    GivesRefusedWithin-tested give order within f gone old new i gives =
        let did = gives.given in (
          refused_of did.asks,
          gives.last_gone,
          did.given,
          λ x here.
              let (ix, there, fails) = given_fails f did.asks gives.last_keep x i did.were_asked here in
              let listed = subst (λ l. Contains l (ix, x)) did.each_once there in
              let (item, live, passes) = (gives.sorted.each ix).0 (pair_listed old gives.indexes ix x listed) in
              let one : Some item ≡ Some x = sym live ∙ pair_live old gives.indexes ix x listed in
              let same : item ≡ x = cc in
              (subst (λ z. within z ≡ true) same passes, fails),
        )

    -- of a range or a group: items that pass stay under their indexes, and those within that fail are gone
    module _ (order : T → T → Ordering) (within : T → Bool) (f : F) (old new : Store T) (last : F) (i : I f)
        (retains : RetainsWithin order within ask f old new last) (ix : ℕ) (item : T) (live : get old ix ≡ Some item)
      where
        pub RetainsWithin-stays : test item ≡ true → get new ix ≡ Some item
        RetainsWithin-stays passes =
            retains.others ix (λ refused.
            let (x, there, fails) = refused_fails f retains.asks last ix i retains.were_asked refused in
            let listed = subst (λ l. Contains l (ix, x)) retains.each_once there in
            let one : Some x ≡ Some item = sym (pair_live old retains.indexes ix x listed) ∙ live in
            let same : x ≡ item = cc in
            let other : test item ≡ false = subst (λ z. test z ≡ false) same fails in
            cc)
            ∙ live

        pub RetainsWithin-gone : within item ≡ true → test item ≡ false → get new ix ≡ None
        RetainsWithin-gone inside fails =
            let listed = (retains.sorted.each ix).1 (item, live, inside) in
            let asked = subst (λ l. Contains l (ix, item)) (sym retains.each_once) (live_pair old retains.indexes ix item listed live) in
            retains.gone ix (fails_refused f retains.asks last ix item i retains.were_asked asked fails)
