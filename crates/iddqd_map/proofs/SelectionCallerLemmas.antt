-- For callers of the calls on a selection: that exactly the items that pass a test stay, where the closure's answers
-- are that test, and that only others are passed to a second closure.
use Rattle.std.proofs.Common.{◌≡◌, ◌∙◌, inl, inr, ℕ, Bool, true, false, not, List, [], ◌∷◌, filter, map, Some, None, refl, sym, ap, subst}
use Rattle.std.specs.List.{Contains, FoldsTo}
use Rattle.iddqd.specs.Store.{Store, get}
use Rattle.iddqd.proofs.StoreLemmas.{contains_head, contains_tail, contains_cases, contains_none}
use Rattle.iddqd_keys.specs.Scan.{IsHit}
use Rattle.iddqd_map.specs.Retain.{removed_of}
use Rattle.iddqd_map.specs.Sweep.{GivesRejected, RetainsSelected}
use Rattle.iddqd_map.proofs.RetainedLemmas.{live_pair, pair_listed, pair_live}

-- `I` holds of each state of the closure, and there its answer at an index with its item is whether these pass the test
module _
    {F T : Type 0} (ask : F → ℕ × T → Bool → F → Type 0) (I : F → Type 0) (test : ℕ × T → Bool)
    (says : (s : F) (p : ℕ × T) (b : Bool) (t : F) → I s → ask s p b t → (b ≡ test p) × I t)
  where
    -- an index is rejected only with an item that fails
    rejected_fails :
        (f : F) (asks : List ((ℕ × T) × Bool)) (last : F) (ix : ℕ)
        → I f
        → FoldsTo (λ p a q. ask p a.0 a.1 q) f asks last
        → Contains (removed_of asks) ix
        → (x : T) × Contains (map (λ a. a.0) asks) (ix, x) × (test (ix, x) ≡ false)
    rejected_fails f [] last ix i asked here = absurd (contains_none ix here)
    rejected_fails f ((p, true) ∷ asks) last ix i asked here =
        let one = says f p true asked.0 i asked.1 in
        let (x, there, fails) = rejected_fails asked.0 asks last ix one.1 asked.2 here in
        (x, contains_tail p (ix, x) (map (λ a. a.0) asks) there, fails)
    rejected_fails f ((p, false) ∷ asks) last ix i asked here =
        let one = says f p false asked.0 i asked.1 in
        elim (contains_cases p.0 ix (removed_of asks) here) [
          | inl same ↦ (
            p.1,
            subst (λ k. Contains (p ∷ map (λ a. a.0) asks) (k, p.1)) same (contains_head p (map (λ a. a.0) asks)),
            subst (λ k. test (k, p.1) ≡ false) same (sym one.0),
          )
          | inr behind ↦
              let (x, there, fails) = rejected_fails asked.0 asks last ix one.1 asked.2 behind in
              (x, contains_tail p (ix, x) (map (λ a. a.0) asks) there, fails)
        ]

    -- and one that fails is rejected
    fails_rejected :
        (f : F) (asks : List ((ℕ × T) × Bool)) (last : F) (q : ℕ × T)
        → I f
        → FoldsTo (λ p a q. ask p a.0 a.1 q) f asks last
        → Contains (map (λ a. a.0) asks) q
        → test q ≡ false
        → Contains (removed_of asks) q.0
    fails_rejected f [] last q i asked here fails = absurd (contains_none q here)
    fails_rejected f ((p, true) ∷ asks) last q i asked here fails =
        let one = says f p true asked.0 i asked.1 in
        elim (contains_cases p q (map (λ a. a.0) asks) here) [
          | inl same ↦ let passes : true ≡ test q = one.0 ∙ ap test same in absurd (cc)
          | inr behind ↦ fails_rejected asked.0 asks last q one.1 asked.2 behind fails
        ]
    fails_rejected f ((p, false) ∷ asks) last q i asked here fails =
        let one = says f p false asked.0 i asked.1 in
        elim (contains_cases p q (map (λ a. a.0) asks) here) [
          | inl same ↦ subst (λ k. Contains (p.0 ∷ removed_of asks) k) (ap (λ r. r.0) same) (contains_head p.0 (removed_of asks))
          | inr behind ↦ contains_tail p.0 q.0 (removed_of asks) (fails_rejected asked.0 asks last q one.1 asked.2 behind fails)
        ]

    given_fails :
        (f : F) (asks : List ((ℕ × T) × Bool)) (last : F) (q : ℕ × T)
        → I f
        → FoldsTo (λ p a q. ask p a.0 a.1 q) f asks last
        → Contains (map (λ a. a.0) (filter (λ a. not a.1) asks)) q
        → Contains (map (λ a. a.0) asks) q × (test q ≡ false)
    given_fails f [] last q i asked here = absurd (contains_none q here)
    given_fails f ((p, true) ∷ asks) last q i asked here =
        let one = says f p true asked.0 i asked.1 in
        let (there, fails) = given_fails asked.0 asks last q one.1 asked.2 here in
        (contains_tail p q (map (λ a. a.0) asks) there, fails)
    given_fails f ((p, false) ∷ asks) last q i asked here =
        let one = says f p false asked.0 i asked.1 in
        elim (contains_cases p q (map (λ a. a.0) (filter (λ a. not a.1) asks)) here) [
          | inl same ↦ (subst (Contains (p ∷ map (λ a. a.0) asks)) same (contains_head p (map (λ a. a.0) asks)), sym (one.0 ∙ ap test same))
          | inr behind ↦
              let (there, fails) = given_fails asked.0 asks last q one.1 asked.2 behind in
              (contains_tail p q (map (λ a. a.0) asks) there, fails)
        ]

    -- items that pass stay under their indexes, and those selected that fail are gone
    module _ (lists : Store T → List ℕ → Type 0) (f : F) (old new : Store T) (last : F) (i : I f)
        (retains : RetainsSelected lists ask f old new last) (ix : ℕ) (item : T) (live : get old ix ≡ Some item)
      where
        pub RetainsSelected-stays : test (ix, item) ≡ true → get new ix ≡ Some item
        RetainsSelected-stays passes =
            retains.others ix (λ rejected.
            let (x, there, fails) = rejected_fails f retains.asks last ix i retains.were_asked rejected in
            let listed = subst (λ l. Contains l (ix, x)) retains.each_once there in
            let one : Some x ≡ Some item = sym (pair_live old retains.indexes ix x listed) ∙ live in
            let same : x ≡ item = cc in
            let other : test (ix, item) ≡ false = subst (λ z. test (ix, z) ≡ false) same fails in
            cc)
            ∙ live

        pub RetainsSelected-gone : Contains retains.indexes ix → test (ix, item) ≡ false → get new ix ≡ None
        RetainsSelected-gone listed fails =
            let asked = subst (λ l. Contains l (ix, item)) (sym retains.each_once) (live_pair old retains.indexes ix item listed live) in
            retains.gone ix (fails_rejected f retains.asks last (ix, item) i retains.were_asked asked fails)

    -- and the second closure gets only such pairs
    pub GivesRejected-tested :
        {G : Type 0} (lists : Store T → List ℕ → Type 0) (give : G → ℕ × T → G → Type 0) (f : F) (gone : G)
        (old new : Store T)
        → I f
        → (gives : GivesRejected lists ask give f gone old new)
        → (pairs : List (ℕ × T)) × (last : G) × FoldsTo give gone pairs last
        × ((ix : ℕ) (x : T) → Contains pairs (ix, x)
        → Contains gives.indexes ix × (get old ix ≡ Some x) × (test (ix, x) ≡ false))
    GivesRejected-tested lists give f gone old new i gives = (
      map (λ a. a.0) (filter (λ a. not a.1) gives.asks),
      gives.last_gone,
      gives.given,
      λ ix x here.
          let (there, fails) = given_fails f gives.asks gives.last (ix, x) i gives.were_asked here in
          let listed = subst (λ l. Contains l (ix, x)) gives.each_once there in
          (pair_listed old gives.indexes ix x listed, pair_live old gives.indexes ix x listed, fails),
    )
