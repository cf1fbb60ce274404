-- For callers of either kind of table: what a store's steps leave apart, and what they do to a scan's answer.
use Rattle.std.proofs.Common.{◌≡◌, ◌≢◌, ◌∙◌, ◌⊎◌, inl, inr, ◌↔◌, ℕ, Bool, true, false, not, Option, Some, None, refl, sym, ap, subst}
use Rattle.std.proofs.lemmas.Bool.{cases_eq}
use Rattle.iddqd.specs.Store.{Store, IsValid, get, live_count, next_index, inserted, removed, rebound}
use Rattle.iddqd.specs.Compaction.{compacted, rank}
use Rattle.iddqd.proofs.StoreLemmas.{get-rebound_at, get-rebound_other}
use Rattle.iddqd.proofs.LiveLemmas.{none_live, get-removed_at, get-removed_other, get-inserted_at, get-inserted_other}
use Rattle.iddqd.proofs.CompactionLemmas.{live-compacted}
use Rattle.iddqd_keys.specs.Scan.{IsLive, IsHit, HasNoHit, AnswersScan, AreApart}

module _ {T : Type 0} where
  -- an index that is live after a removal is another one, and has what it had
  pub live_before :
      (s : Store T) (ix j : ℕ) (x y : T)
      → get s ix ≡ Some x
      → get (removed s ix) j ≡ Some y
      → (j ≢ ix) × (get s j ≡ Some y)
  live_before s ix j x y live is =
      let other : j ≢ ix = λ same. (let gone = get-removed_at s ix x live in let here = subst (λ k. get (removed s ix) k ≡ Some y) same is in cc) in
      (other, sym (get-removed_other s ix j other) ∙ is)

  -- what is live after an insert is the new item, or was live
  pub live_cases :
      (s : Store T) (item : T) (j : ℕ) (y : T)
      → IsValid s
      → get (inserted s item) j ≡ Some y
      → ((j ≡ next_index s) × (item ≡ y)) ⊎ ((j ≢ next_index s) × (get s j ≡ Some y))
  live_cases s item j y valid is =
      elim (cases_eq j (next_index s)) [
        | inl same ↦
            let here = get-inserted_at s item valid in
            let there = subst (λ k. get (inserted s item) k ≡ Some y) same is in
            inl (same, cc)
        | inr other ↦ inr (other, sym (get-inserted_other s item j other) ∙ is)
      ]

  -- a test that no other item fails at the index passes the item there
  pub passes_unless :
      (s : Store T) (test : T → Bool) (ix : ℕ) (was : T)
      → get s ix ≡ Some was
      → (IsHit s (λ x. not (test x)) ix → ⊥)
      → test was ≡ true
  passes_unless s test ix was live none =
      elim (test was) as (λ b. test was ≡ b → b ≡ true) [
        | true ↦ λ _. refl
        | false ↦ λ is. absurd (none (was, live, ap not is))
      ] refl

  -- a scan answers the index exactly where it hits
  pub scan_hits :
      (s : Store T) (test : T → Bool) (r : Option ℕ)
      → AnswersScan s test r
      → (ix : ℕ)
      → (r ≡ Some ix) ↔ IsHit s test ix
  scan_hits s test None none ix = (λ is. absurd (cc), λ hit. absurd (none ix hit))
  scan_hits s test (Some i) scan ix = (λ is. (scan ix).1 (cc), λ hit. ap Some (sym ((scan ix).0 hit)))

  -- where live items that are alike are one, and those that pass are alike, one that passes is a scan's answer
  pub AnswersScan-hit :
      (alike : T → T → Bool) (s : Store T) (test : T → Bool) (ix : ℕ)
      → ((x y : T) → test x ≡ true → test y ≡ true → alike x y ≡ true)
      → AreApart alike s
      → IsHit s test ix
      → AnswersScan s test (Some ix)
  AnswersScan-hit alike s test ix one apart hit = λ j. (
    λ other. apart j ix other.0 hit.0 other.1 hit.1 (one other.0 hit.0 other.2 hit.2),
    λ same. subst (IsHit s test) (sym same) hit,
  )

  -- a removal: what had no hit has none, and what had one alone has none once that is gone, or else the same
  module _ (s : Store T) (test : T → Bool) where
    pub HasNoHit-removed : (ix : ℕ) (item : T) → get s ix ≡ Some item → HasNoHit s test → HasNoHit (removed s ix) test
    HasNoHit-removed ix item live none j (y, is, passed) = none j (y, (live_before s ix j item y live is).1, passed)

    pub HasNoHit-hit_removed : (ix : ℕ) → AnswersScan s test (Some ix) → HasNoHit (removed s ix) test
    HasNoHit-hit_removed ix scan j (y, is, passed) =
        let (item, live, _) = (scan ix).1 refl in
        let was = live_before s ix j item y live is in
        was.0 ((scan j).0 (y, was.1, passed))

    pub AnswersScan-other_removed :
        (ix hit : ℕ) (item : T)
        → get s ix ≡ Some item
        → hit ≢ ix
        → AnswersScan s test (Some hit)
        → AnswersScan (removed s ix) test (Some hit)
    AnswersScan-other_removed ix hit item live other scan j = (
      λ h. (scan j).0 (h.0, (live_before s ix j item h.0 live h.1).1, h.2),
      λ same.
          let (y, is, passed) = (scan j).1 same in
          (y, get-removed_other s ix j (λ gone. other (sym same ∙ gone)) ∙ is, passed),
    )

  module _ (alike : T → T → Bool) (s : Store T) where
    pub AreApart-bare : live_count s ≡ 0 → AreApart alike s
    AreApart-bare none i j x y p q same = absurd (none_live s i x none p)

    pub AreApart-removed : (ix : ℕ) (item : T) → get s ix ≡ Some item → AreApart alike s → AreApart alike (removed s ix)
    AreApart-removed ix item live apart i j x y p q same =
        apart i j x y (live_before s ix i item x live p).1 (live_before s ix j item y live q).1 same

    pub AreApart-inserted :
        (item : T)
        → IsValid s
        → ((x y : T) → alike x y ≡ alike y x)
        → HasNoHit s (alike item)
        → AreApart alike s
        → AreApart alike (inserted s item)
    AreApart-inserted item valid turn none apart i j x y p q same =
        elim (live_cases s item i x valid p) [
          | inl a ↦ elim (live_cases s item j y valid q) [
            | inl b ↦ a.0 ∙ sym b.0
            | inr b ↦ absurd (none j (y, b.1, subst (λ z. alike z y ≡ true) (sym a.1) same))
          ]
          | inr a ↦ elim (live_cases s item j y valid q) [
            | inl b ↦ absurd (none i (x, a.1, turn item x ∙ subst (λ z. alike x z ≡ true) (sym b.1) same))
            | inr b ↦ apart i j x y a.1 b.1 same
          ]
        ]

    pub AreApart-compacted : AreApart alike s → AreApart alike (compacted s)
    AreApart-compacted apart i j x y p q same =
        let (ix, named, here) = live-compacted s i x p in
        let (jx, other, there) = live-compacted s j y q in
        sym named ∙ ap (rank s) (apart ix jx x y here there same) ∙ other

  -- a live index is given another item
  module _ (s : Store T) (ix : ℕ) (item was : T) (live : get s ix ≡ Some was) where
    -- what is live then is the new item, or was live
    pub rebound_cases :
        (j : ℕ) (y : T)
        → get (rebound s ix item) j ≡ Some y
        → ((j ≡ ix) × (item ≡ y)) ⊎ ((j ≢ ix) × (get s j ≡ Some y))
    rebound_cases j y is =
        elim (cases_eq j ix) [
          | inl same ↦
              let here = get-rebound_at s ix item was live in
              let there = subst (λ k. get (rebound s ix item) k ≡ Some y) same is in
              inl (same, cc)
          | inr other ↦ inr (other, sym (get-rebound_other s ix j item other) ∙ is)
        ]

    pub live_rebound : (j : ℕ) → IsLive (rebound s ix item) j ≡ IsLive s j
    live_rebound j =
        elim (cases_eq j ix) [
          | inl same ↦ rw (same, get-rebound_at s ix item was live, live) refl
          | inr other ↦ rw (get-rebound_other s ix j item other) refl
        ]

    pub AreApart-rebound :
        (alike : T → T → Bool)
        → ((x y : T) → alike x y ≡ alike y x)
        → ((x y z : T) → alike x y ≡ true → alike y z ≡ true → alike x z ≡ true)
        → alike item was ≡ true
        → AreApart alike s
        → AreApart alike (rebound s ix item)
    AreApart-rebound alike turn trans kept apart i j x y p q same =
        elim (rebound_cases i x p) [
          | inl a ↦ elim (rebound_cases j y q) [
            | inl b ↦ a.0 ∙ sym b.0
            | inr b ↦ a.0 ∙ apart ix j was y live b.1 (trans was item y (turn was item ∙ kept) (subst (λ z. alike z y ≡ true) (sym a.1) same))
          ]
          | inr a ↦ elim (rebound_cases j y q) [
            | inl b ↦ apart i ix x was a.1 live (trans x item was (subst (λ z. alike x z ≡ true) (sym b.1) same) kept) ∙ sym b.0
            | inr b ↦ apart i j x y a.1 b.1 same
          ]
        ]
