-- What tables by two or three keys report of an item that shares keys with others, as the laws of a key index say it.
use Rattle.std.specs.Prelude.{◌≡◌, ◌≤◌, ◌↔◌, ℕ, Bool, List, Option, Some, None, IsSome, length}
use Rattle.std.proofs.Common.{inl, inr, refl}
use Rattle.std.specs.List.{Contains}
use Rattle.iddqd.specs.Store.{Store}
use Rattle.iddqd_keys.specs.Scan.{IsHit}
use Rattle.iddqd_map.specs.OneKey.{IsReported}
use Rattle.iddqd_map.specs.OneKeyLaws.{reported_one, few_one}
use Rattle.iddqd_map.specs.PairConflict.{ReportBoth, IsReportedBy, IsEither}
use Rattle.iddqd_map.specs.PairLaws.{reported_by_one, reported_both, reported_some, few_by_one, few_both}
use Rattle.iddqd_map.specs.Several.{either_key}
use Rattle.iddqd_map.specs.ThreeKeys.{any_key, AreReported}
use Rattle.iddqd_map.specs.declared.tri_hash_map.clash.TriClash.{TriClash}

-- the index is this one
abbrev pub IsIt : ℕ → ℕ → Type 0
IsIt at ix = ix ≡ at

-- the index is one of two that were reported, if they were
abbrev pub IsOfTwo : Option ℕ → Option ℕ → ℕ → Type 0
IsOfTwo a b = IsEither (IsReportedBy IsIt a) (IsReportedBy IsIt b)

-- the index is one of three
abbrev pub IsOfThree : Option ℕ → Option ℕ → Option ℕ → ℕ → Type 0
IsOfThree a b c = IsEither (IsReportedBy IsIt a) (IsOfTwo b c)

-- for two keys at most two indexes are reported, for three at most three
pub few_two :
    (a b : Option ℕ)
    → (l : List ℕ) × (length l ≤ 2) × ((ix : ℕ) → IsOfTwo a b ix → Contains l ix)
few_two a b =
    few_both (IsReportedBy IsIt a) (IsReportedBy IsIt b) 1 1 (few_by_one IsIt 1 few_one a) (few_by_one IsIt 1 few_one b)

pub few_three :
    (a b c : Option ℕ)
    → (l : List ℕ) × (length l ≤ 3) × ((ix : ℕ) → IsOfThree a b c ix → Contains l ix)
few_three a b c = few_both (IsReportedBy IsIt a) (IsOfTwo b c) 1 2 (few_by_one IsIt 1 few_one a) (few_two b c)

-- what was found is reported
found_it : (found : Option ℕ) → IsSome found → (ix : ℕ) × IsReportedBy IsIt found ix
found_it (Some at) is = (at, refl)
found_it None is = absurd (cc)

module _ {T : Type 0} (s : Store T) (item : T) where
  reported_key :
      (key : T → T → Bool) (at : ℕ)
      → IsReported key s item at
      → (ix : ℕ)
      → IsIt at ix ↔ IsHit s (key item) ix
  reported_key key at is ix = reported_one s (key item) at is ix

  some_key : (key : T → T → Bool) (at : ℕ) → IsReported key s item at → (ix : ℕ) × IsIt at ix
  some_key key at is = (at, refl)

  module _ (first second : T → T → Bool) where
    -- for two keys, exactly the items that share one of them are reported
    pub reported_two :
        (a b : Option ℕ)
        → ReportBoth first second (IsReported first) (IsReported second) s item a b
        → (ix : ℕ)
        → IsOfTwo a b ix ↔ IsHit s (either_key first second item) ix
    reported_two a b reported ix =
        reported_both first second s item (IsReportedBy IsIt a) (IsReportedBy IsIt b) ix
        (reported_by_one IsIt first (IsReported first) s item (reported_key first) a reported.first ix)
        (reported_by_one IsIt second (IsReported second) s item (reported_key second) b reported.second ix)

    -- and at least one
    pub some_two :
        (a b : Option ℕ)
        → ReportBoth first second (IsReported first) (IsReported second) s item a b
        → (ix : ℕ) × IsOfTwo a b ix
    some_two a b reported =
        reported_some IsIt IsIt (IsReported first) (IsReported second) s item first second
        (some_key first) (some_key second) a b
        reported

  module _ (first second third : T → T → Bool) where
    -- for three keys, exactly the items that share one of them are reported
    pub reported_three :
        (at : TriClash)
        → AreReported first second third s item at
        → (ix : ℕ)
        → IsOfThree at.key1 at.key2 at.key3 ix ↔ IsHit s (any_key first second third item) ix
    reported_three at reported ix =
        reported_both first (either_key second third) s item (IsReportedBy IsIt at.key1) (IsOfTwo at.key2 at.key3) ix
        (reported_by_one IsIt first (IsReported first) s item (reported_key first) at.key1 reported.first ix)
        (reported_both second third s item (IsReportedBy IsIt at.key2) (IsReportedBy IsIt at.key3) ix
        (reported_by_one IsIt second (IsReported second) s item (reported_key second) at.key2 reported.second ix)
        (reported_by_one IsIt third (IsReported third) s item (reported_key third) at.key3 reported.third ix))

    pub some_three :
        (at : TriClash)
        → AreReported first second third s item at
        → (ix : ℕ) × IsOfThree at.key1 at.key2 at.key3 ix
    some_three at reported =
        elim reported.some [
          | inl one ↦ let (ix, is) = found_it at.key1 one in (ix, inl is)
          | inr last ↦
              elim last [
                | inl two ↦ let (ix, is) = found_it at.key2 two in (ix, inr (inl is))
                | inr three ↦ let (ix, is) = found_it at.key3 three in (ix, inr (inr is))
              ]
        ]
