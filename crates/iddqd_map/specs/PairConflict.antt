-- What the two key indexes of a pair report of an item that shares keys with others.
use Rattle.std.specs.Prelude.{◌⊎◌, ◌++◌, ℕ, Bool, List, Option, Some, None, IsSome, codes, min}
use Rattle.iddqd.specs.Store.{Store}
use Rattle.iddqd_keys.specs.Scan.{HasNoHit}
use Rattle.iddqd_map.specs.Several.{HasNoOther}
use Rattle.iddqd_map.specs.declared.pair_conflict.PairConflict.{PairConflict}
use Rattle.iddqd_map.specs.declared.pair_conflict.PairConflict.TheVariants.{First, Second, Both}

-- what each of the two reported, if it reported anything
module _ {A B : Type 0} where
  abbrev pub first_of : PairConflict A B → Option A
  first_of (First one) = Some one
  first_of (Second other) = None
  first_of (Both one other) = Some one

  abbrev pub second_of : PairConflict A B → Option B
  second_of (First one) = None
  second_of (Second other) = Some other
  second_of (Both one other) = Some other

-- two texts with a space between them, if both are known
abbrev pub spaced : Option (List ℕ) → Option (List ℕ) → Option (List ℕ)
spaced (Some one) (Some other) = Some (one ++ codes " " ++ other)
spaced (Some one) None = None
spaced None other = None

-- the text of what a pair reports, given those of what its two key indexes report
abbrev pub pair_conflict_text :
    {A B : Type 0} → (A → Option (List ℕ)) → (B → Option (List ℕ)) → PairConflict A B → Option (List ℕ)
pair_conflict_text text1 text2 (First one) = spaced (text1 one) (Some (codes "-"))
pair_conflict_text text1 text2 (Second other) = spaced (Some (codes "-")) (text2 other)
pair_conflict_text text1 text2 (Both one other) = spaced (text1 one) (text2 other)

module _ {T : Type 0} where
  -- what one key index reports: the items that an item is alike to, or that there is none
  abbrev pub Reports : {C : Type 0} → (T → T → Bool) → (Store T → T → C → Type 0) → Store T → T → Option C → Type 0
  Reports alike conflicts s item None = HasNoHit s (alike item)
  Reports alike conflicts s item (Some at) = conflicts s item at

  -- what the two key indexes report, at least one of them an item
  pub record ReportBoth
      {C D : Type 0} (alike1 alike2 : T → T → Bool) (conflicts1 : Store T → T → C → Type 0)
      (conflicts2 : Store T → T → D → Type 0) (s : Store T) (item : T) (one : Option C) (other : Option D)
      : Type 0 where
    pub first : Reports alike1 conflicts1 s item one
    pub second : Reports alike2 conflicts2 s item other
    pub some : IsSome one ⊎ IsSome other

  -- the same, of items other than the one at the index
  abbrev pub ReportsOther :
      {C : Type 0} → (T → T → Bool) → (Store T → ℕ → T → C → Type 0) → Store T → ℕ → T → Option C → Type 0
  ReportsOther alike taken s ix item None = HasNoOther s (alike item) ix
  ReportsOther alike taken s ix item (Some at) = taken s ix item at

  pub record ReportBothOther
      {C D : Type 0} (alike1 alike2 : T → T → Bool) (taken1 : Store T → ℕ → T → C → Type 0)
      (taken2 : Store T → ℕ → T → D → Type 0) (s : Store T) (ix : ℕ) (item : T) (one : Option C) (other : Option D)
      : Type 0 where
    pub first : ReportsOther alike1 taken1 s ix item one
    pub second : ReportsOther alike2 taken2 s ix item other
    pub some : IsSome one ⊎ IsSome other

-- one of the two, if it reported anything, reported the index
abbrev pub IsReportedBy : {C : Type 0} → (C → ℕ → Type 0) → Option C → ℕ → Type 0
IsReportedBy reports None ix = ⊥
IsReportedBy reports (Some at) ix = reports at ix

-- one or the other reported the index
abbrev pub IsEither : (ℕ → Type 0) → (ℕ → Type 0) → ℕ → Type 0
IsEither reported reported_too ix = reported ix ⊎ reported_too ix

-- the lesser of two indexes, or the one that there is
abbrev pub lesser_of : Option ℕ → Option ℕ → Option ℕ
lesser_of one None = one
lesser_of None (Some at) = Some at
lesser_of (Some ix) (Some at) = Some (min ix at)
