-- What a replacement answers, from what look-ups and the map answer.
use Rattle.std.proofs.Common.{◌≡◌, ◌≢◌, ℕ, Bool, false, List, Option, Some, None, is_some, Err, true≢false}
use Rattle.iddqd.specs.Store.{Store}
use Rattle.iddqd_keys.specs.Scan.{AnswersScan, IsLive}
use Rattle.iddqd_map.specs.Calls.{ReplacesIfLive}
use Rattle.iddqd_map.specs.PairConflict.{ReportBothOther, first_of, second_of}
use Rattle.iddqd_map.specs.Several.{AnswersOther}
use Rattle.iddqd_map.specs.declared.pair_conflict.PairConflict.{PairConflict}
use Rattle.iddqd_map.specs.declared.refusal.ReplaceRefusal.{ReplaceRefusal}
use Rattle.iddqd_map.specs.declared.refusal.ReplaceRefusal.TheVariants.{Missing, Duplicate, Memory}
use Rattle.iddqd_c.proofs.AnswerLemmas.{alike_first}
use Rattle.iddqd_c.specs.Held.{Items, Taken}
use Rattle.iddqd_c.specs.Keys.{has_first}
use Rattle.iddqd_c.specs.Replacing.{IsAlone}
use Rattle.iddqd_c.specs.declared.entry.Entry.{Entry}

-- two look-ups of other entries that both missed
pub alone :
    (taken : Taken) (ix : ℕ) (bytes : List ℕ) (second : ℕ) (m : Items) (first other : Option ℕ)
    → IsLive m.store ix
    → is_some first ≡ false
    → is_some other ≡ false
    → AnswersOther m.store (has_first bytes) ix first
    → AnswersOther m.store (taken second) ix other
    → IsAlone taken ix bytes second m
alone taken ix bytes second m None None live no_first no_other by_first by_second =
    record { live = live; by_first = by_first; by_second = by_second }
alone taken ix bytes second m (Some at) other live no_first no_other by_first by_second = absurd (true≢false no_first)
alone taken ix bytes second m None (Some at) live no_first no_other by_first by_second = absurd (true≢false no_other)

-- what the map says of the other items that have a key of this one
abbrev pub taken_both :
    {D : Type 0} → (Entry → Entry → Bool) → (Store Entry → ℕ → Entry → D → Type 0)
    → Store Entry → ℕ → Entry → PairConflict ℕ D → Type 0
taken_both alike taken s ix item at =
    ReportBothOther alike_first alike (λ s ix item at. (at ≢ ix) × AnswersScan s (alike_first item) (Some at)) taken
    s ix item (first_of at) (second_of at)

-- a refusal changes nothing
pub stays :
    {C : Type 0} (alike same : Entry → Entry → Bool) (may : Bool) (taken : Store Entry → ℕ → Entry → C → Type 0)
    (old new : Items) (ix : ℕ) (item : Entry) (refusal : ReplaceRefusal Entry C)
    → ReplacesIfLive alike same may taken old ix item (Err refusal) new → new ≡ old
stays alike same may taken old new ix item (Missing back) out = out.2
stays alike same may taken old new ix item (Duplicate back at) out = out.1.2
stays alike same may taken old new ix item (Memory back) out = out.1.2
