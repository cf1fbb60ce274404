-- What callers say of a replacement by value follows from what a map promises of it.
use Rattle.std.proofs.Common.{◌≡◌, ◌∙◌, ℕ, Bool, Option, Some, None, ap, refl, subst}
use Rattle.std.specs.Fn.{Once}
use Rattle.std.specs.Prelude.{Result, Ok, Err, IfErr, IfNone, IfOk, IfSome, OnErr}
use Rattle.iddqd_maps.specs.Map.{MapState, RemovesHit}
use Rattle.iddqd_maps.specs.Remake.{Remakes, RemakesIfLive, Settles}
use Rattle.iddqd_maps.specs.Scan.{AnswersScan, HasNoHit}
use Rattle.iddqd_maps.specs.Several.{HitsOther}
use Rattle.iddqd_maps.specs.Store.{Store, get, rebound, removed}
use Rattle.iddqd_maps.specs.declared.refusal.InsertRefusal.{InsertRefusal}
use Rattle.iddqd_maps.specs.declared.refusal.InsertRefusal.TheVariants.{Duplicate, Full, Memory}
use Rattle.iddqd_maps.proofs.ScanLemmas.{live_before}
use Rattle.uses.specs.Exchanges.{IsWhyGoneAt, IsWhyGoneBy}
use Rattle.uses.specs.Updates.{UpdatesHit, UpdatesItem}

-- what hits after an item was taken out is another one, and hit before
pub hits_other :
    {T : Type 0} (s : Store T) (ix at : ℕ) (was : T) (test : T → Bool)
    → get s ix ≡ Some was
    → AnswersScan (removed s ix) test (Some at)
    → HitsOther s test ix
hits_other s ix at was test live scan =
    let (item, there, passes) = (scan at).1 refl in
    let (apart, before) = live_before s ix at was item live there in
    (at, apart, (item, before, passes))

-- why what the closure made comes back, if the item at the index was there and what is made of it is `becomes` of it
pub why_gone :
    {T : Type 0} {Met : T → T → Type 0} (alike : T → T → Bool) (may_need_memory : Bool) (becomes : T → T)
    (old : MapState T) (ix : ℕ) (new : MapState T) (refusal : InsertRefusal T ℕ)
    → ((was made : T) × (get old.store ix ≡ Some was) × Met was made
    × Settles alike may_need_memory (λ s item at. AnswersScan s (alike item) (Some at)) old ix made (Err refusal) new)
    → ((was made : T) → Met was made → made ≡ becomes was)
    → IsWhyGoneAt alike may_need_memory ix becomes old refusal
why_gone alike may_need_memory becomes old ix new (Duplicate back at) (was, made, live, met, (given, taken, gone)) makes =
    let other = hits_other old.store ix at was (alike made) live taken in (
      was,
      live,
      subst (λ x. (back ≡ x) × HitsOther old.store (alike x) ix) (makes was made met) (given, other),
    )
why_gone alike may_need_memory becomes old ix new (Full back) (was, made, live, met, never) makes = absurd never
why_gone alike may_need_memory becomes old ix new (Memory back) (was, made, live, met, (given, lacks, gone)) makes =
    (was, live, (given ∙ makes was made met, lacks.lacks, lacks.past))

-- What a replacement by a closure leaves, of items with one key. `Met was made` says that the closure made this of an
-- item, and `becomes` what that is.
module _
    {T : Type 0} (alike : T → T → Bool) (may_need_memory : Bool) (becomes : T → T) (old new : MapState T)
    (Met : T → T → Type 0)
  where
    abbrev closure : Once (Unit {0}) (T × Unit {0}) T
    closure = record { pre = λ f was. Unit {0}; post = λ f was made. Met was.0 made }

    abbrev Makes : Type 0
    Makes = (was made : T) → Met was made → made ≡ becomes was

    abbrev shares : Store T → T → ℕ → Type 0
    shares s item at = AnswersScan s (alike item) (Some at)

    -- the item at an index
    module _ (ix : ℕ) where
      abbrev DoneAt : Result (Option ℕ) (InsertRefusal T ℕ) → Type 0
      DoneAt result = RemakesIfLive alike may_need_memory shares closure tt old ix result new

      pub remade_at :
          (result : Result (Option ℕ) (InsertRefusal T ℕ))
          → DoneAt result
          → Makes
          → IfOk result (λ found. IfSome found (λ at. (at ≡ ix) × UpdatesItem old.store ix becomes new.store))
      remade_at (Ok None) done makes = tt
      remade_at (Ok (Some at)) (was, made, live, met, (here, placed)) makes =
          (here, (was, live, placed.left ∙ ap (rebound old.store ix) (makes was made met)))
      remade_at (Err refusal) done makes = tt

      pub missing_at :
          (result : Result (Option ℕ) (InsertRefusal T ℕ))
          → DoneAt result
          → IfOk result (λ found. IfNone found (get old.store ix ≡ None))
      missing_at (Ok None) done = done.0
      missing_at (Ok (Some at)) done = tt
      missing_at (Err refusal) done = tt

      pub not_remade_at :
          (result : Result (Option ℕ) (InsertRefusal T ℕ))
          → DoneAt result
          → Makes
          → IfErr result (IsWhyGoneAt alike may_need_memory ix becomes old)
      not_remade_at (Ok found) done makes = tt
      not_remade_at (Err refusal) done makes = why_gone alike may_need_memory becomes old ix new refusal done makes

    -- the one item that passes a test
    module _ (test : T → Bool) where
      abbrev Done : Result (Option ℕ) (InsertRefusal T ℕ) → Type 0
      Done result = Remakes alike may_need_memory shares closure tt old test result new

      pub remade :
          (result : Result (Option ℕ) (InsertRefusal T ℕ))
          → Done result
          → Makes
          → IfOk result (λ found. IfSome found (λ ix. UpdatesHit old.store test ix becomes new.store))
      remade (Ok None) done makes = tt
      remade (Ok (Some at)) (ix, scan, (was, made, live, met, (here, placed))) makes =
          let left = placed.left ∙ ap (rebound old.store ix) (makes was made met) in
          rw here (was, record { live = live; only = scan }, left)
      remade (Err refusal) done makes = tt

      pub missing :
          (result : Result (Option ℕ) (InsertRefusal T ℕ))
          → Done result
          → IfOk result (λ found. IfNone found (HasNoHit old.store test))
      missing (Ok None) done = done.0
      missing (Ok (Some at)) done = tt
      missing (Err refusal) done = tt

      pub not_remade :
          (result : Result (Option ℕ) (InsertRefusal T ℕ))
          → Done result
          → Makes
          → IfErr result (IsWhyGoneBy alike may_need_memory test becomes old)
      not_remade (Ok found) done makes = tt
      not_remade (Err refusal) (ix, scan, done) makes =
          let (was, live, why) = why_gone alike may_need_memory becomes old ix new refusal done makes in
          (ix, was, record { live = live; only = scan }, why)

      pub gone :
          (result : Result (Option ℕ) (InsertRefusal T ℕ))
          → Done result
          → OnErr result ((was : T) × RemovesHit old test was new)
      gone (Ok found) done = tt
      gone (Err (Duplicate back at)) (ix, scan, (was, made, live, met, (given, taken, left))) =
          (was, record { ix = ix; hit = record { live = live; only = scan }; left = left.left; memory = left.memory })
      gone (Err (Full back)) (ix, scan, (was, made, live, met, never)) = absurd never
      gone (Err (Memory back)) (ix, scan, (was, made, live, met, (given, lacks, left))) =
          (was, record { ix = ix; hit = record { live = live; only = scan }; left = left.left; memory = left.memory })
