-- What callers say of an item that is added, is exchanged or takes over follows from what a map promises.
use Rattle.std.proofs.Common.{◌≡◌, ◌∙◌, inl, inr, ℕ, Bool, false, List, Option, Some, None, refl, sym, ap, subst}
use Rattle.std.specs.Prelude.{Result, Ok, Err, IfOk, IfErr, OnErr}
use Rattle.iddqd_maps.specs.Calls.{Changes, Inserts, Overwrites, Replaces, ReplacesAt, ReplacesIfLive}
use Rattle.iddqd_maps.specs.Map.{MapState}
use Rattle.iddqd_maps.specs.OneKey.{OverwritesOne}
use Rattle.iddqd_maps.specs.Scan.{AnswersScan}
use Rattle.iddqd_maps.specs.Several.{HasNoOther}
use Rattle.iddqd_maps.specs.Store.{Store, rebound}
use Rattle.iddqd_maps.specs.declared.refusal.InsertRefusal.{InsertRefusal}
use Rattle.iddqd_maps.specs.declared.refusal.InsertRefusal.TheVariants.{Duplicate as Shared, Full, Memory as NoBlock}
use Rattle.iddqd_maps.specs.declared.refusal.OverwriteRefusal.{OverwriteRefusal}
use Rattle.iddqd_maps.specs.declared.refusal.OverwriteRefusal.TheVariants.{Full as NoSlot, Memory as NoMemory}
use Rattle.iddqd_maps.specs.declared.refusal.ReplaceRefusal.{ReplaceRefusal}
use Rattle.iddqd_maps.specs.declared.refusal.ReplaceRefusal.TheVariants.{Missing, Duplicate, Memory}
use Rattle.uses.specs.Exchanges.{Exchanges, ExchangesIfFound, IsWhyNot, IsWhyNotAdded, IsWhyNotAt, IsWhyNotChanged, IsWhyNotTakenOver, TakesOver, TakesOverOne}

module _ {T : Type 0} (alike : T → T → Bool) (most : ℕ → ℕ) (places : ℕ) (item : T) (old new : MapState T) where
  pub takes_over :
      (result : Result (ℕ × List (Option (ℕ × T))) (OverwriteRefusal T))
      → Overwrites alike most false places old item result new
      → IfOk result (λ taken. TakesOver alike places item old taken.0 taken.1 new)
  takes_over (Ok (ix, back)) out =
      record {
        removed = out.conflicts;
        each = out.are_conflicts.each;
        rising = out.are_conflicts.rising;
        given_back = out.items;
        index = out.index;
        left = out.stored;
        memory = λ at hit. out.same_memory (λ none. none at hit);
      }
  takes_over (Err refusal) out = tt

  pub not_taken_over :
      (result : Result (ℕ × List (Option (ℕ × T))) (OverwriteRefusal T))
      → Overwrites alike most false places old item result new
      → IfErr result (IsWhyNotTakenOver alike item old)
  not_taken_over (Ok taken) out = tt
  not_taken_over (Err (NoSlot back)) out = (out.given_back, out.no_conflict, out.full)
  not_taken_over (Err (NoMemory back)) out =
      elim out [
        | inl refused ↦ (refused.given_back, refused.no_conflict, refused.no_room)
        | inr never ↦ let lacks = never.lacks in absurd (cc)
      ]

module _
    {T C : Type 0} (alike same : T → T → Bool) (may_need_memory : Bool) (taken : Store T → ℕ → T → C → Type 0)
    (old new : MapState T)
  where
    pub exchanges :
        (test : T → Bool) (item : T) (result : Result T (ReplaceRefusal T C))
        → Replaces alike same may_need_memory taken old test item result new
        → IfOk result (λ was. Exchanges alike test item old was new)
    exchanges test item (Ok was) (ix, only, becomes) =
        record {
          ix = ix;
          found = record { live = becomes.live; only = only };
          unlike = becomes.no_other;
          left = becomes.left;
          memory = becomes.memory;
        }
    exchanges test item (Err refusal) replaces = tt

    not_at :
        (ix : ℕ) (item : T) (refusal : ReplaceRefusal T C)
        → ReplacesAt alike same may_need_memory taken old ix item (Err refusal) new
        → IsWhyNotAt taken may_need_memory ix item old refusal
    not_at ix item (Missing back) never = absurd never
    not_at ix item (Duplicate back at) (given, others, stays) = (given, others)
    not_at ix item (Memory back) (given, lacks, stays) = (given, lacks.lacks, lacks.past)

    pub not_exchanged :
        (test : T → Bool) (item : T) (result : Result T (ReplaceRefusal T C))
        → Replaces alike same may_need_memory taken old test item result new
        → IfErr result (IsWhyNot taken may_need_memory test item old)
    not_exchanged test item (Ok was) replaces = tt
    not_exchanged test item (Err (Missing back)) (given, none, stays) = (given, none)
    not_exchanged test item (Err (Duplicate back at)) (ix, only, why) = (ix, only, not_at ix item (Duplicate back at) why)
    not_exchanged test item (Err (Memory back)) (ix, only, why) = (ix, only, not_at ix item (Memory back) why)

    pub not_exchanged_at :
        (ix : ℕ) (item : T) (result : Result T (ReplaceRefusal T C))
        → ReplacesIfLive alike same may_need_memory taken old ix item result new
        → IfErr result (IsWhyNotAt taken may_need_memory ix item old)
    not_exchanged_at ix item (Ok was) replaces = tt
    not_exchanged_at ix item (Err (Missing back)) (given, none, stays) = (given, none)
    not_exchanged_at ix item (Err (Duplicate back at)) (live, why) = not_at ix item (Duplicate back at) why
    not_exchanged_at ix item (Err (Memory back)) (live, why) = not_at ix item (Memory back) why

    -- `becomes` is what a closure makes of an item
    pub changes :
        (gives : T → T → Type 0) (becomes : T → T) (test : T → Bool) (result : Result (Option T) (ReplaceRefusal T C))
        → Changes alike same may_need_memory taken gives old test result new
        → ((was item : T) → gives was item → item ≡ becomes was)
        → IfOk result (λ found. ExchangesIfFound alike test becomes old found new)
    changes gives becomes test (Ok None) none makes = none
    changes gives becomes test (Ok (Some was)) (ix, only, (one, item, live, gave, stands)) makes =
        let here : Some one ≡ Some was = sym live ∙ stands.live in
        let same_one : one ≡ was = cc in
        let is : item ≡ becomes was = subst (λ x. item ≡ becomes x) same_one (makes one item gave) in
        record {
          ix = ix;
          found = record { live = stands.live; only = only };
          unlike = subst (λ x. HasNoOther old.store (alike x) ix) is stands.no_other;
          left = stands.left ∙ ap (rebound old.store ix) is;
          memory = stands.memory;
        }
    changes gives becomes test (Err refusal) out makes = tt

    pub not_changed :
        (gives : T → T → Type 0) (becomes : T → T) (test : T → Bool) (result : Result (Option T) (ReplaceRefusal T C))
        → Changes alike same may_need_memory taken gives old test result new
        → ((was item : T) → gives was item → item ≡ becomes was)
        → IfErr result (IsWhyNotChanged taken may_need_memory test becomes old)
    not_changed gives becomes test (Ok found) out makes = tt
    not_changed gives becomes test (Err refusal) (ix, only, (was, item, live, gave, why)) makes = (
      ix,
      was,
      record { live = live; only = only },
      subst (λ x. IsWhyNotAt taken may_need_memory ix x old refusal) (makes was item gave) (not_at ix item refusal why),
    )

    pub unchanged :
        (gives : T → T → Type 0) (test : T → Bool) (result : Result (Option T) (ReplaceRefusal T C))
        → Changes alike same may_need_memory taken gives old test result new
        → OnErr result (new ≡ old)
    unchanged gives test (Ok found) out = tt
    unchanged gives test (Err (Missing back)) (ix, only, (was, item, live, gave, never)) = absurd never
    unchanged gives test (Err (Duplicate back at)) (ix, only, (was, item, live, gave, (given, others, stays))) = stays
    unchanged gives test (Err (Memory back)) (ix, only, (was, item, live, gave, (given, lacks, stays))) = stays

-- of items with one key
module _ {T : Type 0} (alike : T → T → Bool) (most : ℕ → ℕ) (item : T) (old new : MapState T) where
  pub not_added :
      (result : Result ℕ (InsertRefusal T ℕ))
      → Inserts alike most (λ s x at. AnswersScan s (alike x) (Some at)) old item result new
      → IfErr result (IsWhyNotAdded alike item old)
  not_added (Ok ix) out = tt
  not_added (Err (Shared back at)) (given, scan, stays) = (given, (at, (scan at).1 refl))
  not_added (Err (Full back)) out = (out.given_back, out.no_conflict, out.full)
  not_added (Err (NoBlock back)) out = (out.given_back, out.no_conflict, out.no_room)

  pub sets :
      (result : Result (ℕ × Option T) (OverwriteRefusal T))
      → OverwritesOne alike most old item result new
      → IfOk result (λ set. TakesOverOne alike item old set.0 set.1 new)
  sets (Ok (ix, None)) out = (out.no_conflict, out.index, out.stored)
  sets (Ok (ix, Some was)) (only, left, memory) = (only, left, memory)
  sets (Err refusal) out = tt

  pub not_set :
      (result : Result (ℕ × Option T) (OverwriteRefusal T))
      → OverwritesOne alike most old item result new
      → IfErr result (IsWhyNotTakenOver alike item old)
  not_set (Ok set) out = tt
  not_set (Err (NoSlot back)) out = (out.given_back, out.no_conflict, out.full)
  not_set (Err (NoMemory back)) out = (out.given_back, out.no_conflict, out.no_room)
