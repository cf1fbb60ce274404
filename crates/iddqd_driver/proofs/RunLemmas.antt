-- For callers: how a run goes on by one step, and what holds at its quiet moments.
use Rattle.std.proofs.Common.{◌≡◌, ◌∙◌, ◌<◌, ◌≤◌, ℕ, List, [], ◌∷◌, ◌++◌, Some, None, Ok, Err, inl, inr, refl, ap, subst, arith}
use Rattle.std.specs.List.{All}
use Rattle.std.proofs.lemmas.List.Elements.{All-cons, All-nil, All-head, All-tail}
use Rattle.iddqd.specs.Store.{Store, live_count}
use Rattle.iddqd_driver.specs.Keys.{Keys}
use Rattle.iddqd_driver.specs.State.{State, IsPaired, IsEmpty}
use Rattle.iddqd_driver.specs.KeyIndexes.{IsInSync, AreInSync, ChangesKey, AsScan, first_key_index, second_key_index}
use Rattle.iddqd_driver.specs.Machine.{Answers, Step}
use Rattle.iddqd_driver.specs.Run.{Run, IsStepChain, No_step, Next_step, IsQuietAfter, IsExactFrom, IsInSyncWhereQuiet, IsSilentChange, AnswersAsScan}
use Rattle.iddqd_driver.specs.Memory.{Memory, SizedState, IsNoLower, TakesForOne, StepsInMemory, RefusesMemory, IsServedBelow, RunsInMemory, capacity, room}
use Rattle.iddqd_driver.specs.declared.command.Command.{Command}
use Rattle.iddqd_driver.specs.declared.command.Command.TheVariants.{Insert, Find1, Find2, Remove, Remove1, Remove2, Overwrite, Compact, Clear, Walk}
use Rattle.iddqd_driver.specs.declared.command.Reply.{Reply}
use Rattle.iddqd_driver.specs.declared.command.Reply.TheVariants.{Inserted, Refused, Found, Removed, Overwritten, Compacted, Cleared, Walked, NoMemory}
use Rattle.iddqd_driver.proofs.KeepsLemmas.{FirstKeysInSync-bare, SecondKeysInSync-bare}

module _ {T S K1 K2 : Type 0} (keys : Keys T K1 K2 S) where
  -- a chain goes on by one step
  pub IsStepChain-push :
      {old mid new : State T S} {commands : List (Command T K1 K2)} {replies : List (Reply T)}
      {moments : List (State T S)} {command : Command T K1 K2} {reply : Reply T}
      → IsStepChain keys old commands replies moments mid → Step keys mid command reply new
      → IsStepChain keys old (commands ++ command ∷ []) (replies ++ reply ∷ []) (moments ++ new ∷ []) new
  IsStepChain-push No_step step = Next_step step No_step
  IsStepChain-push (Next_step first rest) step = Next_step first (IsStepChain-push rest step)

  -- along a chain from a paired state, each moment is paired
  pub paired_along :
      {old new : State T S} {commands : List (Command T K1 K2)} {replies : List (Reply T)} {moments : List (State T S)}
      → IsStepChain keys old commands replies moments new → IsPaired old → All IsPaired (old ∷ moments)
  paired_along {old = old} No_step was = All-cons IsPaired old [] was (All-nil IsPaired)
  paired_along {old = old} {moments = moments} (Next_step step rest) was =
      All-cons IsPaired old moments was (paired_along rest step.paired.1)

  -- what holds where nothing is live, has exact answers, and is kept by each step that makes no change, holds at each
  -- quiet moment, with exact answers
  module _
      (Changed : State T S → Command T K1 K2 → Type 0) (Holds : State T S → Type 0)
      (Exact : Store T → Command T K1 K2 → Reply T → Type 0)
      (bare : (s : State T S) → IsPaired s → IsEmpty s → Holds s)
      (steps : (old new : State T S) (command : Command T K1 K2) (reply : Reply T) → Step keys old command reply new
      → Holds old → Exact old.store command reply × ((Changed old command → ⊥) → Holds new)) where
    pub exact_along :
        (is_quiet : Type 0) {old new : State T S} {commands : List (Command T K1 K2)} {replies : List (Reply T)}
        {moments : List (State T S)} → IsStepChain keys old commands replies moments new → (is_quiet → Holds old)
        → IsExactFrom Changed Holds Exact is_quiet old commands replies moments
    exact_along is_quiet No_step was = was
    exact_along is_quiet {old = old} (Next_step {next = next} {command = command} {reply = reply} step rest) was =
        let stepped = steps old next command reply step in (
          λ quiet. (was quiet, (stepped (was quiet)).0),
          exact_along (IsQuietAfter Changed Holds Exact is_quiet old command next) rest (λ now. elim now [
            | inl none ↦ bare next step.paired.1 none
            | inr quiet ↦ (stepped (was quiet.0)).1 quiet.1
          ]),
        )

    pub exact_from_start :
        {old new : State T S} {commands : List (Command T K1 K2)} {replies : List (Reply T)}
        {moments : List (State T S)} → IsStepChain keys old commands replies moments new → IsPaired old
        → IsInSyncWhereQuiet Changed Holds Exact old commands replies moments
    exact_from_start {old = old} chain paired =
        exact_along _ chain (λ now. elim now [ inl none ↦ bare old paired none | inr holds ↦ holds ])

  unfoldable pub Run-from_chain :
      {old new : State T S} {commands : List (Command T K1 K2)} {replies : List (Reply T)} {moments : List (State T S)}
      → IsStepChain keys old commands replies moments new → IsPaired old → Run keys old commands replies new
  Run-from_chain {moments = moments} chain paired =
      let first = first_key_index keys in
      let second = second_key_index keys in
      record {
        moments = moments;
        steps = chain;
        paired = paired_along chain paired;
        quiet = exact_from_start (IsSilentChange keys) (AreInSync keys) (AnswersAsScan keys)
            (λ s p none.
            record { first = FirstKeysInSync-bare keys s p none; second = SecondKeysInSync-bare keys s p none })
            (λ old new command reply step o. (
              (step.first_keys.as_scan o.first, step.second_keys.as_scan o.second),
              λ none. record {
                first = (step.first_keys.keeps (λ change. none (inl change))).in_sync o.first;
                second = (step.second_keys.keeps (λ change. none (inr change))).in_sync o.second;
              },
            ))
            chain paired;
        quiet_first_keys = exact_from_start (ChangesKey first) (IsInSync first) (AsScan first) (FirstKeysInSync-bare keys)
            (λ old new command reply step o.
            (step.first_keys.as_scan o, λ none. (step.first_keys.keeps none).in_sync o))
            chain paired;
        quiet_second_keys =
            exact_from_start (ChangesKey second) (IsInSync second) (AsScan second) (SecondKeysInSync-bare keys)
            (λ old new command reply step o.
            (step.second_keys.as_scan o, λ none. (step.second_keys.keeps none).in_sync o))
            chain paired;
      }

-- ---- the memory of a run

module _ {T S K1 K2 : Type 0} (keys : Keys T K1 K2 S) where
  -- no command changes how many slots there can be
  limit_stays : (old new : State T S) (command : Command T K1 K2) (reply : Reply T) → Answers keys old command reply new
      → new.store.limit ≡ old.store.limit
  limit_stays old new (Insert item) (Inserted ix) did = ap (λ (s : State T S). s.store.limit) did.stored.state
  limit_stays old new (Insert item) (Refused refusal) did = ap (λ (s : State T S). s.store.limit) did.unchanged
  limit_stays old new (Find1 key) (Found found) did = ap (λ (s : State T S). s.store.limit) did.1
  limit_stays old new (Find2 key) (Found found) did = ap (λ (s : State T S). s.store.limit) did.1
  limit_stays old new (Remove ix) (Removed (Some (at, item))) did = ap (λ (s : State T S). s.store.limit) did.1.1
  limit_stays old new (Remove ix) (Removed None) did = ap (λ (s : State T S). s.store.limit) did.1
  limit_stays old new (Remove1 key) (Removed (Some (ix, item))) did = ap (λ (s : State T S). s.store.limit) did.1.1
  limit_stays old new (Remove1 key) (Removed None) did = ap (λ (s : State T S). s.store.limit) did.1
  limit_stays old new (Remove2 key) (Removed (Some (ix, item))) did = ap (λ (s : State T S). s.store.limit) did.1.1
  limit_stays old new (Remove2 key) (Removed None) did = ap (λ (s : State T S). s.store.limit) did.1
  limit_stays old new (Overwrite ix item) (Overwritten (Ok was)) did = ap (λ (s : State T S). s.store.limit) did.1
  limit_stays old new (Overwrite ix item) (Overwritten (Err back)) did = ap (λ (s : State T S). s.store.limit) did.2
  limit_stays old new Compact (Compacted remap) did = ap (λ (s : State T S). s.store.limit) did.1.state
  limit_stays old new Compact NoMemory did = ap (λ (s : State T S). s.store.limit) did.1
  limit_stays old new Clear Cleared did = ap (λ (s : State T S). s.store.limit) did
  limit_stays old new Walk (Walked indexes) did = ap (λ (s : State T S). s.store.limit) did.1
  limit_stays old new Walk NoMemory did = ap (λ (s : State T S). s.store.limit) did.1
  limit_stays old new command reply did = absurd did

  -- along a chain either
  limit_stays_along :
      {old new : State T S} {commands : List (Command T K1 K2)} {replies : List (Reply T)} {moments : List (State T S)}
      → IsStepChain keys old commands replies moments new → new.store.limit ≡ old.store.limit
  limit_stays_along No_step = refl
  limit_stays_along {old = old} (Next_step {next = next} {command = command} {reply = reply} step rest) =
      limit_stays_along rest ∙ limit_stays old next command reply step.answers

  IsServedBelow-push :
      (n : ℕ) {old mid : State T S} {commands : List (Command T K1 K2)} {replies : List (Reply T)}
      {moments : List (State T S)} (reply : Reply T) (new : State T S)
      → IsStepChain keys old commands replies moments mid
      → IsServedBelow n old replies moments
      → (live_count mid.store < n → RefusesMemory reply → ⊥)
      → IsServedBelow n old (replies ++ reply ∷ []) (moments ++ new ∷ [])
  IsServedBelow-push n reply new No_step served last = (last, tt)
  IsServedBelow-push n reply new (Next_step step rest) served last =
      (served.0, IsServedBelow-push n reply new rest served.1 last)

  -- where there was room at first, there still is
  room_still : (old mid : SizedState T S) → mid.state.store.limit ≡ old.state.store.limit
      → IsNoLower old.memory mid.memory → live_count mid.state.store < capacity old → 1 ≤ room mid
  room_still old mid limit no_lower fewer = rw limit (omega (arith, no_lower))

  -- one more step in memory
  pub IsServedBelow-step :
      {old mid new : SizedState T S} {commands : List (Command T K1 K2)} {replies : List (Reply T)}
      {moments : List (State T S)} {command : Command T K1 K2} {reply : Reply T}
      → IsStepChain keys old.state commands replies moments mid.state → IsNoLower old.memory mid.memory
      → IsServedBelow (capacity old) old.state replies moments → StepsInMemory mid command reply new
      → IsServedBelow (capacity old) old.state (replies ++ reply ∷ []) (moments ++ new.state ∷ [])
  IsServedBelow-step {old = old} {mid = mid} {new = new} {reply = reply} chain no_lower served step =
      IsServedBelow-push (capacity old) reply new.state chain served
      (λ fewer. step.not_refused (room_still old mid (limit_stays_along chain) no_lower fewer))

  -- what holds of all moments with some more holds of the last, and of those
  all_before :
      (P : State T S → Type 0) (rest : List (State T S)) {old mid : State T S} {commands : List (Command T K1 K2)}
      {replies : List (Reply T)} {moments : List (State T S)} → IsStepChain keys old commands replies moments mid
      → All P (old ∷ (moments ++ rest)) → P mid × All P (old ∷ moments)
  all_before P rest {old = old} No_step all =
      let first = All-head P old rest all in
      (first, All-cons P old [] first (All-nil P))
  all_before P rest {old = old} (Next_step {next = next} {moments = moments} step chain) all =
      let later = all_before P rest chain (All-tail P old (next ∷ (moments ++ rest)) all) in
      (later.0, All-cons P old (next ∷ moments) (All-head P old (next ∷ (moments ++ rest)) all) later.1)

  taken_after :
      (limit most items : ℕ) (old mid new : Memory) → items ≤ most → TakesForOne limit most old mid
      → TakesForOne limit items mid new → TakesForOne limit most old new
  taken_after limit most items old mid new fewer first second = record {
    slots = omega (arith, first.slots, second.slots, fewer);
    cells = omega (arith, first.cells, second.cells, fewer);
  }

  -- what one more step takes
  pub TakesForOne-step :
      {old mid new : SizedState T S} {commands : List (Command T K1 K2)} {replies : List (Reply T)}
      {moments : List (State T S)} {command : Command T K1 K2} {reply : Reply T}
      → IsStepChain keys old.state commands replies moments mid.state
      → ((most : ℕ) → All (λ s. live_count s.store ≤ most) (old.state ∷ moments)
      → TakesForOne old.state.store.limit most old.memory mid.memory)
      → StepsInMemory mid command reply new → (most : ℕ)
      → All (λ s. live_count s.store ≤ most) (old.state ∷ (moments ++ new.state ∷ []))
      → TakesForOne old.state.store.limit most old.memory new.memory
  TakesForOne-step {old = old} {mid = mid} {new = new} chain few step most all =
      let within = λ (s : State T S). live_count s.store ≤ most in
      let before = all_before within (new.state ∷ []) chain all in
      taken_after old.state.store.limit most (live_count mid.state.store) old.memory mid.memory new.memory before.0
      (few most before.1)
      (subst (λ n. TakesForOne n (live_count mid.state.store) mid.memory new.memory) (limit_stays_along chain) step.few)

  pub RunsInMemory-from_chain :
      {old new : SizedState T S} {commands : List (Command T K1 K2)} {replies : List (Reply T)}
      {moments : List (State T S)} → IsStepChain keys old.state commands replies moments new.state
      → IsPaired old.state → IsNoLower old.memory new.memory
      → IsServedBelow (capacity old) old.state replies moments
      → ((most : ℕ) → All (λ s. live_count s.store ≤ most) (old.state ∷ moments)
      → TakesForOne old.state.store.limit most old.memory new.memory)
      → RunsInMemory keys old commands replies new
  unfolding Run-from_chain
  RunsInMemory-from_chain {moments = moments} chain paired no_lower served few = record {
    run = Run-from_chain keys {moments = moments} chain paired;
    no_lower = no_lower;
    served = served;
    few = few;
  }

  -- For callers: where at each moment there are fewer items than the capacity at the start, no item of a run is
  -- refused for want of memory.
  none_refused_along :
      (n : ℕ) {old new : State T S} {commands : List (Command T K1 K2)} {replies : List (Reply T)}
      {moments : List (State T S)} → IsStepChain keys old commands replies moments new
      → IsServedBelow n old replies moments → All (λ s. live_count s.store < n) (old ∷ moments)
      → All (λ reply. RefusesMemory reply → ⊥) replies
  none_refused_along n No_step served fewer = All-nil (λ reply. RefusesMemory reply → ⊥)
  none_refused_along n {old = old}
      (Next_step {next = next} {reply = reply} {replies = replies} {moments = moments} step rest) served fewer =
      let below = λ (s : State T S). live_count s.store < n in
      All-cons (λ reply. RefusesMemory reply → ⊥) reply replies (served.0 (All-head below old (next ∷ moments) fewer))
      (none_refused_along n rest served.1 (All-tail below old (next ∷ moments) fewer))

  pub none_refused :
      (old new : SizedState T S) (commands : List (Command T K1 K2)) (replies : List (Reply T))
      (ran : RunsInMemory keys old commands replies new)
      → All (λ s. live_count s.store < capacity old) (old.state ∷ ran.run.moments)
      → All (λ reply. RefusesMemory reply → ⊥) replies
  none_refused old new commands replies ran fewer = none_refused_along (capacity old) ran.run.steps ran.served fewer
