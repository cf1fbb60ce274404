-- Runs of the keyed machine, and their quiet moments.
use Rattle.std.specs.Prelude.{List, [], ◌∷◌, ◌⊎◌, All}
use Rattle.iddqd.specs.Store.{Store}
use Rattle.iddqd_driver.specs.Keys.{Keys}
use Rattle.iddqd_driver.specs.State.{State, IsPaired, IsEmpty}
use Rattle.iddqd_driver.specs.KeyIndexes.{KeyIndex, IsInSync, AreInSync, ChangesKey, AsScan, first_key_index, second_key_index}
use Rattle.iddqd_driver.specs.Machine.{Step}
use Rattle.iddqd_driver.specs.declared.command.Command.{Command}
use Rattle.iddqd_driver.specs.declared.command.Reply.{Reply}

-- `ChangesKey` says which commands end a quiet time, `Holds` what holds at quiet moments, and `Exact` what is then
-- replied.
module _
    {T S K1 K2 : Type 0} (ChangesKey : State T S → Command T K1 K2 → Type 0) (Holds : State T S → Type 0)
    (Exact : Store T → Command T K1 K2 → Reply T → Type 0) where
  -- a later moment is quiet if nothing is live, or if the moment before is quiet and the command between changes no key
  abbrev pub IsQuietAfter : Type 0 → State T S → Command T K1 K2 → State T S → Type 0
  IsQuietAfter was_quiet old command new = IsEmpty new ⊎ (was_quiet × (ChangesKey old command → ⊥))

  -- at each quiet moment `Holds` holds and the reply is `Exact`; `is_quiet` says whether the first moment is quiet
  abbrev pub IsExactFrom :
      Type 0 → State T S → List (Command T K1 K2) → List (Reply T) → List (State T S) → Type 0
  IsExactFrom is_quiet moment (command ∷ commands) (reply ∷ replies) (next ∷ moments) =
      (is_quiet → Holds moment × Exact moment.store command reply)
      × IsExactFrom (IsQuietAfter is_quiet moment command next) next commands replies moments
  IsExactFrom is_quiet moment commands replies moments = is_quiet → Holds moment

  -- the same for a run, whose first moment is quiet if nothing is live or if `Holds` holds
  abbrev pub IsInSyncWhereQuiet :
      State T S → List (Command T K1 K2) → List (Reply T) → List (State T S) → Type 0
  IsInSyncWhereQuiet first = IsExactFrom (IsEmpty first ⊎ Holds first) first

-- the same for one key index alone: only changes of its own key end a quiet time
abbrev pub IsKeyIndexInSyncWhereQuiet :
    {T S K1 K2 K : Type 0} → KeyIndex T S K1 K2 K → State T S → List (Command T K1 K2) → List (Reply T)
    → List (State T S) → Type 0
IsKeyIndexInSyncWhereQuiet key_index = IsInSyncWhereQuiet (ChangesKey key_index) (IsInSync key_index) (AsScan key_index)

module _ {T S K1 K2 : Type 0} (keys : Keys T K1 K2 S) where
  -- the command replaces the item at a live index by one with another first or another second key
  abbrev pub IsSilentChange : State T S → Command T K1 K2 → Type 0
  IsSilentChange old command =
      ChangesKey (first_key_index keys) old command
      ⊎ ChangesKey (second_key_index keys) old command

  -- for either key index the reply is that of a scan of the live items
  abbrev pub AnswersAsScan : Store T → Command T K1 K2 → Reply T → Type 0
  AnswersAsScan s command reply =
      AsScan (first_key_index keys) s command reply
      × AsScan (second_key_index keys) s command reply

  -- from one state through these later moments to the last: a step to each moment, and a reply to each command
  pub data IsStepChain :
      State T S → List (Command T K1 K2) → List (Reply T) → List (State T S) → State T S → Type 0 where
    No_step : {s : State T S} → IsStepChain s [] [] [] s
    Next_step :
        {old next new : State T S} {command : Command T K1 K2} {reply : Reply T}
        {commands : List (Command T K1 K2)} {replies : List (Reply T)} {moments : List (State T S)}
        → Step keys old command reply next → IsStepChain next commands replies moments new
        → IsStepChain old (command ∷ commands) (reply ∷ replies) (next ∷ moments) new

  -- A run over a list of commands. Its steps say of every moment that hits have the key asked for, that a live index is
  -- removed whatever its keys are now, that compaction moves each index to its rank, and that an overwrite changes
  -- neither table. Both tables have each live index once and no other at every moment. From a moment without live
  -- indexes on (or from the first, if both tables are in sync) until a key is changed silently, both tables are in sync
  -- and every reply is that of a scan. The same holds for each key index alone until a key of that key index is
  -- changed, whatever happens to the other.
  pub record Run (old : State T S) (commands : List (Command T K1 K2)) (replies : List (Reply T)) (new : State T S)
      : Type 0 where
    pub moments : List (State T S)
    pub steps : IsStepChain old commands replies moments new
    pub paired : All IsPaired (old ∷ moments)
    pub quiet : IsInSyncWhereQuiet IsSilentChange (AreInSync keys) AnswersAsScan old commands replies moments
    pub quiet_first_keys : IsKeyIndexInSyncWhereQuiet (first_key_index keys) old commands replies moments
    pub quiet_second_keys : IsKeyIndexInSyncWhereQuiet (second_key_index keys) old commands replies moments
