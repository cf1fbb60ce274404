-- One step of the keyed machine and its memory, from what the call that it makes answers and leaves.
use Rattle.std.proofs.Common.{◌≡◌, ◌≤◌, ℕ, Ok, Err, arith}
use Rattle.iddqd.specs.Store.{live_count}
use Rattle.iddqd_driver.specs.Keys.{Keys}
use Rattle.iddqd_driver.specs.State.{State}
use Rattle.iddqd_driver.specs.KeyIndexes.{first_key_index, second_key_index, IsInSync, AsScan, Keeps}
use Rattle.iddqd_driver.specs.Machine.{Answers, Step}
use Rattle.iddqd_driver.specs.declared.command.Command.{Command}
use Rattle.iddqd_driver.specs.Memory.{SizedState, InsertsInMemory, TakesForOne, StepsInMemory, RefusesMemory, room}
use Rattle.iddqd_driver.specs.declared.command.Command.TheVariants.{Insert}
use Rattle.iddqd_driver.specs.declared.command.Reply.{Reply}
use Rattle.iddqd_driver.specs.declared.command.Reply.TheVariants.{Inserted, Refused}
use Rattle.iddqd_driver.specs.declared.keyed_items.InsertRefusal.{InsertRefusal}
use Rattle.iddqd_driver.proofs.MemoryLemmas.{IsNoLower-same}

-- a step that keeps what a call keeps
pub Step-keeping : {T S K1 K2 : Type 0} (keys : Keys T K1 K2 S) (old new : State T S) (command : Command T K1 K2)
    (reply : Reply T) → Keeps keys old new → Answers keys old command reply new
    → (IsInSync (first_key_index keys) old → AsScan (first_key_index keys) old.store command reply)
    → (IsInSync (second_key_index keys) old → AsScan (second_key_index keys) old.store command reply)
    → Step keys old command reply new
Step-keeping keys old new command reply keeps answers first second = record {
  answers = answers;
  paired = keeps.paired;
  first_keys = record { keeps = λ _. keeps.first_keys; as_scan = first };
  second_keys = record { keeps = λ _. keeps.second_keys; as_scan = second };
}

-- ---- the memory of a step

module _ {T S K1 K2 : Type 0} (old new : SizedState T S) where
  -- of a command that keeps it and is no insert that was refused
  pub StepsInMemory-kept :
      (command : Command T K1 K2) (reply : Reply T) → new.memory ≡ old.memory → (RefusesMemory reply → ⊥)
      → StepsInMemory old command reply new
  StepsInMemory-kept command reply same other = record {
    no_lower = IsNoLower-same old.memory new.memory same;
    had_room = λ _. same;
    not_refused = λ _. other;
    others = λ _. same;
    few = rw same (record { slots = omega arith; cells = omega arith });
  }

  -- of an insert
  pub StepsInMemory-inserted :
      (item : T) (ix : ℕ) → InsertsInMemory {T = T} (1 ≤ room old) old.memory (Ok ix) new.memory
      → TakesForOne old.state.store.limit (live_count old.state.store) old.memory new.memory
      → StepsInMemory {K1 = K1} {K2 = K2} old (Insert item) (Inserted ix) new
  StepsInMemory-inserted item ix did few = record {
    no_lower = did.no_lower;
    had_room = did.had_room;
    not_refused = λ _ never. never;
    others = λ other. absurd (other tt);
    few = few;
  }

  pub StepsInMemory-refused :
      (item : T) (refusal : InsertRefusal T)
      → InsertsInMemory {T = T} (1 ≤ room old) old.memory (Err refusal) new.memory
      → TakesForOne old.state.store.limit (live_count old.state.store) old.memory new.memory
      → StepsInMemory {K1 = K1} {K2 = K2} old (Insert item) (Refused refusal) new
  StepsInMemory-refused item refusal did few = record {
    no_lower = did.no_lower;
    had_room = did.had_room;
    not_refused = did.not_refused;
    others = λ other. absurd (other tt);
    few = few;
  }
