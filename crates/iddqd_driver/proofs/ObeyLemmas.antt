-- The steps of a run, one command after the other, with what each leaves of the memory.
use Rattle.std.proofs.Common.{◌≡◌, ◌∙◌, ◌+◌, ◌<◌, ◌≤◌, ℕ, List, [], ◌∷◌, ◌++◌, length, refl, sym, ap, arith, append_assoc, append-nil}
use Rattle.std.specs.List.{All}
use Rattle.std.proofs.lemmas.List.{nil_from_length}
use Rattle.iddqd.specs.Store.{live_count}
use Rattle.iddqd_driver.specs.Keys.{Keys}
use Rattle.iddqd_driver.specs.State.{State, IsPaired}
use Rattle.iddqd_driver.specs.Machine.{Step}
use Rattle.iddqd_driver.specs.Run.{Run, IsStepChain, No_step}
use Rattle.iddqd_driver.specs.Memory.{SizedState, IsNoLower, TakesForOne, StepsInMemory, IsServedBelow, RunsInMemory, capacity}
use Rattle.iddqd_driver.specs.declared.command.Command.{Command}
use Rattle.iddqd_driver.specs.declared.command.Reply.{Reply}
use Rattle.iddqd_driver.proofs.MemoryLemmas.{IsNoLower-same, IsNoLower-after}
use Rattle.iddqd_driver.proofs.RunLemmas.{IsStepChain-push, Run-from_chain, IsServedBelow-step, TakesForOne-step, RunsInMemory-from_chain}

module _ {T S K1 K2 : Type 0} (keys : Keys T K1 K2 S) (old : SizedState T S) where
  -- these commands were obeyed in turn: the replies answer them, none refuses memory where there was room at first, and
  -- no more was taken than the most items need
  pub record Obeyed (done : List (Command T K1 K2)) (replies : List (Reply T)) (now : SizedState T S) : Type 0 where
    pub moments : List (State T S)
    pub chain : IsStepChain keys old.state done replies moments now.state
    pub no_lower : IsNoLower old.memory now.memory
    pub served : IsServedBelow (capacity old) old.state replies moments
    pub few : (most : ℕ) → All (λ s. live_count s.store ≤ most) (old.state ∷ moments)
        → TakesForOne old.state.store.limit most old.memory now.memory

  pub Obeyed-none : (replies : List (Reply T)) → replies ≡ [] → Obeyed [] replies old
  Obeyed-none replies none = rw none
      (record {
        moments = [];
        chain = No_step;
        no_lower = IsNoLower-same _ _ refl;
        served = tt;
        few = λ most _. record { slots = omega arith; cells = omega arith };
      })

  module _
      (done : List (Command T K1 K2)) (replies : List (Reply T)) (now : SizedState T S)
      (before : Obeyed done replies now)
    where
      pub Obeyed-step :
          (command : Command T K1 K2) (reply : Reply T) (next : SizedState T S) (more : List (Reply T))
          → Step keys now.state command reply next.state
          → StepsInMemory now command reply next
          → more ≡ replies ++ reply ∷ []
          → Obeyed (done ++ command ∷ []) more next
      Obeyed-step command reply next more step memory is = rw is
          (record {
            moments = before.moments ++ next.state ∷ [];
            chain = IsStepChain-push keys before.chain step;
            no_lower = IsNoLower-after _ _ _ before.no_lower memory.no_lower;
            served = IsServedBelow-step keys {old = old} {mid = now} {new = next} before.chain before.no_lower before.served memory;
            few = TakesForOne-step keys {old = old} {mid = now} {new = next} before.chain before.few memory;
          })

      -- all commands were obeyed
      module _
          (commands left : List (Command T K1 K2)) (all : done ++ left ≡ commands) (none : length left ≡ 0)
          (paired : IsPaired old.state)
        where
          whole : done ≡ commands
          whole = sym (append-nil done) ∙ ap (λ rest. done ++ rest) (sym (nil_from_length left none)) ∙ all

          pub Obeyed-run : Run keys old.state commands replies now.state
          Obeyed-run = Run-from_chain keys {moments = before.moments} (rw whole at before.chain) paired

          pub Obeyed-memory : RunsInMemory keys old commands replies now
          Obeyed-memory =
              RunsInMemory-from_chain keys {old = old} {new = now} {moments = before.moments} (rw whole at before.chain) paired before.no_lower before.served before.few

-- an iteration yields one more
pub yields_more :
    {X : Type 0} (yielded items rest all : List X) (x : X)
    → items ≡ x ∷ rest
    → yielded ++ items ≡ all
    → (yielded ++ x ∷ []) ++ rest ≡ all
yields_more yielded items rest all x next was =
    append_assoc yielded (x ∷ []) rest ∙ ap (λ xs. yielded ++ xs) (sym next) ∙ was

-- there is room for what is left
module _
    {X : Type 0} (items rest : List X) (x : X) (next : items ≡ x ∷ rest) (held cap : ℕ)
    (room : held + length items ≤ cap)
  where
    pub room_for_one : held < cap
    room_for_one = omega (arith, ap length next, room)

    pub room_for_rest : (new_held new_cap : ℕ) → new_held ≡ held + 1 → new_cap ≡ cap → new_held + length rest ≤ new_cap
    room_for_rest new_held new_cap more same = omega (arith, ap length next, room)
