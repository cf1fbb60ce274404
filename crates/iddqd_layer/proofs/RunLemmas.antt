-- How a run goes on by one call, and what holds along one.
use Rattle.std.proofs.Common.{◌≡◌, ◌≢◌, ℕ, ◌+◌, ◌≤◌, List, [], ◌∷◌, ◌++◌, All, cond, false, Result, Ok, Err, sym, subst, arith, inl, inr}
use Rattle.std.specs.Prelude.{OnOk, OnErr, count_by}
use Rattle.std.proofs.lemmas.Bool.{cases_lt}
use Rattle.std.proofs.lemmas.List.Sums.{sum_by-append}
use Rattle.std.proofs.lemmas.List.Elements.{All-cons, All-nil, All-head, All-tail}
use Rattle.iddqd_layer.proofs.RoomLemmas.{Fit}
use Rattle.iddqd_layer.specs.Layer.{Layer, FitsItsMemory, IsPaired, ordered_of, room}
use Rattle.iddqd_layer.specs.Run.{Answers, IsStepChain, No_step, Next_step, Run, Step, is_insert, is_shrink, used_by}
use Rattle.iddqd_layer.specs.declared.refusal.Refusal.{Refusal}
use Rattle.iddqd_layer.specs.declared.refusal.Refusal.TheVariants as why
use Rattle.iddqd_layer.specs.declared.run.Command.{Command}
use Rattle.iddqd_layer.specs.declared.run.Command.TheVariants.{Reserve, Insert, Remove, Rehash, ShrinkTo, Clear, Compact}
use Rattle.iddqd_layer.specs.declared.run.Reply.{Reply}
use Rattle.iddqd_layer.specs.declared.run.Reply.TheVariants.{Reserved, Inserted, Removed, Rehashed, Shrunk, Cleared, Compacted, NoMemory}

pub fits-same : (old new : Layer) → ordered_of new ≡ ordered_of old → FitsItsMemory old → FitsItsMemory new
fits-same old new e fits = subst Fit (sym e) fits

-- an insert that wasn't refused uses one of the room, and another none
pub room-used_by :
    (result : Result ℕ Refusal) (before after : ℕ)
    → OnOk result (1 ≤ before → before ≡ after + 1)
    → OnErr result (before ≤ after)
    → before ≤ after + used_by (Inserted result)
room-used_by (Ok ix) before after used kept =
    elim (cases_lt before 1) [ inl none ↦ omega arith | inr some ↦ (let e = used some in omega arith) ]
room-used_by (Err why) before after used kept = omega arith

-- calls that were made in turn, through some layers
pub record RunsTo (old : Layer) (commands : List Command) (replies : List Reply) (new : Layer) : Type 0 where
  pub moments : List Layer
  pub steps : IsStepChain old commands replies moments new

push :
    {old mid new : Layer} {commands : List Command} {replies : List Reply} {moments : List Layer}
    {command : Command} {reply : Reply}
    → IsStepChain old commands replies moments mid
    → Step mid command reply new
    → IsStepChain old (commands ++ command ∷ []) (replies ++ reply ∷ []) (moments ++ new ∷ []) new
push No_step step = Next_step step No_step
push (Next_step first rest) step = Next_step first (push rest step)

pub RunsTo-none : (l : Layer) → RunsTo l [] [] l
RunsTo-none l = record { moments = []; steps = No_step }

pub RunsTo-push :
    (old mid new : Layer) (commands : List Command) (replies : List Reply) (command : Command) (reply : Reply)
    → RunsTo old commands replies mid
    → Step mid command reply new
    → RunsTo old (commands ++ command ∷ []) (replies ++ reply ∷ []) new
RunsTo-push old mid new commands replies command reply runs step =
    record { moments = runs.moments ++ new ∷ []; steps = push runs.steps step }

-- at each moment each table has each live index once and no other
paired-along :
    {old new : Layer} {commands : List Command} {replies : List Reply} {moments : List Layer}
    → IsStepChain old commands replies moments new
    → IsPaired old
    → All IsPaired (old ∷ moments)
paired-along {old = old} No_step was = All-cons IsPaired old [] was (All-nil IsPaired)
paired-along {old = old} {moments = moments} (Next_step step rest) was =
    All-cons IsPaired old moments was (paired-along rest step.paired.1)

fits-along :
    {old new : Layer} {commands : List Command} {replies : List Reply} {moments : List Layer}
    → IsStepChain old commands replies moments new
    → FitsItsMemory old
    → All FitsItsMemory (old ∷ moments)
fits-along {old = old} No_step was = All-cons FitsItsMemory old [] was (All-nil FitsItsMemory)
fits-along {old = old} {moments = moments} (Next_step step rest) was =
    All-cons FitsItsMemory old moments was (fits-along rest (step.fits was))

-- that a reply isn't a refusal for memory, to an insert
abbrev pub IsServed : Reply → Type 0
IsServed reply = reply ≢ Inserted (Err why.Memory)

-- a call uses no more room than its command says
used-by_insert :
    (old new : Layer) (command : Command) (reply : Reply)
    → Answers old command reply new
    → used_by reply ≤ count_by is_insert (command ∷ [])
used-by_insert old new (Reserve additional) Reserved did = omega arith
used-by_insert old new (Reserve additional) NoMemory did = omega arith
used-by_insert old new (Insert hashes ways) (Inserted (Ok ix)) did = omega arith
used-by_insert old new (Insert hashes ways) (Inserted (Err e)) did = omega arith
used-by_insert old new (Remove ix hashes ways) (Removed was_live) did = omega arith
used-by_insert old new (Rehash ix key from to) (Rehashed done) did = omega arith
used-by_insert old new (ShrinkTo least) Shrunk did = omega arith
used-by_insert old new (ShrinkTo least) NoMemory did = omega arith
used-by_insert old new Clear Cleared did = omega arith
used-by_insert old new Compact (Compacted remap) did = omega arith
used-by_insert old new Compact NoMemory did = omega arith
used-by_insert old new command reply did = absurd did

count-more :
    (command : Command) (commands : List Command)
    → count_by is_insert (command ∷ commands) ≡ count_by is_insert (command ∷ []) + count_by is_insert commands
count-more command commands =
    sum_by-append (λ (c : Command). cond (is_insert c) 1 0) (command ∷ []) commands

-- where there is room, an insert isn't refused for memory
served :
    (old new : Layer) (command : Command) (reply : Reply)
    → Answers old command reply new
    → count_by is_insert (command ∷ []) ≤ room old
    → IsServed reply
served old new (Insert hashes ways) (Inserted result) did some same =
    let is : result ≡ Err why.Memory = cc in
    let none = did.memory is in omega arith
served old new (Reserve additional) Reserved did some same = cc
served old new (Reserve additional) NoMemory did some same = cc
served old new (Remove ix hashes ways) (Removed was_live) did some same = cc
served old new (Rehash ix key from to) (Rehashed done) did some same = cc
served old new (ShrinkTo least) Shrunk did some same = cc
served old new (ShrinkTo least) NoMemory did some same = cc
served old new Clear Cleared did some same = cc
served old new Compact (Compacted remap) did some same = cc
served old new Compact NoMemory did some same = cc
served old new command reply did some same = did

served-along :
    {old new : Layer} {commands : List Command} {replies : List Reply} {moments : List Layer}
    → IsStepChain old commands replies moments new
    → All (λ command. is_shrink command ≡ false) commands
    → count_by is_insert commands ≤ room old
    → All IsServed replies
served-along No_step keeps some = All-nil IsServed
served-along {old = old}
    (Next_step {next = next} {command = command} {reply = reply} {commands = rest_of} {replies = others} step rest)
    keeps some =
    let more = count-more command rest_of in
    let used = used-by_insert old next command reply step.answers in
    let left = step.room (All-head (λ command. is_shrink command ≡ false) command rest_of keeps) in
    All-cons IsServed reply others (served old next command reply step.answers (omega arith))
    (served-along rest (All-tail (λ command. is_shrink command ≡ false) command rest_of keeps) (omega arith))

pub run-of :
    (old new : Layer) (commands : List Command) (replies : List Reply)
    → IsPaired old
    → RunsTo old commands replies new
    → Run old commands replies new
run-of old new commands replies was runs = record {
  moments = runs.moments;
  steps = runs.steps;
  paired = paired-along runs.steps was;
  fits = fits-along runs.steps;
  memory = served-along runs.steps;
}
