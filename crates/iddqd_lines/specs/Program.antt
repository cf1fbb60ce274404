-- What the program answers to a line, and to all lines of an input.
use Rattle.std.specs.Prelude.{◌≡◌, ◌<◌, ◌⊎◌, ℕ, Bool, true, false, List, [], ◌∷◌, ◌++◌, length, Option, Some, MatchOption, IfSome, Result, Ok, Err, nat_eq, codes}
use Rattle.std.specs.Ordering.{nat_cmp}
use Rattle.std.specs.Io.KnownBytes.{Appends, Consumes}
use Rattle.std.specs.List.{fold}
use Rattle.std.specs.Hash as fed
use Rattle.std.specs.Hash.FoldHasher as folding
use Rattle.std.specs.Hash.BuildHasherDefault.{initial_hasher}
use Rattle.std.specs.declared.hash.FoldHasher.{FoldHasher}
use Rattle.std.specs.declared.hash.BuildHasherDefault.{BuildHasherDefault}
use Rattle.std.specs.declared.hash.Hasher as hasher
use Rattle.std.specs.declared.hash.BuildHasher as builder
use Rattle.iddqd.specs.MapHash.{hash_one}
use Rattle.iddqd.specs.Validation.{not_compact_text}
use Rattle.iddqd_driver.specs.Keys.{Keys, IsDefaultHasher}
use Rattle.iddqd_driver.specs.State.{State, empty_state}
use Rattle.iddqd_driver.specs.Machine.{Step}
use Rattle.iddqd_lines.specs.Line.{line_feed, lines_of, whole_lines_of, request_of, overwritten_index, text_of}
use Rattle.iddqd_lines.specs.declared.line.Request.{Request}
use Rattle.iddqd_lines.specs.declared.line.Request.TheVariants.{Run, Validate}
use Rattle.iddqd_lines.specs.declared.record.Record.{Record}
use Rattle.iddqd_lines.specs.declared.serve.ServeFault.{ServeFault}
use Rattle.iddqd_lines.specs.declared.serve.ServeFault.TheVariants.{Read, Write}
use Rattle.iddqd_driver.specs.declared.command.Command.{Command}
use Rattle.iddqd_driver.specs.declared.command.Reply.{Reply}

-- the keys of records, where the hasher in the state s hashes the first key k as `hash s k`
abbrev pub record_keys : {S : Type 0} → (S → ℕ → ℕ) → Keys Record ℕ ℕ S
record_keys hash =
    record {
      first = λ r. r.first;
      second = λ r. r.second;
      equal_first = nat_eq;
      compare_second = nat_cmp;
      hash_first = hash;
    }

-- which replies a check may have if this number of slots is vacant
abbrev pub IsCheckText : ℕ → List ℕ → Type 0
IsCheckText vacant out =
    ((vacant ≡ 0) × (out ≡ codes "ok"))
    ⊎ ((0 < vacant) × (out ≡ not_compact_text vacant))
    ⊎ (out ≡ codes "no memory")

module _ {S : Type 0} (hash : S → ℕ → ℕ) where
  -- a line that is a command takes a step, and its reply in words is this text, over the store as the step left it
  pub record AnswersCommand (old : State Record S) (out : List ℕ) (new : State Record S) (command : Command Record ℕ ℕ)
      : Type 0 where
    pub reply : Reply Record
    pub step : Step (record_keys hash) old command reply new
    pub text : out ≡ text_of new.store (overwritten_index command) reply

  -- a line that asks for a check is answered by its outcome, and changes nothing
  abbrev pub AnswersRequest : State Record S → List ℕ → State Record S → Request (Command Record ℕ ℕ) → Type 0
  AnswersRequest old out new (Run command) = AnswersCommand old out new command
  AnswersRequest old out new Validate = IsCheckText (length old.store.free) out × (new ≡ old)

  -- the state `old` allows this text as the reply to the line, and the line leaves `new`
  abbrev pub AnswersLine : State Record S → List ℕ → List ℕ → State Record S → Type 0
  AnswersLine old line out new =
      MatchOption (request_of line) ((out ≡ codes "bad line") × (new ≡ old)) (AnswersRequest old out new)

  -- the state `old` allows these bytes as the replies to the lines in turn, each with a line feed, and they leave `new`
  abbrev pub Serves : State Record S → List (List ℕ) → List ℕ → State Record S → Type 0
  Serves old [] bytes new = (bytes ≡ []) × (new ≡ old)
  Serves old (line ∷ lines) bytes new =
      (out : List ℕ) × (next : State Record S) × (rest : List ℕ)
      × AnswersLine old line out next × (bytes ≡ out ++ line_feed ∷ rest) × Serves next lines rest new

  -- the state `old` allows a reply to the line of which, with its line feed, this part is a proper prefix
  pub record AnswersInPart (old : State Record S) (line part : List ℕ) : Type 0 where
    pub out : List ℕ
    pub new : State Record S
    pub answers : AnswersLine old line out new
    pub rest : List ℕ
    pub parts : out ++ line_feed ∷ [] ≡ part ++ rest
    pub broken : 0 < length rest

  -- Which lines have a whole reply, and which part of the reply to the next line is written, from the state that those
  -- lines leave. At the end of the input: all lines. At a failed read: the lines that ended in the bytes that were
  -- read. At a failed write: some first lines, and a proper prefix of the next reply.
  abbrev pub EndsAt
      : Result (Unit {0}) ServeFault → List ℕ → Option (List ℕ) → List (List ℕ) → State Record S → List ℕ → Type 0
  EndsAt (Ok u) input left lines state part = (lines ≡ lines_of input) × (part ≡ [])
  EndsAt (Err Read) input left lines state part =
      (seen : List ℕ) × Consumes (Some input) left seen × (lines ≡ whole_lines_of seen) × (part ≡ [])
  EndsAt (Err Write) input left lines state part =
      (next : List ℕ) × (later : List (List ℕ))
      × (lines_of input ≡ lines ++ next ∷ later) × AnswersInPart state next part

-- how a build hasher hashes a number of 32 bits
abbrev pub hash_u32 : {S H : Type 0} → builder.Ghosts S H → hasher.Ghosts H → S → ℕ → ℕ
hash_u32 b h state key = hash_one b h state (fed.u32 key)

-- how a default build hasher hashes a number of 32 bits
abbrev pub default_hash_u32 : BuildHasherDefault FoldHasher → ℕ → ℕ
default_hash_u32 state key = folding.finish (fold folding.write (initial_hasher state) (fed.u32 key))

-- If `serve` ends so, the bytes that were written since `before` are the replies to lines of the input, from the empty
-- state on, and then a part of the next reply. `ends` says which lines, and which part.
pub record ServesUntil (end : Result (Unit {0}) ServeFault) (input : List ℕ) (left before after : Option (List ℕ))
    : Type 0 where
  pub hasher : BuildHasherDefault FoldHasher
  pub is_default : IsDefaultHasher hasher
  pub lines : List (List ℕ)
  pub bytes : List ℕ
  pub last : State Record (BuildHasherDefault FoldHasher)
  pub serves : Serves default_hash_u32 (empty_state hasher) lines bytes last
  pub part : List ℕ
  pub written : Appends before after (bytes ++ part)
  pub ends : EndsAt default_hash_u32 end input left lines last part

-- What `ServesUntil` means at the end of the input: the bytes that were written since `before` are the replies to all
-- lines of the input, from the empty state on.
pub record ServesAll (input : List ℕ) (before after : Option (List ℕ)) : Type 0 where
  pub hasher : BuildHasherDefault FoldHasher
  pub is_default : IsDefaultHasher hasher
  pub bytes : List ℕ
  pub last : State Record (BuildHasherDefault FoldHasher)
  pub serves : Serves default_hash_u32 (empty_state hasher) (lines_of input) bytes last
  pub written : Appends before after bytes

-- the most reads of one input
abbrev pub most_reads : ℕ
most_reads = 18446744073709551615

-- At the end of the input neither the source nor the sink has failed; at `Write` only the sink has. At `Read` the sink
-- hasn't, and the source has if its bytes are known and fewer than `most_reads`.
abbrev pub FailsAt : Result (Unit {0}) ServeFault → Option (List ℕ) → Bool → Bool → Type 0
FailsAt (Ok u) left reading writing = (reading ≡ false) × (writing ≡ false)
FailsAt (Err Read) left reading writing =
    IfSome left (λ input. length input < most_reads → reading ≡ true) × (writing ≡ false)
FailsAt (Err Write) left reading writing = (reading ≡ false) × (writing ≡ true)

-- the words of a fault
abbrev pub fault_text : ServeFault → List ℕ
fault_text Read = codes "read failed"
fault_text Write = codes "write failed"
