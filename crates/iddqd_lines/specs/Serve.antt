-- How `serve` goes on, from some bytes of its input to the next. No public clause cites this module.
use Rattle.std.specs.Prelude.{◌≡◌, ℕ, List, [], ◌∷◌, ◌++◌, All, Option, Some, None, Result, OnOk, length, nat_le, if◌then◌else◌}
use Rattle.iddqd_driver.specs.State.{State}
use Rattle.iddqd_lines.specs.Line.{line_feed, max_line}
use Rattle.iddqd_lines.specs.Split.{HasNo}
use Rattle.iddqd_lines.specs.Program.{AnswersRequest, Serves}
use Rattle.iddqd_lines.specs.Replies.{Sends}
use Rattle.iddqd_lines.specs.declared.sink.Sink as sink
use Rattle.iddqd_driver.specs.declared.command.Command.{Command}
use Rattle.iddqd_lines.specs.declared.line.Request.{Request}
use Rattle.iddqd_lines.specs.declared.record.Record.{Record}

-- these lines, each with its line feed
abbrev pub ended : List (List ℕ) → List ℕ
ended [] = []
ended (line ∷ lines) = line ++ line_feed ∷ ended lines

-- what is kept of a line that goes on in the next block: all of it, or none if it is longer than a request may be
abbrev pub kept_line : List ℕ → Option (List ℕ)
kept_line line = if nat_le (length line) max_line then Some line else None

-- this is kept of a line that has begun
pub record IsKept (kept : Option (List ℕ)) (partial : List ℕ) : Type 0 where
  pub bytes : kept ≡ kept_line partial
  pub one_line : HasNo line_feed partial

-- the items, the sink, and the bytes that wait to be written
pub record Moment (S O : Type 0) : Type 0 where
  pub items : State Record S
  pub output : O
  pub waits : List ℕ

abbrev pub moment : {S O : Type 0} → State Record S → O → List ℕ → Moment S O
moment items output waits = record { items = items; output = output; waits = waits }

-- what a call does from the moment `old`; an error result means that a write failed
module _ {S O : Type 0} (hash : S → ℕ → ℕ) (g : sink.Ghosts O) (old : Moment S O) where
  -- this request is answered, and its reply is sent with a line feed
  pub record RepliesTo
      (request : Request (Command Record ℕ ℕ)) (result : Result (Unit {0}) (Unit {0})) (new : Moment S O)
      : Type 0 where
    pub out : List ℕ
    pub answers : AnswersRequest hash old.items out new.items request
    pub sends : Sends g old.output old.waits (out ++ line_feed ∷ []) result new.output new.waits

  -- these lines are answered, and their replies are sent, each with a line feed
  pub record Obeys (lines : List (List ℕ)) (result : Result (Unit {0}) (Unit {0})) (new : Moment S O) : Type 0 where
    pub out : List ℕ
    pub serves : Serves hash old.items lines out new.items
    pub sends : Sends g old.output old.waits out result new.output new.waits

  -- The line that had begun and these bytes are some ended lines and the beginning of another. The ended lines are
  -- answered, and the beginning is kept if no write failed.
  pub record Feeds
      (partial bytes : List ℕ) (result : Result (Unit {0}) (Unit {0})) (new : Moment S O) (kept : Option (List ℕ))
      : Type 0 where
    pub done : List (List ℕ)
    pub left : List ℕ
    pub bytes_are : partial ++ bytes ≡ ended done ++ left
    pub each_one_line : All (HasNo line_feed) done
    pub keeps : OnOk result (IsKept kept left)
    pub obeys : Obeys done result new
