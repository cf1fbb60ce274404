-- The lines of the program: what a line asks for, and the words of each reply.
use Rattle.std.specs.Prelude.{◌==◌, ◌&&◌, ℕ, Bool, List, [], ◌∷◌, ◌++◌, length, Option, Some, None, Result, Ok, nat_le, nat_lt, codes, if◌then◌else◌}
use Rattle.std.specs.Borrow.{Bor}
use Rattle.std.specs.Option.{option_map, option_and_then}
use Rattle.std.specs.List.{slice_split, list_all, join_by, flat_map}
use Rattle.std.specs.Char.{is_ascii_digit}
use Rattle.std.specs.Str.{bytes_eq}
use Rattle.std.specs.Str.Parse.{digits_value}
use Rattle.std.specs.Fmt.{decimal}
use Rattle.iddqd.specs.Store.{Store, get}
use Rattle.iddqd.specs.Compaction.{sentinel}
use Rattle.iddqd.specs.declared.index_remap.IndexRemap.{IndexRemap}
use Rattle.iddqd.specs.declared.index_remap.IndexRemap.TheVariants.{Identity, Permuted}
use Rattle.iddqd_lines.specs.declared.line.Request.{Request}
use Rattle.iddqd_lines.specs.declared.line.Request.TheVariants.{Run, Validate}
use Rattle.iddqd_lines.specs.declared.record.Record.{Record}
use Rattle.iddqd_driver.specs.Refusal.{refusal_text}
use Rattle.iddqd_driver.specs.declared.command.Command.{Command}
use Rattle.iddqd_driver.specs.declared.command.Command.TheVariants.{Insert, Find1, Find2, Remove, Remove1, Remove2, Overwrite, Compact, Clear, Walk}
use Rattle.iddqd_driver.specs.declared.command.Reply.{Reply}
use Rattle.iddqd_driver.specs.declared.command.Reply.TheVariants.{Inserted, Refused, Found, Removed, Overwritten, Compacted, Cleared, Walked, NoMemory}

-- the byte that ends a line
abbrev pub line_feed : ℕ
line_feed = 10

-- the byte between two words
abbrev pub space : ℕ
space = 32

-- the most bytes of a line that is a request
abbrev pub max_line : ℕ
max_line = 128

-- whether a byte ends a line
abbrev pub is_line_feed : ℕ → Bool
is_line_feed b = b == line_feed

-- whether a byte separates two words
abbrev pub is_space : ℕ → Bool
is_space b = b == space

-- the parts without the last one if that is empty
abbrev pub without_empty_last : List (List ℕ) → List (List ℕ)
without_empty_last [] = []
without_empty_last ([] ∷ []) = []
without_empty_last (part ∷ parts) = part ∷ without_empty_last parts

-- the parts without the last one
abbrev pub without_last : List (List ℕ) → List (List ℕ)
without_last [] = []
without_last (part ∷ []) = []
without_last (part ∷ parts) = part ∷ without_last parts

-- the lines of an input: each ends at a line feed, and what follows the last line feed is a line if it isn't empty
abbrev pub lines_of : List ℕ → List (List ℕ)
lines_of bytes = without_empty_last (slice_split is_line_feed bytes)

-- the lines that end at a line feed
abbrev pub whole_lines_of : List ℕ → List (List ℕ)
whole_lines_of bytes = without_last (slice_split is_line_feed bytes)

-- the words of these bytes, if there are bytes
abbrev pub words_in : Option (Bor (List ℕ)) → List (List ℕ)
words_in None = []
words_in (Some words) = slice_split is_space words.now

-- the number that a word is: one ASCII digit or more, of a value that fits 32 bits
abbrev pub number_of : List ℕ → Option ℕ
number_of word =
    if nat_lt 0 (length word) && list_all is_ascii_digit word && nat_le (digits_value 10 word) 4294967295
    then Some (digits_value 10 word)
    else None

-- the number that the first word is, and the words after it
abbrev pub number_and_rest : List (List ℕ) → Option (ℕ × List (List ℕ))
number_and_rest [] = None
number_and_rest (word ∷ words) = option_map (λ n. (n, words)) (number_of word)

-- the numbers that the words are, if each is one
abbrev pub numbers_of : List (List ℕ) → Option (List ℕ)
numbers_of [] = Some []
numbers_of (word ∷ words) =
    option_and_then (λ n. option_map (λ ns. n ∷ ns) (numbers_of words)) (number_of word)

-- the record of three numbers
abbrev pub record_of : ℕ → ℕ → ℕ → Record
record_of first second value = record { first = first; second = second; value = value }

-- the entry for this verb
abbrev pub named : {A : Type 0} → List ℕ → List (List ℕ × A) → Option A
named verb [] = None
named verb ((name, a) ∷ rest) = if bytes_eq verb name then Some a else named verb rest

-- the commands of a verb that stands alone
abbrev pub lone_commands : List (List ℕ × Command Record ℕ ℕ)
lone_commands =
    (codes "walk", Walk)
    ∷ (codes "compact", Compact)
    ∷ (codes "clear", Clear)
    ∷ []

-- the commands of a verb and a number
abbrev pub number_commands : ℕ → List (List ℕ × Command Record ℕ ℕ)
number_commands n =
    (codes "get1", Find1 n)
    ∷ (codes "get2", Find2 n)
    ∷ (codes "remove", Remove n)
    ∷ (codes "remove1", Remove1 n)
    ∷ (codes "remove2", Remove2 n)
    ∷ []

-- the commands of a verb and the three numbers of a record
abbrev pub record_commands : Record → List (List ℕ × Command Record ℕ ℕ)
record_commands r = (codes "insert", Insert r) ∷ []

-- the commands of a verb, an index and a record
abbrev pub index_commands : ℕ → Record → List (List ℕ × Command Record ℕ ℕ)
index_commands ix r = (codes "overwrite", Overwrite ix r) ∷ []

-- the command of a verb and its numbers
abbrev pub command_for : List ℕ → List ℕ → Option (Command Record ℕ ℕ)
command_for verb [] = named verb lone_commands
command_for verb (n ∷ []) = named verb (number_commands n)
command_for verb (first ∷ second ∷ value ∷ []) = named verb (record_commands (record_of first second value))
command_for verb (ix ∷ first ∷ second ∷ value ∷ []) = named verb (index_commands ix (record_of first second value))
command_for verb numbers = None

-- the command of the words of a line
abbrev pub command_of_words : List (List ℕ) → Option (Command Record ℕ ℕ)
command_of_words [] = None
command_of_words (verb ∷ words) = option_and_then (command_for verb) (numbers_of words)

-- the command that a line is: of at most max_line bytes, its words with exactly one space between
abbrev pub command_of : List ℕ → Option (Command Record ℕ ℕ)
command_of line =
    if nat_le (length line) max_line then command_of_words (slice_split is_space line) else None

-- the request that a line is: a check if it is this one word, otherwise to obey the command that it is
abbrev pub request_of : List ℕ → Option (Request (Command Record ℕ ℕ))
request_of line = if bytes_eq line (codes "validate") then Some Validate else option_map Run (command_of line)

-- the index that an overwrite names
abbrev pub overwritten_index : Command Record ℕ ℕ → Option ℕ
overwritten_index (Overwrite ix item) = Some ix
overwritten_index command = None

-- an index and its record
abbrev pub record_text : ℕ → Record → List ℕ
record_text ix r =
    decimal ix ++ codes " " ++ decimal r.first ++ codes " " ++ decimal r.second ++ codes " " ++ decimal r.value

-- an index and the record that the store has there
abbrev pub record_text_at : Store Record → ℕ → List ℕ
record_text_at s ix = elim (get s ix) [ None ↦ codes "none" | Some r ↦ record_text ix r ]

-- the index that was found and its record, if there is one
abbrev pub found_text : Store Record → Option ℕ → List ℕ
found_text s None = codes "none"
found_text s (Some ix) = record_text_at s ix

-- the index and the record that were removed, if there were any
abbrev pub removed_text : Option (ℕ × Record) → List ℕ
removed_text None = codes "none"
removed_text (Some (ix, item)) = record_text ix item

-- the index and the record that it had, or that it isn't live
abbrev pub overwritten_text : Option ℕ → Result Record Record → List ℕ
overwritten_text (Some ix) (Ok was) = record_text ix was
overwritten_text named result = codes "none"

-- indexes with one space between
abbrev pub walk_text : List ℕ → List ℕ
walk_text [] = codes "empty"
walk_text (ix ∷ rest) = join_by decimal (codes " ") (ix ∷ rest)

-- a new index, or a dash for a slot that was vacant
abbrev pub name_or_dash : ℕ → List ℕ
name_or_dash name = if name == sentinel then codes "-" else decimal name

-- the new indexes, in words
abbrev pub remap_text : IndexRemap → List ℕ
remap_text Identity = codes "identity"
remap_text (Permuted names) = codes "permuted" ++ flat_map (λ name. codes " " ++ name_or_dash name) names.items

-- the words of a reply, over the store as the command left it; `named` is the index that an overwrite named
abbrev pub text_of : Store Record → Option ℕ → Reply Record → List ℕ
text_of s named (Inserted ix) = codes "inserted " ++ decimal ix
text_of s named (Refused refusal) = refusal_text refusal
text_of s named (Found found) = found_text s found
text_of s named (Removed removed) = removed_text removed
text_of s named (Overwritten result) = overwritten_text named result
text_of s named (Walked indexes) = walk_text indexes.items
text_of s named (Compacted remap) = remap_text remap
text_of s named Cleared = codes "cleared"
text_of s named NoMemory = codes "no memory"
