-- What was written of the answers to an input, at each end of `serve`.
use Rattle.std.proofs.Common.{◌≡◌, ◌⊎◌, inl, inr, ◌<◌, ◌≤◌, false, Bool, Result, Ok, Err, OnOk, ℕ, Option, Some, None, IfSome, List, [], ◌∷◌, ◌++◌, length, refl, sym, ap, subst, ◌∙◌, append_assoc, append-nil, arith, length-append}
use Rattle.std.specs.List.{All, slice_split}
use Rattle.std.specs.Io.KnownBytes.{Appends, Consumes, Keeps, IsAtEnd}
use Rattle.std.specs.declared.hash.FoldHasher.{FoldHasher}
use Rattle.std.specs.declared.hash.BuildHasherDefault.{BuildHasherDefault}
use Rattle.std.proofs.lemmas.List.Elements.{All-head, All-tail}
use Rattle.std.proofs.lemmas.List.Splits.{slice_split_at, slice_split_none, length-slice_split}
use Rattle.iddqd_driver.specs.State.{State, empty_state}
use Rattle.iddqd_lines.specs.Line.{line_feed, is_line_feed, lines_of, whole_lines_of, without_empty_last, without_last}
use Rattle.iddqd_lines.specs.Split.{HasNo}
use Rattle.iddqd_lines.specs.Replies.{Sends}
use Rattle.iddqd_driver.specs.Keys.{IsDefaultHasher}
use Rattle.iddqd_lines.specs.Program.{AnswersLine, Serves, AnswersInPart, default_hash_u32, ServesUntil, ServesAll, most_reads, FailsAt}
use Rattle.iddqd_lines.specs.Serve.{Moment, moment, ended, IsKept, Obeys, Feeds}
use Rattle.iddqd_lines.specs.declared.record.Record.{Record}
use Rattle.iddqd_lines.specs.declared.serve.ServeFault.{ServeFault}
use Rattle.iddqd_lines.specs.declared.serve.ServeFault.TheVariants.{Read, Write}
use Rattle.iddqd_lines.specs.declared.sink.Sink as sink
use Rattle.iddqd_lines.proofs.ByteLemmas.{Sends-all, Consumes-trans, Consumes-kept, Consumes-all, Consumes-rest}
use Rattle.iddqd_lines.proofs.ServeLemmas.{Obeys-append, Feeds-append, Feeds-flush, Reads}

-- ---- the lines of an input

-- the parts of some lines, each with its line feed, and of further bytes
split-ended :
    (lines : List (List ℕ)) (rest : List ℕ)
    → All (HasNo line_feed) lines
    → slice_split is_line_feed (ended lines ++ rest) ≡ lines ++ slice_split is_line_feed rest
split-ended [] rest each = refl
split-ended (line ∷ lines) rest each =
    ap (slice_split is_line_feed) (append_assoc line (line_feed ∷ ended lines) rest)
    ∙ slice_split_at is_line_feed line line_feed (ended lines ++ rest) (All-head (HasNo line_feed) line lines each) refl
    ∙ ap (λ l. line ∷ l) (split-ended lines rest (All-tail (HasNo line_feed) line lines each))

without_empty_last-append :
    (lines parts : List (List ℕ))
    → 0 < length parts
    → without_empty_last (lines ++ parts) ≡ lines ++ without_empty_last parts
without_empty_last-append [] parts some = refl
without_empty_last-append ([] ∷ []) [] some = absurd (omega arith)
without_empty_last-append ([] ∷ []) (part ∷ parts) some = refl
without_empty_last-append ([] ∷ line ∷ lines) parts some = ap (λ l. [] ∷ l) (without_empty_last-append (line ∷ lines) parts some)
without_empty_last-append ((b ∷ bs) ∷ lines) parts some = ap (λ l. (b ∷ bs) ∷ l) (without_empty_last-append lines parts some)

without_last-append : (lines : List (List ℕ)) (part : List ℕ) → without_last (lines ++ part ∷ []) ≡ lines
without_last-append [] part = refl
without_last-append (line ∷ []) part = refl
without_last-append (line ∷ next ∷ lines) part = ap (λ l. line ∷ l) (without_last-append (next ∷ lines) part)

-- the lines that bytes begin with are its first ones
lines_of-ended :
    (lines : List (List ℕ)) (rest : List ℕ)
    → All (HasNo line_feed) lines
    → lines_of (ended lines ++ rest) ≡ lines ++ lines_of rest
lines_of-ended lines rest each =
    ap without_empty_last (split-ended lines rest each)
    ∙ without_empty_last-append lines (slice_split is_line_feed rest) (omega (arith, length-slice_split is_line_feed rest))

-- and its whole ones, where no other ends
whole_lines_of-ended :
    (lines : List (List ℕ)) (left : List ℕ)
    → All (HasNo line_feed) lines
    → HasNo line_feed left
    → whole_lines_of (ended lines ++ left) ≡ lines
whole_lines_of-ended lines left each one_line =
    ap without_last (split-ended lines left each ∙ ap (λ l. lines ++ l) (slice_split_none is_line_feed left one_line)) ∙ without_last-append lines left

-- ---- a beginning of the answers

-- where two lists begin alike, one ends within the other
ends_within :
    (xs ys part rest : List ℕ)
    → xs ++ ys ≡ part ++ rest
    → ((others : List ℕ) × (xs ≡ part ++ others) × (0 < length others)) ⊎
    ((more : List ℕ) × (part ≡ xs ++ more) × (ys ≡ more ++ rest))
ends_within [] ys part rest same = inr (part, refl, same)
ends_within (x ∷ xs) ys [] rest same = inl (x ∷ xs, refl, omega arith)
ends_within (x ∷ xs) ys (p ∷ part) rest same = one_more (let first : x ≡ p = cc in first) (ends_within xs ys part rest (let others : xs ++ ys ≡ part ++ rest = cc in others))
  where
    one_more :
        x ≡ p
        → (((others : List ℕ) × (xs ≡ part ++ others) × (0 < length others)) ⊎
        ((more : List ℕ) × (part ≡ xs ++ more) × (ys ≡ more ++ rest)))
        → (((others : List ℕ) × (x ∷ xs ≡ p ∷ part ++ others) × (0 < length others)) ⊎
        ((more : List ℕ) × (p ∷ part ≡ x ∷ xs ++ more) × (ys ≡ more ++ rest)))
    one_more first (inl (others, is, some)) = inl (others, rw (first, is) refl, some)
    one_more first (inr (more, is, others)) = inr (more, rw (first, is) refl, others)

module _ {S : Type 0} (hash : S → ℕ → ℕ) where
  -- of the answers to lines this much is there: some whole ones, and a beginning of the next
  record BreaksOff (old : State Record S) (lines : List (List ℕ)) (bytes : List ℕ) : Type 0 where
    pub done : List (List ℕ)
    pub next : List ℕ
    pub later : List (List ℕ)
    pub lines_are : lines ≡ done ++ next ∷ later
    pub whole : List ℕ
    pub mid : State Record S
    pub serves : Serves hash old done whole mid
    pub part : List ℕ
    pub begins : AnswersInPart hash mid next part
    pub bytes_are : bytes ≡ whole ++ part

  -- a line before
  BreaksOff-cons :
      (old next : State Record S) (line out : List ℕ) (lines : List (List ℕ)) (bytes more : List ℕ)
      → AnswersLine hash old line out next
      → bytes ≡ (out ++ line_feed ∷ []) ++ more
      → BreaksOff next lines more
      → BreaksOff old (line ∷ lines) bytes
  BreaksOff-cons old next line out lines bytes more answers is b =
      record {
        done = line ∷ b.done;
        next = b.next;
        later = b.later;
        lines_are = ap (λ l. line ∷ l) b.lines_are;
        whole = out ++ line_feed ∷ b.whole;
        mid = b.mid;
        serves = (out, next, b.whole, answers, refl, b.serves);
        part = b.part;
        begins = b.begins;
        bytes_are = is ∙ ap (λ l. (out ++ line_feed ∷ []) ++ l) b.bytes_are ∙ append_assoc out (line_feed ∷ []) (b.whole ++ b.part) ∙ sym (append_assoc out (line_feed ∷ b.whole) b.part);
      }

  -- a beginning of the answers to lines, and not all of them
  Serves-begins :
      (old new : State Record S) (lines : List (List ℕ)) (bytes rest : List ℕ)
      → Serves hash old lines (bytes ++ rest) new
      → 0 < length rest
      → BreaksOff old lines bytes
  Serves-begins old new [] bytes rest serves some = absurd (omega (arith, ap length serves.0, length-append bytes rest))
  Serves-begins old new (line ∷ lines) bytes rest serves some =
      by_place (ends_within (serves.0 ++ line_feed ∷ []) serves.2 bytes rest (append_assoc serves.0 (line_feed ∷ []) serves.2 ∙ sym serves.4))
      (λ more others. Serves-begins serves.1 new lines more rest (subst (λ b. Serves hash serves.1 lines b new) others serves.5) some)
    where
      by_place :
          (((others : List ℕ) × (serves.0 ++ line_feed ∷ [] ≡ bytes ++ others) × (0 < length others)) ⊎
          ((more : List ℕ) × (bytes ≡ (serves.0 ++ line_feed ∷ []) ++ more) × (serves.2 ≡ more ++ rest)))
          → ((more : List ℕ) → serves.2 ≡ more ++ rest → BreaksOff serves.1 lines more)
          → BreaksOff old (line ∷ lines) bytes
      by_place (inl (others, is, lost)) further =
          record {
            done = [];
            next = line;
            later = lines;
            lines_are = refl;
            whole = [];
            mid = old;
            serves = (refl, refl);
            part = bytes;
            begins = record { out = serves.0; new = serves.1; answers = serves.3; rest = others; parts = is; broken = lost };
            bytes_are = refl;
          }
      by_place (inr (more, is, others)) further = BreaksOff-cons old serves.1 line serves.0 lines bytes more serves.3 is (further more others)

-- ---- the ends

module _
    {O : Type 0} (g : sink.Ghosts O) (hasher : BuildHasherDefault FoldHasher) (is_default : IsDefaultHasher hasher)
    (output : O)
  where
    abbrev pub start : Moment (BuildHasherDefault FoldHasher) O
    start = moment (empty_state hasher) output []

    -- all lines are answered, and nothing waits
    end_of_input :
        (input : List ℕ) (left : Option (List ℕ)) (new : Moment (BuildHasherDefault FoldHasher) O)
        → Obeys default_hash_u32 g start (lines_of input) (Ok tt) new
        → new.waits ≡ []
        → ServesUntil (Ok tt) input left (g.written output) (g.written new.output)
    end_of_input input left new o none =
        record {
          hasher = hasher;
          is_default = is_default;
          lines = lines_of input;
          bytes = o.out;
          last = new.items;
          serves = o.serves;
          part = [];
          written = rw append-nil (Sends-all {E = Unit {0}} g output new.output o.out (subst (λ w. Sends {E = Unit {0}} g output [] o.out (Ok tt) new.output w) none o.sends));
          ends = (refl, refl);
        }

    -- all whole lines that were read are
    failed_read :
        (input : List ℕ) (left : Option (List ℕ)) (seen : List ℕ) (new : Moment (BuildHasherDefault FoldHasher) O)
        (kept : Option (List ℕ))
        → Consumes (Some input) left seen
        → Feeds default_hash_u32 g start [] seen (Ok tt) new kept
        → new.waits ≡ []
        → ServesUntil (Err Read) input left (g.written output) (g.written new.output)
    failed_read input left seen new kept taken f none =
        let o = f.obeys in
        let keeps = f.keeps in
        let whole : whole_lines_of seen ≡ f.done = ap whole_lines_of f.bytes_are ∙ whole_lines_of-ended f.done f.left f.each_one_line keeps.one_line in
        record {
          hasher = hasher;
          is_default = is_default;
          lines = f.done;
          bytes = o.out;
          last = new.items;
          serves = o.serves;
          part = [];
          written = rw append-nil (Sends-all {E = Unit {0}} g output new.output o.out (subst (λ w. Sends {E = Unit {0}} g output [] o.out (Ok tt) new.output w) none o.sends));
          ends = (seen, taken, sym whole, refl);
        }

    -- some first lines are, and a beginning of what they were answered is written
    failed_write :
        (e : Unit {0}) (input : List ℕ) (left : Option (List ℕ)) (lines more : List (List ℕ))
        (new : Moment (BuildHasherDefault FoldHasher) O)
        → Obeys default_hash_u32 g start lines (Err e) new
        → lines_of input ≡ lines ++ more
        → ServesUntil (Err Write) input left (g.written output) (g.written new.output)
    failed_write e input left lines more new o are =
        let s = o.sends in
        let b = Serves-begins default_hash_u32 (empty_state hasher) new.items lines s.out s.others (subst (λ l. Serves default_hash_u32 (empty_state hasher) lines l new.items) s.parts o.serves) s.lost in
        record {
          hasher = hasher;
          is_default = is_default;
          lines = b.done;
          bytes = b.whole;
          last = b.mid;
          serves = b.serves;
          part = b.part;
          written = subst (Appends (g.written output) (g.written new.output)) b.bytes_are s.written;
          ends = (b.next, b.later ++ more, are ∙ ap (λ l. l ++ more) b.lines_are ∙ append_assoc b.done (b.next ∷ b.later) more, b.begins);
        }

    -- and so where the bytes that were read end them
    failed_feed :
        (e : Unit {0}) (input : List ℕ) (left : Option (List ℕ)) (seen : List ℕ)
        (new : Moment (BuildHasherDefault FoldHasher) O) (kept : Option (List ℕ))
        → Consumes (Some input) left seen
        → Feeds default_hash_u32 g start [] seen (Err e) new kept
        → ServesUntil (Err Write) input left (g.written output) (g.written new.output)
    failed_feed e input left seen new kept taken f =
        let r = Consumes-rest input left seen taken in
        failed_write e input left f.done (lines_of (f.left ++ r.0)) new f.obeys
        (ap lines_of (r.1 ∙ ap (λ l. l ++ r.0) f.bytes_are ∙ append_assoc (ended f.done) f.left r.0) ∙ lines_of-ended f.done (f.left ++ r.0) f.each_one_line)

    -- where the line that had begun is answered too, all lines are
    all_lines :
        (input : List ℕ) (left after : Option (List ℕ)) (count : ℕ) (now new : Moment (BuildHasherDefault FoldHasher) O)
        (kept : Option (List ℕ)) (r : Result (Unit {0}) (Unit {0}))
        → Reads default_hash_u32 g start input left count now kept
        → Consumes left after []
        → IsAtEnd after
        → ((line : List ℕ) → IsKept kept line → Obeys default_hash_u32 g now (lines_of line) r new)
        → Obeys default_hash_u32 g start (lines_of input) r new
    all_lines input left after count now new kept r reads taken at_end finishes =
        let f = reads.feeds in
        let all : input ≡ ended f.done ++ f.left = Consumes-all input after (reads.seen ++ []) (Consumes-trans (Some input) left after reads.seen [] reads.taken taken) at_end ∙ append-nil reads.seen ∙ f.bytes_are in
        let lines : lines_of input ≡ f.done ++ lines_of f.left = ap lines_of all ∙ lines_of-ended f.done f.left f.each_one_line in
        subst (λ ls. Obeys default_hash_u32 g start ls r new) (sym lines) (Obeys-append default_hash_u32 g start now new f.done (lines_of f.left) r f.obeys (finishes f.left f.keeps))

    pub ends :
        (told left after : Option (List ℕ)) (count : ℕ) (now new : Moment (BuildHasherDefault FoldHasher) O)
        (kept : Option (List ℕ))
        → IfSome told (λ bytes. Reads default_hash_u32 g start bytes left count now kept)
        → Consumes left after []
        → IsAtEnd after
        → ((line : List ℕ) → IsKept kept line → Obeys default_hash_u32 g now (lines_of line) (Ok tt) new)
        → new.waits ≡ []
        → IfSome told (λ bytes. ServesUntil (Ok tt) bytes after (g.written output) (g.written new.output))
    ends None left after count now new kept reads taken at_end finishes none = tt
    ends (Some input) left after count now new kept reads taken at_end finishes none =
        end_of_input input after new (all_lines input left after count now new kept (Ok tt) reads taken at_end finishes) none

    pub ends_at_finish :
        (e : Unit {0}) (told left after : Option (List ℕ)) (count : ℕ)
        (now new : Moment (BuildHasherDefault FoldHasher) O) (kept : Option (List ℕ))
        → IfSome told (λ bytes. Reads default_hash_u32 g start bytes left count now kept)
        → Consumes left after []
        → IsAtEnd after
        → ((line : List ℕ) → IsKept kept line → Obeys default_hash_u32 g now (lines_of line) (Err e) new)
        → IfSome told (λ bytes. ServesUntil (Err Write) bytes after (g.written output) (g.written new.output))
    ends_at_finish e None left after count now new kept reads taken at_end finishes = tt
    ends_at_finish e (Some input) left after count now new kept reads taken at_end finishes =
        failed_write e input after (lines_of input) [] new (all_lines input left after count now new kept (Err e) reads taken at_end finishes) (sym (append-nil (lines_of input)))

    pub ends_at_read :
        (told left after : Option (List ℕ)) (count : ℕ) (now : Moment (BuildHasherDefault FoldHasher) O)
        (kept : Option (List ℕ))
        → IfSome told (λ bytes. Reads default_hash_u32 g start bytes left count now kept)
        → Keeps left after
        → now.waits ≡ []
        → IfSome told (λ bytes. ServesUntil (Err Read) bytes after (g.written output) (g.written now.output))
    ends_at_read None left after count now kept reads none_taken none = tt
    ends_at_read (Some input) left after count now kept reads none_taken none =
        failed_read input after reads.seen now kept (Consumes-kept (Some input) left after reads.seen reads.taken none_taken) reads.feeds none

    pub ends_at_flush :
        (e : Unit {0}) (told left : Option (List ℕ)) (count : ℕ) (now : Moment (BuildHasherDefault FoldHasher) O)
        (kept : Option (List ℕ)) (last : O) (waits : List ℕ)
        → IfSome told (λ bytes. Reads default_hash_u32 g start bytes left count now kept)
        → Sends {E = Unit {0}} g now.output now.waits [] (Err e) last waits
        → IfSome told (λ bytes. ServesUntil (Err Write) bytes left (g.written output) (g.written last))
    ends_at_flush e None left count now kept last waits reads flushed = tt
    ends_at_flush e (Some input) left count now kept last waits reads flushed =
        failed_feed e input left reads.seen (moment now.items last waits) kept reads.taken (Feeds-flush default_hash_u32 g start now [] reads.seen kept last waits (Err e) reads.feeds flushed)

    pub ends_at_feed :
        (e : Unit {0}) (told left after : Option (List ℕ)) (count : ℕ)
        (now new : Moment (BuildHasherDefault FoldHasher) O) (kept last : Option (List ℕ)) (bytes : List ℕ)
        → IfSome told (λ all. Reads default_hash_u32 g start all left count now kept)
        → Consumes left after bytes
        → ((line : List ℕ) → IsKept kept line → Feeds default_hash_u32 g now line bytes (Err e) new last)
        → IfSome told (λ all. ServesUntil (Err Write) all after (g.written output) (g.written new.output))
    ends_at_feed e None left after count now new kept last bytes reads taken fed = tt
    ends_at_feed e (Some input) left after count now new kept last bytes reads taken fed =
        let f = reads.feeds in
        failed_feed e input after (reads.seen ++ bytes) new last (Consumes-trans (Some input) left after reads.seen bytes reads.taken taken)
        (Feeds-append default_hash_u32 g start now new [] reads.seen bytes kept last (Err e) f (fed f.left f.keeps))

-- so many reads that the bytes are too many
pub fails_late :
    {S O : Type 0} (hash : S → ℕ → ℕ) (g : sink.Ghosts O) (old : Moment S O) (told left : Option (List ℕ)) (count : ℕ)
    (now : Moment S O) (kept : Option (List ℕ)) (reading writing : Bool)
    → IfSome told (λ bytes. Reads hash g old bytes left count now kept)
    → most_reads ≤ count
    → writing ≡ false
    → FailsAt (Err Read) told reading writing
fails_late hash g old None left count now kept reading writing reads late not_failed = (tt, not_failed)
fails_late hash g old (Some input) left count now kept reading writing reads late not_failed =
    let r = Consumes-rest input left reads.seen reads.taken in
    ((λ small. absurd (omega (arith, small, late, reads.counted, ap length r.1, length-append reads.seen r.0))), not_failed)

-- ---- what is said of the end of the input alone, for callers

ServesAll-from_end :
    (input : List ℕ) (left before after : Option (List ℕ))
    → ServesUntil (Ok tt) input left before after
    → ServesAll input before after
ServesAll-from_end input left before after s =
    record {
      hasher = s.hasher;
      is_default = s.is_default;
      bytes = s.bytes;
      last = s.last;
      serves = subst (λ ls. Serves default_hash_u32 (empty_state s.hasher) ls s.bytes s.last) s.ends.0 s.serves;
      written = subst (Appends before after) (ap (λ p. s.bytes ++ p) s.ends.1 ∙ append-nil s.bytes) s.written;
    }

pub all_served :
    (r : Result (Unit {0}) ServeFault) (told left before after : Option (List ℕ))
    → IfSome told (λ bytes. ServesUntil r bytes left before after)
    → OnOk r (IfSome told (λ bytes. ServesAll bytes before after))
all_served (Err fault) told left before after s = tt
all_served (Ok u) None left before after s = tt
all_served (Ok u) (Some input) left before after s = ServesAll-from_end input left before after s

pub unbroken :
    (r : Result (Unit {0}) ServeFault) (told : Option (List ℕ)) (reading writing : Bool)
    → FailsAt r told reading writing
    → OnOk r ((reading ≡ false) × (writing ≡ false))
unbroken (Err fault) told reading writing f = tt
unbroken (Ok u) told reading writing f = f
