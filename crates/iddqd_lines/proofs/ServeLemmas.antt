-- How the answers to lines join, over all reads of an input.
use Rattle.std.proofs.Common.{◌≡◌, ◌≢◌, ◌==◌, ◌+◌, ◌<◌, ◌≤◌, false, Result, Ok, Err, OnOk, IsErr, ℕ, zero, suc, Option, Some, None, IfSome, MatchOption, List, [], ◌∷◌, ◌++◌, length, codes, refl, sym, ap, subst, ◌∙◌, append_assoc, append-nil, arith, length-append}
use Rattle.std.specs.Io.KnownBytes.{Consumes}
use Rattle.std.specs.Option.{option_and_then}
use Rattle.std.proofs.lemmas.List.Elements.{All-append, All-nil, All-cons}
use Rattle.std.proofs.lemmas.List.Splits.{slice_split_none}
use Rattle.iddqd_driver.specs.State.{State, empty_state}
use Rattle.iddqd_lines.specs.Line.{line_feed, is_line_feed, lines_of, without_empty_last, request_of}
use Rattle.iddqd_lines.specs.Split.{HasNo, IsSplitAt}
use Rattle.iddqd_lines.specs.Replies.{Sends}
use Rattle.iddqd_lines.specs.Program.{AnswersRequest, AnswersLine, Serves}
use Rattle.iddqd_lines.specs.Serve.{Moment, moment, ended, kept_line, IsKept, RepliesTo, Obeys, Feeds}
use Rattle.iddqd_driver.specs.declared.command.Command.{Command}
use Rattle.iddqd_lines.specs.declared.line.Request.{Request}
use Rattle.iddqd_lines.specs.declared.record.Record.{Record}
use Rattle.iddqd_lines.specs.declared.sink.Sink as sink
use Rattle.iddqd_lines.proofs.ByteLemmas.{Sends-put, Sends-then, Sends-last, Consumes-trans}
use Rattle.iddqd_lines.proofs.LineLemmas.{request_of-kept}
use Rattle.iddqd_lines.proofs.LineBufferLemmas.{kept_line-append, kept_line-some}

-- the request that a line is which had begun and goes on
pub request_of-more :
    (kept : Option (List ℕ)) (line more : List ℕ)
    → kept ≡ kept_line line
    → option_and_then request_of (option_and_then (λ begun. kept_line (begun ++ more)) kept) ≡ request_of (line ++ more)
request_of-more kept line more is = rw (is, kept_line-append line more) (request_of-kept (line ++ more))

-- that of a line which has begun
pub request_of-begun :
    (kept : Option (List ℕ)) (line : List ℕ)
    → kept ≡ kept_line line
    → option_and_then request_of kept ≡ request_of line
request_of-begun kept line is = rw is (request_of-kept line)

module _ {S : Type 0} (hash : S → ℕ → ℕ) where
  -- a request's line is answered
  pub AnswersLine-request :
      (old new : State Record S) (line out : List ℕ) (request : Request (Command Record ℕ ℕ))
      → Some request ≡ request_of line
      → AnswersRequest hash old out new request
      → AnswersLine hash old line out new
  AnswersLine-request old new line out request is answers =
      subst (λ o. MatchOption o ((out ≡ codes "bad line") × (new ≡ old)) (AnswersRequest hash old out new)) is answers

  -- and so is any other
  pub AnswersLine-other :
      (old : State Record S) (line : List ℕ)
      → None ≡ request_of line
      → AnswersLine hash old line (codes "bad line") old
  AnswersLine-other old line is =
      subst (λ o. MatchOption o ((codes "bad line" ≡ codes "bad line") × (old ≡ old)) (AnswersRequest hash old (codes "bad line") old)) is (refl, refl)

  -- some lines, and then others
  pub Serves-append :
      (old mid new : State Record S) (lines more : List (List ℕ)) (bytes rest : List ℕ)
      → Serves hash old lines bytes mid
      → Serves hash mid more rest new
      → Serves hash old (lines ++ more) (bytes ++ rest) new
  Serves-append old mid new [] more bytes rest p q =
      subst (λ b. Serves hash old more (b ++ rest) new) (sym p.0) (subst (λ s. Serves hash s more rest new) p.1 q)
  Serves-append old mid new (line ∷ lines) more bytes rest p q =
      (p.0, p.1, p.2 ++ rest, p.3, ap (λ b. b ++ rest) p.4 ∙ append_assoc p.0 (line_feed ∷ p.2) rest, Serves-append p.1 mid new lines more p.2 rest p.5 q)

HasNo-append : (xs ys : List ℕ) → HasNo line_feed xs → HasNo line_feed ys → HasNo line_feed (xs ++ ys)
HasNo-append xs ys p q = All-append (λ b. (b == line_feed) ≡ false) xs ys p q

HasNo-nil : HasNo line_feed []
HasNo-nil = All-nil (λ b. (b == line_feed) ≡ false)

ended-append : (lines more : List (List ℕ)) → ended (lines ++ more) ≡ ended lines ++ ended more
ended-append [] more = refl
ended-append (line ∷ lines) more = ap (λ l. line ++ line_feed ∷ l) (ended-append lines more) ∙ sym (append_assoc line (line_feed ∷ ended lines) (ended more))

module _ {S O : Type 0} (hash : S → ℕ → ℕ) (g : sink.Ghosts O) where
  -- no line
  pub Obeys-none : (old : Moment S O) → Obeys hash g old [] (Ok tt) old
  Obeys-none old =
      record { out = []; serves = (refl, refl); sends = Sends-put {E = Unit {0}} g old.output old.waits [] old.waits (sym (append-nil old.waits)) }

  -- a line and its answer
  pub Obeys-line :
      (old new : Moment S O) (line out : List ℕ) (r : Result (Unit {0}) (Unit {0}))
      → AnswersLine hash old.items line out new.items
      → Sends g old.output old.waits (out ++ line_feed ∷ []) r new.output new.waits
      → Obeys hash g old (line ∷ []) r new
  Obeys-line old new line out r answers sends =
      record { out = out ++ line_feed ∷ []; serves = (out, new.items, [], answers, refl, (refl, refl)); sends = sends }

  -- a line's request is answered
  pub Obeys-request :
      (old new : Moment S O) (line : List ℕ) (request : Request (Command Record ℕ ℕ)) (r : Result (Unit {0}) (Unit {0}))
      → Some request ≡ request_of line
      → RepliesTo hash g old request r new
      → Obeys hash g old (line ∷ []) r new
  Obeys-request old new line request r is tells =
      Obeys-line old new line tells.out r (AnswersLine-request hash old.items new.items line tells.out request is tells.answers) tells.sends

  -- some lines, and then others
  pub Obeys-append :
      (old mid new : Moment S O) (lines more : List (List ℕ)) (r : Result (Unit {0}) (Unit {0}))
      → Obeys hash g old lines (Ok tt) mid
      → Obeys hash g mid more r new
      → Obeys hash g old (lines ++ more) r new
  Obeys-append old mid new lines more r p q =
      record {
        out = p.out ++ q.out;
        serves = Serves-append hash old.items mid.items new.items lines more p.out q.out p.serves q.serves;
        sends = Sends-then g old.output mid.output new.output old.waits p.out mid.waits q.out new.waits r p.sends q.sends;
      }

  -- and then what waits is written
  pub Obeys-flush :
      (old now : Moment S O) (lines : List (List ℕ)) (output : O) (waits : List ℕ) (r : Result (Unit {0}) (Unit {0}))
      → Obeys hash g old lines (Ok tt) now
      → Sends g now.output now.waits [] r output waits
      → Obeys hash g old lines r (moment now.items output waits)
  Obeys-flush old now lines output waits r p flushed =
      record { out = p.out; serves = p.serves; sends = Sends-last g old.output now.output output old.waits p.out now.waits waits r p.sends flushed }

  -- and where they failed, any error tells it
  pub Obeys-fails :
      (old new : Moment S O) (lines : List (List ℕ)) (e : Unit {0}) (r : Result (Unit {0}) (Unit {0}))
      → IsErr r
      → Obeys hash g old lines (Err e) new
      → Obeys hash g old lines r new
  Obeys-fails old new lines e (Ok u) err p = absurd (cc)
  Obeys-fails old new lines e (Err d) err p =
      let s = p.sends in
      record {
        out = p.out;
        serves = p.serves;
        sends = record { out = s.out; others = s.others; parts = s.parts; written = s.written; rest = tt; lost = s.lost; failed = s.failed };
      }

  -- where no line has begun, there is none to answer at the end
  pub Obeys-unbegun :
      (old : Moment S O) (output : O) (waits : List ℕ) (r : Result (Unit {0}) (Unit {0})) (kept : Option (List ℕ))
      (line : List ℕ)
      → kept ≡ Some []
      → Sends g old.output old.waits [] r output waits
      → IsKept kept line
      → Obeys hash g old (lines_of line) r (moment old.items output waits)
  Obeys-unbegun old output waits r kept line none flushed keeps =
      let no_line : line ≡ [] = kept_line-some line [] (sym keeps.bytes ∙ none) in
      subst (λ l. Obeys hash g old (lines_of l) r (moment old.items output waits)) (sym no_line) (Obeys-flush old old [] output waits r (Obeys-none old) flushed)

  -- and where one has, it is the line
  pub Obeys-begun :
      (old new : Moment S O) (r : Result (Unit {0}) (Unit {0})) (kept : Option (List ℕ)) (line : List ℕ)
      → (kept ≡ Some [] → ⊥)
      → Obeys hash g old (line ∷ []) r new
      → IsKept kept line
      → Obeys hash g old (lines_of line) r new
  Obeys-begun old new r kept [] some obeys keeps = absurd (some keeps.bytes)
  Obeys-begun old new r kept (b ∷ bs) some obeys keeps =
      let line : List ℕ = b ∷ bs in
      let whole : lines_of line ≡ line ∷ [] = ap without_empty_last (slice_split_none is_line_feed line keeps.one_line) in
      subst (λ ls. Obeys hash g old ls r new) (sym whole) obeys

  -- some bytes, and then others
  pub Feeds-append :
      (old next new : Moment S O) (partial bytes more : List ℕ) (kept last : Option (List ℕ))
      (r : Result (Unit {0}) (Unit {0})) (f : Feeds hash g old partial bytes (Ok tt) next kept)
      → Feeds hash g next f.left more r new last
      → Feeds hash g old partial (bytes ++ more) r new last
  Feeds-append old next new partial bytes more kept last r f h =
      record {
        done = f.done ++ h.done;
        left = h.left;
        bytes_are =
            sym (append_assoc partial bytes more) ∙ ap (λ l. l ++ more) f.bytes_are ∙ append_assoc (ended f.done) f.left more
            ∙ ap (λ l. ended f.done ++ l) h.bytes_are ∙ sym (append_assoc (ended f.done) (ended h.done) h.left) ∙ ap (λ l. l ++ h.left) (sym (ended-append f.done h.done));
        each_one_line = All-append (HasNo line_feed) f.done h.done f.each_one_line h.each_one_line;
        keeps = h.keeps;
        obeys = Obeys-append old next new f.done h.done r f.obeys h.obeys;
      }

  -- and then what waits is written
  pub Feeds-flush :
      (old now : Moment S O) (partial bytes : List ℕ) (kept : Option (List ℕ)) (output : O) (waits : List ℕ)
      (r : Result (Unit {0}) (Unit {0}))
      → Feeds hash g old partial bytes (Ok tt) now kept
      → Sends g now.output now.waits [] r output waits
      → Feeds hash g old partial bytes r (moment now.items output waits) kept
  Feeds-flush old now partial bytes kept output waits r f flushed =
      record { done = f.done; left = f.left; bytes_are = f.bytes_are; each_one_line = f.each_one_line; keeps = on_ok _ r f.keeps; obeys = Obeys-flush old now f.done output waits r f.obeys flushed }
    where
      on_ok : (P : Type 0) (r : Result (Unit {0}) (Unit {0})) → P → OnOk r P
      on_ok P (Ok u) p = p
      on_ok P (Err e) p = tt

  -- before the first byte
  pub Feeds-none :
      (old : Moment S O) (partial : List ℕ) (kept : Option (List ℕ))
      → IsKept kept partial
      → Feeds hash g old partial [] (Ok tt) old kept
  Feeds-none old partial kept keeps =
      record {
        done = [];
        left = partial;
        bytes_are = append-nil partial;
        each_one_line = All-nil (HasNo line_feed);
        keeps = keeps;
        obeys = Obeys-none old;
      }

  -- a line that ends
  Feeds-end :
      (old new : Moment S O) (partial end after : List ℕ) (last : Option (List ℕ)) (r : Result (Unit {0}) (Unit {0}))
      → HasNo line_feed partial
      → HasNo line_feed end
      → Obeys hash g old ((partial ++ end) ∷ []) r new
      → OnOk r (IsKept last after)
      → Feeds hash g old partial (end ++ line_feed ∷ after) r new last
  Feeds-end old new partial end after last r one_line more obeys keeps =
      record {
        done = (partial ++ end) ∷ [];
        left = after;
        bytes_are = sym (append_assoc partial end (line_feed ∷ after)) ∙ sym (append_assoc (partial ++ end) (line_feed ∷ []) after);
        each_one_line = All-cons (HasNo line_feed) (partial ++ end) [] (HasNo-append partial end one_line more) (All-nil (HasNo line_feed));
        keeps = keeps;
        obeys = obeys;
      }

  -- a line that goes on
  Feeds-begin :
      (old : Moment S O) (partial bytes : List ℕ) (kept : Option (List ℕ))
      → HasNo line_feed partial
      → HasNo line_feed bytes
      → kept ≡ kept_line (partial ++ bytes)
      → Feeds hash g old partial bytes (Ok tt) old kept
  Feeds-begin old partial bytes kept one_line more is =
      record {
        done = [];
        left = partial ++ bytes;
        bytes_are = refl;
        each_one_line = All-nil (HasNo line_feed);
        keeps = record { bytes = is; one_line = HasNo-append partial bytes one_line more };
        obeys = Obeys-none old;
      }

  -- one line more, and where a write failed the bytes behind it
  pub Feeds-line :
      (old next new : Moment S O) (partial seen : List ℕ) (kept last : Option (List ℕ)) (rest end after behind : List ℕ)
      (r : Result (Unit {0}) (Unit {0}))
      → Feeds hash g old partial seen (Ok tt) next kept
      → IsSplitAt line_feed rest end after
      → ((line : List ℕ) → kept ≡ kept_line line → Obeys hash g next ((line ++ end) ∷ []) r new)
      → OnOk r (IsKept last behind)
      → Feeds hash g old partial (seen ++ (end ++ line_feed ∷ behind)) r new last
  Feeds-line old next new partial seen kept last rest end after behind r f cut obeys forgets =
      let keeps = f.keeps in
      Feeds-append old next new partial seen (end ++ line_feed ∷ behind) kept last r f (Feeds-end next new f.left end behind last r keeps.one_line cut.first (obeys f.left keeps.bytes) forgets)

  -- the bytes behind the last line feed
  pub Feeds-rest :
      (old next : Moment S O) (partial seen : List ℕ) (kept last : Option (List ℕ)) (rest : List ℕ)
      → Feeds hash g old partial seen (Ok tt) next kept
      → HasNo line_feed rest
      → last ≡ option_and_then (λ begun. kept_line (begun ++ rest)) kept
      → Feeds hash g old partial (seen ++ rest) (Ok tt) next last
  Feeds-rest old next partial seen kept last rest f none is =
      let keeps = f.keeps in
      Feeds-append old next next partial seen rest kept last (Ok tt) f (Feeds-begin next f.left rest last keeps.one_line none (is ∙ ap (λ k. option_and_then (λ begun. kept_line (begun ++ rest)) k) keeps.bytes ∙ kept_line-append f.left rest))

-- what holds where all went well, where it didn't
pub on_failed : (P : Type 0) (r : Result (Unit {0}) (Unit {0})) → IsErr r → OnOk r P
on_failed P (Ok u) err = absurd (cc)
on_failed P (Err e) err = tt

-- a read that isn't the end
pub some_bytes : (n m : ℕ) → n ≢ 0 → n ≡ m → 0 < m
some_bytes zero m not_none same = absurd (not_none refl)
some_bytes (suc n) m not_none same = omega (arith, same)

-- a forgotten line
pub kept_none : (last : Option (List ℕ)) → last ≡ Some [] → IsKept last []
kept_none last none = record { bytes = none; one_line = HasNo-nil }

-- what the loop over reads keeps after so many reads, of the bytes that the source told at first
pub record Reads
    {S O : Type 0} (hash : S → ℕ → ℕ) (g : sink.Ghosts O) (old : Moment S O) (bytes : List ℕ) (left : Option (List ℕ))
    (count : ℕ) (now : Moment S O) (kept : Option (List ℕ))
    : Type 0 where
  pub seen : List ℕ
  pub taken : Consumes (Some bytes) left seen
  pub counted : count ≤ length seen
  pub feeds : Feeds hash g old [] seen (Ok tt) now kept

module _ {S O : Type 0} (hash : S → ℕ → ℕ) (g : sink.Ghosts O) where
  -- before the first read
  pub Reads-none :
      (left : Option (List ℕ)) (hasher : S) (items : State Record S) (output : O) (kept : Option (List ℕ))
      (waits : List ℕ)
      → items ≡ empty_state hasher
      → kept ≡ Some []
      → waits ≡ []
      → IfSome left (λ bytes. Reads hash g (moment (empty_state items.hasher) output []) bytes left 0
      (moment items output waits) kept)
  Reads-none left hasher items output kept waits none no_line no_reply = by_left left
    where
      feeds : Feeds hash g (moment (empty_state items.hasher) output []) [] [] (Ok tt) (moment items output waits) kept
      feeds =
          subst (λ i. Feeds hash g (moment (empty_state i.hasher) output []) [] [] (Ok tt) (moment i output waits) kept) (sym none)
          (rw (no_line, no_reply) (Feeds-none hash g (moment (empty_state hasher) output []) [] (Some []) (kept_none (Some []) refl)))

      by_left :
          (left : Option (List ℕ))
          → IfSome left (λ bytes. Reads hash g (moment (empty_state items.hasher) output []) bytes left 0
          (moment items output waits) kept)
      by_left None = tt
      by_left (Some bytes) = record { seen = []; taken = refl; counted = omega arith; feeds = feeds }

module _ {S O : Type 0} (hash : S → ℕ → ℕ) (g : sink.Ghosts O) (old : Moment S O) where
  -- a write of what waits sends nothing new
  pub Reads-flush :
      (told left : Option (List ℕ)) (count : ℕ) (now : Moment S O) (kept : Option (List ℕ)) (output : O)
      (waits : List ℕ)
      → IfSome told (λ bytes. Reads hash g old bytes left count now kept)
      → Sends {E = Unit {0}} g now.output now.waits [] (Ok tt) output waits
      → IfSome told (λ bytes. Reads hash g old bytes left count (moment now.items output waits) kept)
  Reads-flush None left count now kept output waits r flushed = tt
  Reads-flush (Some bytes) left count now kept output waits r flushed =
      record { seen = r.seen; taken = r.taken; counted = r.counted; feeds = Feeds-flush hash g old now [] r.seen kept output waits (Ok tt) r.feeds flushed }

  -- a read of some bytes, and these are fed
  pub Reads-more :
      (told left after : Option (List ℕ)) (count : ℕ) (now new : Moment S O) (kept last : Option (List ℕ))
      (bytes : List ℕ)
      → IfSome told (λ all. Reads hash g old all left count now kept)
      → Consumes left after bytes
      → 0 < length bytes
      → ((line : List ℕ) → IsKept kept line → Feeds hash g now line bytes (Ok tt) new last)
      → IfSome told (λ all. Reads hash g old all after (count + 1) new last)
  Reads-more None left after count now new kept last bytes r taken some fed = tt
  Reads-more (Some all) left after count now new kept last bytes r taken some fed =
      let f = r.feeds in
      record {
        seen = r.seen ++ bytes;
        taken = Consumes-trans (Some all) left after r.seen bytes r.taken taken;
        counted = omega (arith, r.counted, some, length-append r.seen bytes);
        feeds = Feeds-append hash g old now new [] r.seen bytes kept last (Ok tt) f (fed f.left f.keeps);
      }
