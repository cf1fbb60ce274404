use Rattle.std.proofs.Common.{◌∙◌, arith}
use Rattle.iddqd_lines.proofs.ByteLemmas.{Keeps-refl}
use Rattle.iddqd_lines.proofs.ServeLemmas.{Reads-none, Reads-flush, Reads-more, some_bytes}
use Rattle.iddqd_lines.proofs.EndLemmas.{ends, ends_at_finish, ends_at_read, ends_at_flush, ends_at_feed, fails_late}
use Rattle.iddqd_lines.proofs.serve.serve_blocks.Goals as goal

pub reads-init : goal.reads-init
reads-init g c = record {
  reads = Reads-none _ g.O.Sink _ _ _ _ _ _ c.requires.no_item c.requires.no_line c.requires.no_reply;
  reading = c.requires.reads;
  writing = c.requires.writes;
}

pub reads-preserved : goal.reads-preserved
reads-preserved g c =
    let sent = c.in-Ok.ensures.sends in
    let read = c.in-Ok-read.ensures in
    record {
      reads =
          Reads-more _ g.O.Sink _ _ _ _ _ _ _ _ _ _
          (Reads-flush _ g.O.Sink _ _ _ _ _ _ _ _ c.reads.invariant.reads sent)
          read.bytes.0 (some_bytes _ _ c.if-count-eq0.false read.bound.1) c.in-Ok-feed.ensures.feeds;
      reading = read.failed ∙ c.reads.invariant.reading;
      writing = c.in-Ok-feed.ensures.failed ∙ sent.failed ∙ c.reads.invariant.writing;
    }

pub returns-in_default-clause-serves : goal.returns-in_default-clause-serves
returns-in_default-clause-serves g c =
    ends_at_flush g.O.Sink _ c.requires.hasher c.args.output.now _ _ (g.I.Source.left c.reads.input) _ _ c.reads.partial c.flush.new.output _ c.reads.invariant.reads c.in_default.ensures.sends

pub returns-in_default-read-clause-serves : goal.returns-in_default-read-clause-serves
returns-in_default-read-clause-serves g c =
    let flushed = Reads-flush _ g.O.Sink _ _ _ _ _ _ _ _ c.reads.invariant.reads c.in-Ok.ensures.sends in
    ends_at_read g.O.Sink _ c.requires.hasher c.args.output.now _ _ (g.I.Source.left c.read.new.self) _ _ c.reads.partial flushed c.in_default-read.ensures.bytes c.in-Ok.ensures.none_waits

pub returns-then-count-eq0-clause-serves : goal.returns-then-count-eq0-clause-serves
returns-then-count-eq0-clause-serves g c =
    let flushed = Reads-flush _ g.O.Sink _ _ _ _ _ _ _ _ c.reads.invariant.reads c.in-Ok.ensures.sends in
    let read = c.in-Ok-read.ensures.bytes in
    let zero = c.if-count-eq0.true in
    let nothing = rw zero at read.0 in
    ends g.O.Sink _ c.requires.hasher c.args.output.now _ _ (g.I.Source.left c.read.new.self) _ _ _ c.reads.partial flushed nothing (read.1 zero (omega arith))
    c.in-Ok-finish.ensures.obeys c.in-Ok-finish.ensures.none_waits

pub returns-in_default-finish-clause-serves : goal.returns-in_default-finish-clause-serves
returns-in_default-finish-clause-serves g c =
    let flushed = Reads-flush _ g.O.Sink _ _ _ _ _ _ _ _ c.reads.invariant.reads c.in-Ok.ensures.sends in
    let read = c.in-Ok-read.ensures.bytes in
    let zero = c.if-count-eq0.true in
    let nothing = rw zero at read.0 in
    ends_at_finish g.O.Sink _ c.requires.hasher c.args.output.now _ _ _ (g.I.Source.left c.read.new.self) _ _ _ c.reads.partial flushed nothing (read.1 zero (omega arith))
    c.in_default-finish.ensures.obeys

pub returns-in_default-feed-clause-serves : goal.returns-in_default-feed-clause-serves
returns-in_default-feed-clause-serves g c =
    let flushed = Reads-flush _ g.O.Sink _ _ _ _ _ _ _ _ c.reads.invariant.reads c.in-Ok.ensures.sends in
    ends_at_feed g.O.Sink _ c.requires.hasher c.args.output.now _ _ _ (g.I.Source.left c.read.new.self) _ _ _ c.reads.partial _ _ flushed c.in-Ok-read.ensures.bytes.0 c.in_default-feed.ensures.feeds

pub returns-in-Ok-flush-clause-serves : goal.returns-in-Ok-flush-clause-serves
returns-in-Ok-flush-clause-serves g c =
    let flushed = Reads-flush _ g.O.Sink _ _ _ _ _ _ _ _ c.reads.invariant.reads c.in-Ok-flush.ensures.sends in
    ends_at_read g.O.Sink _ c.requires.hasher c.args.output.now _ _ (g.I.Source.left c.reads.input) _ _ c.reads.partial flushed (Keeps-refl _) c.in-Ok-flush.ensures.none_waits

pub returns-in-Ok-flush-clause-faults : goal.returns-in-Ok-flush-clause-faults
returns-in-Ok-flush-clause-faults g c =
    fails_late _ g.O.Sink _ _ _ _ _ _ _ _ c.reads.invariant.reads c.reads-test.false (c.in-Ok-flush.ensures.sends.failed ∙ c.reads.invariant.writing)

pub returns-in-Err-clause-serves : goal.returns-in-Err-clause-serves
returns-in-Err-clause-serves g c =
    ends_at_flush g.O.Sink _ c.requires.hasher c.args.output.now _ _ (g.I.Source.left c.reads.input) _ _ c.reads.partial _ _ c.reads.invariant.reads c.in-Err.ensures.sends
