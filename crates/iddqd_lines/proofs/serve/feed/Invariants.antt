use Rattle.std.proofs.Common.{◌≡◌, ◌++◌, List, ℕ, Ok, length}
use Rattle.iddqd_lines.specs.Program.{hash_u32}
use Rattle.iddqd_lines.specs.Serve.{moment, IsKept, Feeds}
use Rattle.iddqd_lines.proofs.serve.feed.Given as goal

-- the bytes so far were fed, and no write has failed
abbrev pub invariant-loop-end : goal.invariant-loop-end
invariant-loop-end g l = record {
  feeds : (line : List ℕ) → IsKept l.fn.partial line → record {
    seen : List ℕ;
    seen_and_rest : l.fn.bytes ≡ seen ++ l.rest;
    feeds :
        let old = moment l.fn.items.state l.fn.output l.fn.replies in
        let now = moment l.items.state l.output l.replies in
        Feeds (hash_u32 g.S.BuildHasher g.S.Hasher.Hasher) g.O.Sink old line seen (Ok tt) now l.partial;
  };
  writing : g.O.Sink.has_failed l.output ≡ g.O.Sink.has_failed l.fn.output;
}

abbrev pub decreases-loop-end : goal.decreases-loop-end
decreases-loop-end g l = length l.rest
