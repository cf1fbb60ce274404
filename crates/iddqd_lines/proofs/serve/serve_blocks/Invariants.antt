use Rattle.std.proofs.Common.{◌≡◌, [], false, IfSome}
use Rattle.iddqd_driver.specs.State.{empty_state}
use Rattle.iddqd_lines.specs.Program.{default_hash_u32}
use Rattle.iddqd_lines.specs.Serve.{moment}
use Rattle.iddqd_lines.proofs.ServeLemmas.{Reads}
use Rattle.iddqd_lines.proofs.serve.serve_blocks.Given as goal

-- the bytes that were read were fed, and neither has failed
abbrev pub invariant-reads : goal.invariant-reads
invariant-reads g l = record {
  reads :
      let old = moment (empty_state l.fn.items.state.hasher) l.fn.output [] in
      let now = moment l.items.state l.output l.replies in
      let left = g.I.Source.left in
      IfSome (left l.fn.input) (λ bytes. Reads default_hash_u32 g.O.Sink old bytes (left l.input) l.counter now l.partial);
  reading : g.I.Source.has_failed l.input ≡ false;
  writing : g.O.Sink.has_failed l.output ≡ false;
}
