use Rattle.std.proofs.Common.{◌≡◌, ◌<◌, ◌-◌, [], length, take, drop, arith, subst, length-drop, take_all}
use Rattle.std.proofs.Math.Seq.{take-add}
use Rattle.std.proofs.lemmas.List.{take-append-drop}
use Rattle.iddqd_lines.proofs.ByteLemmas.{Sends-write, Sends-break, Sends-then}
use Rattle.iddqd_lines.specs.Replies.{Sends}
use Rattle.iddqd_lines.proofs.replies.write_all.Goals as goal

pub loop-at-preserved : goal.loop-at-preserved
loop-at-preserved g c =
    let h = c.in_ok-at.ensures in
    let before = c.loop-at.invariant in
    let bytes = c.args.bytes.now in
    let whole : take (length bytes - c.loop-at.at) (drop c.loop-at.at bytes) ≡ drop c.loop-at.at bytes = take_all (length bytes - c.loop-at.at) (drop c.loop-at.at bytes) (omega (arith, length-drop c.loop-at.at bytes)) in
    let bound = rw whole at h.bound in
    record {
      within = omega (arith, length-drop c.loop-at.at bytes);
      sends = rw take-add (Sends-then g.O.Sink _ _ _ _ _ _ _ _ _ before.sends (Sends-write g.O.Sink _ _ _ (rw whole at h.bytes) h.failed));
    }

pub returns-in_err-at : goal.returns-in_err-at
returns-in_err-at g c =
    let h = c.in_err-at.ensures in
    let at = c.loop-at.at in
    let bytes = c.args.bytes.now in
    let before = c.loop-at.invariant in
    let some : 0 < length (drop at bytes) = omega (arith, length-drop at bytes, c.loop-at-test.true) in
    let failed = Sends-break g.O.Sink _ _ (drop at bytes) c.from_residual.result c.from_residual.ensures.0 h.bytes h.failed some in
    subst (λ l. Sends g.O.Sink c.args.output.now [] l c.from_residual.result c.write.new.self []) (take-append-drop at bytes)
    (Sends-then g.O.Sink _ _ _ _ (take at bytes) _ (drop at bytes) _ _ before.sends failed)
