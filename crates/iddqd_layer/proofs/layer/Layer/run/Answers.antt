use Rattle.std.proofs.Common.{subst, arith}
use Rattle.std.proofs.lemmas.List.{take_all, take_more}
use Rattle.iddqd_layer.proofs.RunLemmas.{RunsTo, RunsTo-none, RunsTo-push, run-of}
use Rattle.iddqd_layer.proofs.layer.Layer.run.Goals as goal

pub loop-command-preserved : goal.loop-command-preserved
loop-command-preserved c =
    let more = take_more c.args.commands.now c.loop-command.command-index c.command-item.result (omega arith) in
    record {
      made =
          rw (more, c.push_reserved.ensures.items, ← c.command-item.is)
          (RunsTo-push _ _ _ _ _ _ _ c.loop-command.invariant.made c.step.ensures);
      pushed = omega arith;
      room = omega arith;
    }

pub loop-command-init : goal.loop-command-init
loop-command-init c = record {
  made = rw c.in_ok-replies.ensures.items (RunsTo-none c.args.self.now);
  pushed = omega (arith, c.in_ok-replies.ensures.len);
  room = omega (arith, c.in_ok-replies.ensures.capacity);
}

pub returns-clause-run : goal.returns-clause-run
returns-clause-run c =
    run-of _ _ c.args.commands.now _ c.len-before.ensures.paired
    (subst (λ z. RunsTo c.args.self.now z c.loop-command.replies.items c.loop-command.self)
    (take_all c.loop-command.command-index c.args.commands.now (omega arith)) c.loop-command.invariant.made)
