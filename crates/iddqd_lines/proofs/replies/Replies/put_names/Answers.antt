use Rattle.iddqd_lines.specs.Replies.{spaced_name}
use Rattle.iddqd_lines.proofs.ByteLemmas.{Sends-element, Sends-stop, Sends-end}
use Rattle.iddqd_lines.proofs.replies.Replies.put_names.Goals as goal

pub loop-name-preserved : goal.loop-name-preserved
loop-name-preserved g c =
    Sends-element g.O.Sink spaced_name c.args.names.now c.loop-name.name-index _ _ _ _ _ c.loop-name.invariant c.name-item.result c.loop-name-test.true c.name-item.is _ _ c.in_ok-make_room.ensures.sends c.put_name.ensures.appends

pub returns-in_err-make_room-clause-sends : goal.returns-in_err-make_room-clause-sends
returns-in_err-make_room-clause-sends g c =
    Sends-stop g.O.Sink spaced_name c.args.names.now c.loop-name.name-index _ _ _ _ _ c.loop-name.invariant _ _ c.from_residual.result c.from_residual.ensures.0 c.in_err-make_room.ensures.sends

pub returns-clause-sends : goal.returns-clause-sends
returns-clause-sends g c =
    Sends-end g.O.Sink spaced_name c.args.names.now c.loop-name.name-index _ _ _ _ _ c.loop-name.invariant c.loop-name-test.false _ _ c.make_room-2.ensures.sends
