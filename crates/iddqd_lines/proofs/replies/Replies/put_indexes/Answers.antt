use Rattle.iddqd_lines.specs.Replies.{spaced}
use Rattle.iddqd_lines.proofs.ByteLemmas.{Sends-element, Sends-stop, Sends-end}
use Rattle.iddqd_lines.proofs.replies.Replies.put_indexes.Goals as goal

pub loop-ix-preserved : goal.loop-ix-preserved
loop-ix-preserved g c =
    Sends-element g.O.Sink spaced c.args.indexes.now c.loop-ix.ix-index _ _ _ _ _ c.loop-ix.invariant c.ix-item.result c.loop-ix-test.true c.ix-item.is _ _ c.in_ok-make_room.ensures.sends c.put_spaced.ensures.appends

pub returns-in_err-make_room-clause-sends : goal.returns-in_err-make_room-clause-sends
returns-in_err-make_room-clause-sends g c =
    Sends-stop g.O.Sink spaced c.args.indexes.now c.loop-ix.ix-index _ _ _ _ _ c.loop-ix.invariant _ _ c.from_residual.result c.from_residual.ensures.0 c.in_err-make_room.ensures.sends

pub returns-clause-sends : goal.returns-clause-sends
returns-clause-sends g c =
    Sends-end g.O.Sink spaced c.args.indexes.now c.loop-ix.ix-index _ _ _ _ _ c.loop-ix.invariant c.loop-ix-test.false _ _ c.make_room-2.ensures.sends
