use Rattle.iddqd_layer.proofs.layer.Layer.step.Goals as goal

pub returns : goal.returns
returns c = record {
  answers = c.obey-reply.ensures.answers;
  paired = (c.len-before.ensures.paired, c.len-after.ensures.paired);
  fits = c.obey-reply.ensures.fits;
  room = c.obey-reply.ensures.room;
}
