use Rattle.std.proofs.Common.{ap}
use Rattle.iddqd_lines.specs.Line.{text_of}
use Rattle.iddqd_lines.proofs.serve.run.Goals as goal

pub returns : goal.returns
returns g c = record {
  out = text_of c.step-reply.new.self.state.store c.named_index-named.result c.step-reply.result;
  answers = record {
    reply = c.step-reply.result;
    step = c.step-reply.ensures.step;
    text = ap (λ named. text_of c.step-reply.new.self.state.store named c.step-reply.result) c.named_index-named.ensures;
  };
  sends = c.put_reply.ensures;
}
