use Rattle.std.proofs.Common.{[], ◌++◌, sym, ◌∙◌}
use Rattle.iddqd_lines.proofs.LineBufferLemmas.{kept_line-some}
use Rattle.iddqd_lines.proofs.ServeLemmas.{Obeys-fails, request_of-more}
use Rattle.iddqd_lines.proofs.serve.end_line.Goals as goal

pub returns-then-is_empty-clause-obeys : goal.returns-then-is_empty-clause-obeys
returns-then-is_empty-clause-obeys g c = λ line kept.
    let none = kept_line-some line [] (sym kept ∙ c.is_empty.ensures.0 c.if-is_empty.true) in
    rw none (c.obey.ensures.obeys c.args.end.now c.parse.ensures)

pub returns-in_err-obey-clause-obeys : goal.returns-in_err-obey-clause-obeys
returns-in_err-obey-clause-obeys g c = λ line kept.
    Obeys-fails _ g.O.Sink _ _ _ _ c.from_residual.result c.from_residual.ensures.0
    (c.in_err-obey.ensures.obeys (line ++ c.args.end.now) (rw (c.request_in.ensures, c.extend.ensures) (request_of-more _ line c.args.end.now kept)))

pub returns-clause-obeys : goal.returns-clause-obeys
returns-clause-obeys g c = λ line kept.
    c.in_ok-obey.ensures.obeys (line ++ c.args.end.now) (rw (c.request_in.ensures, c.extend.ensures) (request_of-more _ line c.args.end.now kept))
