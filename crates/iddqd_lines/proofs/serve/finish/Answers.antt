use Rattle.std.proofs.Common.{◌≡◌, ◌↔◌, ◌∙◌, Bool, false, IsTrue, true≢false, sym}
use Rattle.iddqd_lines.proofs.ServeLemmas.{Obeys-flush, Obeys-fails, Obeys-unbegun, Obeys-begun, request_of-begun}
use Rattle.iddqd_lines.proofs.serve.finish.Goals as goal

-- what a test that answers no says
not_none : (answer : Bool) (P : Type 0) → (IsTrue answer) ↔ P → answer ≡ false → P → ⊥
not_none answer P tells refused holds = true≢false (sym (tells.1 holds) ∙ refused)

pub returns-then-is_empty-clause-obeys : goal.returns-then-is_empty-clause-obeys
returns-then-is_empty-clause-obeys g c = λ line keeps.
    Obeys-unbegun _ g.O.Sink _ _ _ c.flush.result c.args.last.now line (c.is_empty.ensures.0 c.if-is_empty.true) c.flush.ensures.sends keeps

pub returns-in_err-obey-clause-obeys : goal.returns-in_err-obey-clause-obeys
returns-in_err-obey-clause-obeys g c = λ line keeps.
    Obeys-fails _ g.O.Sink _ _ _ _ c.from_residual.result c.from_residual.ensures.0
    (Obeys-begun _ g.O.Sink _ _ _ c.args.last.now line (not_none _ _ c.is_empty.ensures c.if-is_empty.false) (c.in_err-obey.ensures.obeys line (rw c.request_in.ensures (request_of-begun _ line keeps.bytes))) keeps)

pub returns-clause-obeys : goal.returns-clause-obeys
returns-clause-obeys g c = λ line keeps.
    Obeys-flush _ g.O.Sink _ _ _ _ _ c.flush-2.result
    (Obeys-begun _ g.O.Sink _ _ _ c.args.last.now line (not_none _ _ c.is_empty.ensures c.if-is_empty.false) (c.in_ok-obey.ensures.obeys line (rw c.request_in.ensures (request_of-begun _ line keeps.bytes))) keeps)
    c.flush-2.ensures.sends
