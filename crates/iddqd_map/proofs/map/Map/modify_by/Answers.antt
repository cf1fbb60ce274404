use Rattle.iddqd_map.proofs.FoundLemmas.{Modifies-found}
use Rattle.iddqd_map.proofs.map.Map.modify_by.Goals as goal

pub modify_live-requires-clause-callable : goal.modify_live-requires-clause-callable
modify_live-requires-clause-callable g c =
    λ p live. (c.requires p (c.in_ok-find_by.field-0, record { live = live; only = c.in_ok-find_by.ensures })).0

pub modify_live-requires-clause-keeps : goal.modify_live-requires-clause-keeps
modify_live-requires-clause-keeps g c =
    λ p live. c.requires p (c.in_ok-find_by.field-0, record { live = live; only = c.in_ok-find_by.ensures })

pub returns-clause-modifies : goal.returns-clause-modifies
returns-clause-modifies g c =
    let test = g.X.UniqueAt.stands_for c.args.query in
    Modifies-found g.F.FnOnce c.args.f c.args.self.now test c.in_ok-find_by.field-0 c.modify_live.result
    c.modify_live.new.self c.in_ok-find_by.ensures c.modify_live.ensures.modifies
