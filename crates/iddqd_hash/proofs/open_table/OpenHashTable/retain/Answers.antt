use Rattle.std.specs.Fn.{TakesAt, CalledAt}
use Rattle.iddqd_hash.proofs.AskLemmas.{CanAsk-takes, CanAsk-asked}
use Rattle.iddqd_hash.proofs.open_table.OpenHashTable.retain.Goals as goal

pub retain_asked-requires-clause-each : goal.retain_asked-requires-clause-each
retain_asked-requires-clause-each g c = λ x here. CanAsk-takes (TakesAt g.F.FnMut) (CalledAt g.F.FnMut) _ _ x c.requires here

pub retain_asked-requires-clause-again : goal.retain_asked-requires-clause-again
retain_asked-requires-clause-again g c = λ x b f here called.
    CanAsk-asked (TakesAt g.F.FnMut) (CalledAt g.F.FnMut) _ _ x b f c.requires here called
