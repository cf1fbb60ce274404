use Rattle.std.specs.Fn.{TakesAt, CalledAt}
use Rattle.iddqd_hash.proofs.AskLemmas.{CanAsk-takes, CanAsk-asked}
use Rattle.iddqd_hash.proofs.open_table.OpenHashTable.find.Goals as goal

pub find_asked-requires-clause-each : goal.find_asked-requires-clause-each
find_asked-requires-clause-each g c = λ x here. CanAsk-takes (TakesAt g.F.FnMut) (CalledAt g.F.FnMut) _ _ x c.requires here

pub find_asked-requires-clause-again : goal.find_asked-requires-clause-again
find_asked-requires-clause-again g c = λ x b f here called.
    CanAsk-asked (TakesAt g.F.FnMut) (CalledAt g.F.FnMut) _ _ x b f c.requires here called
