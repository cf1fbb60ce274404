use Rattle.std.proofs.Common.{refl}
use Rattle.std.specs.Fn.{TakesAt, CalledAt}
use Rattle.iddqd_hash.specs.TableEntry.{entry_pair}
use Rattle.iddqd_hash.proofs.AskLemmas.{CanAsk-takes, CanAsk-asked}
use Rattle.iddqd_hash.proofs.hash_table_reference.HashTable.find_entry.Goals as goal

pub place_of-requires-clause-each : goal.place_of-requires-clause-each
place_of-requires-clause-each g c = λ x here. CanAsk-takes (TakesAt g.F.FnMut) (CalledAt g.F.FnMut) _ _ x c.requires here

pub place_of-requires-clause-again : goal.place_of-requires-clause-again
place_of-requires-clause-again g c = λ x b f here called.
    CanAsk-asked (TakesAt g.F.FnMut) (CalledAt g.F.FnMut) _ _ x b f c.requires here called

pub returns-in-Some : goal.returns-in-Some
unfolding entry_pair
returns-in-Some g c =
    ((refl, λ w. refl, tt), record { found = c.in-Some.ensures; missed = tt; table = refl; same_reference = refl; unchanged = tt })
