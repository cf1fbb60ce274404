use Rattle.std.proofs.Common.{refl}
use Rattle.std.specs.Fn.{TakesAt, CalledAt}
use Rattle.iddqd_hash.specs.TableEntry.{entry_pair, vacant_hash}
use Rattle.iddqd_hash.proofs.AskLemmas.{CanAsk-takes, CanAsk-asked}
use Rattle.iddqd_hash.proofs.VacancyLemmas.{IsVacancy-reserved, Reserves-refused}
use Rattle.iddqd_hash.proofs.open_table.OpenHashTable.entry.Goals as goal

pub place_of-requires-clause-each : goal.place_of-requires-clause-each
place_of-requires-clause-each g c = λ x here. CanAsk-takes (TakesAt g.F.FnMut) (CalledAt g.F.FnMut) _ _ x c.requires here

pub place_of-requires-clause-again : goal.place_of-requires-clause-again
place_of-requires-clause-again g c = λ x b f here called.
    CanAsk-asked (TakesAt g.F.FnMut) (CalledAt g.F.FnMut) _ _ x b f c.requires here called

pub returns-in-Some : goal.returns-in-Some
unfolding entry_pair
returns-in-Some g c =
    ((refl, λ w. refl, tt), record { found = c.in-Some.ensures; same_table = refl; missed = tt; vacant = tt; contents = tt; refused = tt; same_reference = refl; unchanged = tt })

pub returns : goal.returns
unfolding vacant_hash
returns g c =
    let vacancy = IsVacancy-reserved _ _ _ _ (rw c.in_default-try_reserve.is at c.try_reserve.ensures.memory) in
    ((refl, λ w. refl, tt), record { found = tt; same_table = tt; missed = c.in_default.ensures; vacant = vacancy; contents = c.try_reserve.ensures.contents; refused = tt; same_reference = refl; unchanged = tt })

pub returns-in-Err : goal.returns-in-Err
returns-in-Err g c =
    let kept = rw c.in-Err.is at c.try_reserve.ensures.memory in
    ((refl, λ w. tt, kept.refused), record { found = tt; same_table = tt; missed = c.in_default.ensures; vacant = tt; contents = tt; refused = Reserves-refused _ _ _ kept; same_reference = tt; unchanged = tt })
