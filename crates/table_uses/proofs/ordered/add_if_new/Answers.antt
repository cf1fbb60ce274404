use Rattle.std.proofs.Common.{rules}
use Rattle.iddqd_order.specs.Entry.{entry_index, vacant_place}
use Rattle.table_uses.proofs.ordered.add_if_new.Goals as goal

pub returns-in-Occupied-clause-met : goal.returns-in-Occupied-clause-met
returns-in-Occupied-clause-met g c _ =
    let entered = c.in-Occupied.ensures.made in
    record { met = entry_index c.in-Occupied._entry; stored = entered.stored; equal = entered.hit }

pub returns-in_ok-prepare-in-Vacant-clause-added : goal.returns-in_ok-prepare-in-Vacant-clause-added
returns-in_ok-prepare-in-Vacant-clause-added g c _ =
    let found = c.in-Vacant.ensures.made in
    record { place = vacant_place c.in-Vacant.entry; inserted = search rules; bound = found.place }
