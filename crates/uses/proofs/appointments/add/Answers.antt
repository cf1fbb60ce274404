use Rattle.uses.specs.Appointments.{same_place}
use Rattle.uses.proofs.ExchangeLemmas.{not_added}
use Rattle.uses.proofs.appointments.add.Goals as goal

pub returns-clause-refused : goal.returns-clause-refused
returns-clause-refused c =
    not_added same_place _ c.args.appointment c.args.appointments.now c.insert_unique.new.self c.insert_unique.result
    c.insert_unique.ensures.inserts
