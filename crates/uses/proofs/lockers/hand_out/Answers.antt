use Rattle.uses.specs.Lockers.{same_holder, same_number}
use Rattle.uses.proofs.LockerLemmas.{why_taken}
use Rattle.iddqd_maps.proofs.CallerLemmas.{first_hits, second_hits}
use Rattle.uses.proofs.lockers.hand_out.Goals as goal

pub returns-in-Ok-clause-new_number : goal.returns-in-Ok-clause-new_number
returns-in-Ok-clause-new_number c = λ ix hit.
    c.in-Ok.ensures.inserts.no_conflict ix (first_hits same_number same_holder c.args.lockers.now.store c.args.locker ix hit)

pub returns-in-Ok-clause-new_holder : goal.returns-in-Ok-clause-new_holder
returns-in-Ok-clause-new_holder c = λ ix hit.
    c.in-Ok.ensures.inserts.no_conflict ix (second_hits same_number same_holder c.args.lockers.now.store c.args.locker ix hit)

pub returns-in-Err-Duplicate-clause-refused : goal.returns-in-Err-Duplicate-clause-refused
returns-in-Err-Duplicate-clause-refused c =
    let (given, reports, same) = rw (c.in-Err-Duplicate.is, c.in-Err-Duplicate.field-0-is) at c.insert_unique.ensures.inserts in
    rw c.taken.ensures (why_taken c.args.lockers.now c.args.locker c.in-Err-Duplicate.at.key1 c.in-Err-Duplicate.at.key2 reports)

pub returns-in-Err-Full-clause-refused : goal.returns-in-Err-Full-clause-refused
returns-in-Err-Full-clause-refused c =
    let out = rw (c.in-Err-Full.is, c.in-Err-Full.field-0-is) at c.insert_unique.ensures.inserts in (
      λ ix hit. out.no_conflict ix (first_hits same_number same_holder c.args.lockers.now.store c.args.locker ix hit),
      λ ix hit. out.no_conflict ix (second_hits same_number same_holder c.args.lockers.now.store c.args.locker ix hit),
      out.full,
    )

pub returns-in-Err-Memory-clause-refused : goal.returns-in-Err-Memory-clause-refused
returns-in-Err-Memory-clause-refused c =
    let out = rw (c.in-Err-Memory.is, c.in-Err-Memory.field-0-is) at c.insert_unique.ensures.inserts in (
      λ ix hit. out.no_conflict ix (first_hits same_number same_holder c.args.lockers.now.store c.args.locker ix hit),
      λ ix hit. out.no_conflict ix (second_hits same_number same_holder c.args.lockers.now.store c.args.locker ix hit),
      out.not_full,
      out.no_room,
    )
