use Rattle.uses.proofs.appointments.in_room_from.Goals as goal

pub returns : goal.returns
returns c = rw (c.new.ensures.start, c.new.ensures.end) at c.range_by.ensures
