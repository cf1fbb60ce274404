use Rattle.iddqd_c.proofs.keyed.values.set_value.Goals as goal

pub returns-in-Unique : goal.returns-in-Unique
returns-in-Unique c = record { sets = rw c.in-Unique.is (rw c.new.ensures at c.set.ensures) }

pub returns-in-Shared : goal.returns-in-Shared
returns-in-Shared c = record { sets = rw c.in-Shared.is (rw c.new-in-Shared.ensures at c.set-in-Shared.ensures) }
