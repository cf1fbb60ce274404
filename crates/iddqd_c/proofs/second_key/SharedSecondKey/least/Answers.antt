use Rattle.std.proofs.Common.{Some, None}
use Rattle.iddqd_c.proofs.FirstLemmas.{first_least}
use Rattle.iddqd_c.proofs.second_key.SharedSecondKey.least.Goals as goal

pub returns-in-Some : goal.returns-in-Some
returns-in-Some c = first_least c.args.items.now.store c.args.second (Some c.in-Some.at.0)
    (rw c.only-bounds.ensures at c.in-Some.ensures.first)

pub returns-in-None : goal.returns-in-None
returns-in-None c = first_least c.args.items.now.store c.args.second None (rw c.only-bounds.ensures at c.in-None.ensures.first)
