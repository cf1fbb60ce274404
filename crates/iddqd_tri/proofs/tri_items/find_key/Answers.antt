use Rattle.std.proofs.Common.{subst}
use Rattle.iddqd_hash.specs.MapHashTable.{filed}
use Rattle.iddqd_by_hash.specs.Hashed.{LooksUp}
use Rattle.iddqd_tri.proofs.tri_items.find_key.Goals as goal

pub returns : goal.returns
returns g c =
    subst (λ key. LooksUp g.E.KeyOf.key_of c.args.items.now.store (filed c.args.table.now) c.args.hash (g.E.Key.PartialEq.eq key) c.find.result)
    c.key.ensures c.find.ensures
