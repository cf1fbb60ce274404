use Rattle.iddqd_map.proofs.FoundLemmas.{hit_live}
use Rattle.iddqd_map.proofs.tri_hash_map.index.TriIndexOfTakesAtThird.take.Goals as goal

pub remove-requires-clause-live : goal.remove-requires-clause-live
remove-requires-clause-live g c =
    hit_live c.args.items.now.store (g.Q.ItemHashQuery.stands_for_item c.args.query) c.in_ok-found.found
    c.in_ok-found.ensures.found

pub remove-requires-2-clause-live : goal.remove-requires-2-clause-live
remove-requires-2-clause-live g c =
    hit_live c.args.items.now.store (g.Q.ItemHashQuery.stands_for_item c.args.query) c.in_ok-found.found
    c.in_ok-found.ensures.found
