use Rattle.iddqd_map.proofs.FoundLemmas.{hit_live}
use Rattle.iddqd_map.proofs.pair.PairTakesAtLeft.take.Goals as goal

pub remove-requires-clause-live : goal.remove-requires-clause-live
remove-requires-clause-live g c =
    hit_live c.args.items.now.store (g.A.UniqueAt.stands_for c.args.query) c.in_ok-ix.ix c.in_ok-ix.ensures.found
