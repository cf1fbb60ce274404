use Rattle.std.proofs.lemmas.Cmp.{nat_cmp_total}
use Rattle.iddqd.specs.Compaction.{remapped}
use Rattle.iddqd_order.specs.MapBTreeTable.{order_of}
use Rattle.iddqd_order.proofs.KeyOrderLemmas.{IsInKeyOrder-renamed}
use Rattle.iddqd_order.proofs.RenameLemmas.{unshared-from_rising}
use Rattle.table_uses.proofs.ordered.rename_in_order.Goals as goal

pub remap_indexes-requires-clause-distinct : goal.remap_indexes-requires-clause-distinct
remap_indexes-requires-clause-distinct c = unshared-from_rising (remapped c.args.remap.now) (order_of c.args.table.now) c.requires.rising

pub returns : goal.returns
returns c key new_key keeps sorted =
    rw c.remap_indexes.ensures.renamed (IsInKeyOrder-renamed nat_cmp_total key new_key (remapped c.args.remap.now) (order_of c.args.table.now) keeps c.requires.rising sorted)
