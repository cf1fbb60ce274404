use Rattle.std.proofs.Common.{◌≡◌, ◌++◌, length, take, drop, map, ap, rules}
use Rattle.std.proofs.lemmas.List.{take_all, drop_all}
use Rattle.std.proofs.lemmas.List.Edits.{map_over_more}
use Rattle.iddqd.specs.Compaction.{remapped}
use Rattle.iddqd_order_reference.specs.OrderedTable.{order_of}
use Rattle.iddqd_order.proofs.RenameLemmas.{IsIndexList-remapped}
use Rattle.iddqd_order_reference.proofs.ordered_table_reference.OrderedTable.remap_indexes.Goals as goal

pub loop-ix-preserved : goal.loop-ix-preserved
loop-ix-preserved c = search (rules, map_over_more (remapped c.args.remap.now))

pub invariant_of-self : goal.invariant_of-self
unfolding order_of
invariant_of-self c =
    let same = ap order_of c.self.view_is in
    let new : take c.self.inside.items.len (c.loop-ix.ix-items ++ drop (length c.loop-ix.ix-items) c.self.inside.items.items) ≡ map (remapped c.args.remap.now) c.self.inside.items.items = search (rules, take_all, drop_all) in
    rw new
    (IsIndexList-remapped c.args.remap.now c.self.inside.items.items (rw same c.requires.can_remap) (rw same c.requires.distinct) c.self.invariant)

pub returns-clause-renamed : goal.returns-clause-renamed
unfolding order_of
returns-clause-renamed c = search (rules, take_all, drop_all)
