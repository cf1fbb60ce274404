use Rattle.std.proofs.Common.{rules}
use Rattle.std.specs.List.{slice_get}
use Rattle.iddqd_order.proofs.Names.{AtIndex, ◌≡◌, ◌∙◌, ◌+◌, Some, sym, ap, order_of, ReachesIndexIn, place_at_level_in, in_order}
use Rattle.iddqd_order.proofs.SpotLemmas.{spot-read}
use Rattle.iddqd_order.proofs.TreeLemmas.{place_at_level_in-within}
use Rattle.iddqd_order.proofs.btree_table.table.MapBTreeTable.step.Goals as goal

pub returns : goal.returns
unfolding order_of
returns c = record {
  next = (
      let t = c.tree-height.ensures in
      let root = c.args.self.now.root in
      let height = c.args.self.now.height in
      let path = c.step-next.new.path in
      let level = c.in_ok-next.field-0 in
      let holds : ReachesIndexIn level root height path = search rules in
      let next : place_at_level_in level root height path ≡ place_at_level_in c.args.spot.now.level root height c.args.spot.now.path + 1 = search rules in
      ap Some c.index_at.ensures ∙ sym (spot-read root height level path t.tree holds) ∙ ap (slice_get (in_order root height)) next);
  within = place_at_level_in-within AtIndex c.args.spot.now.level c.args.self.now.root c.args.self.now.height c.args.spot.now.path c.tree-height.ensures.tree c.requires;
  place = search rules;
  spot = search rules;
}
