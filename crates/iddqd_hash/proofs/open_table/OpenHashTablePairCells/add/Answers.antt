use Rattle.std.proofs.Common.{sym}
use Rattle.iddqd_hash.proofs.OpenAddLemmas.{Rebuilt, Rebuilt-by, add-power, add-fits, add-power-now, add-ends, add-used-fits, add-len-fits, put-long, put-free, put-sound, put-pair, put-entries, put-memory}
use Rattle.iddqd_hash.proofs.open_table.OpenHashTablePairCells.add.Goals as goal
use Rattle.iddqd_hash.proofs.open_table.OpenHashTablePairCells.add.Goals.{After-rebuild_at_limit-self-inside}

pub rebuild_at_limit-self-inside-requires-clause-power : goal.rebuild_at_limit-self-inside-requires-clause-power
rebuild_at_limit-self-inside-requires-clause-power g c =
    add-power g.C.Cell.slot c.self.inside.tags c.self.inside.cells c.self.inside.len c.self.inside.used c.self.invariant.sound (rw (← c.self.view_is) at c.requires) _ c.as_mut_slice.ensures.value

pub rebuild_at_limit-self-inside-requires-clause-probed : goal.rebuild_at_limit-self-inside-requires-clause-probed
rebuild_at_limit-self-inside-requires-clause-probed g c =
    rw (c.as_mut_slice.ensures.value, c.as_mut_slice-2.ensures.value) c.self.invariant.sound.probed

pub rebuild_at_limit-self-inside-requires-clause-used : goal.rebuild_at_limit-self-inside-requires-clause-used
rebuild_at_limit-self-inside-requires-clause-used g c =
    rw c.as_mut_slice.ensures.value c.self.invariant.sound.marked

pub rebuild_at_limit-self-inside-requires-clause-len : goal.rebuild_at_limit-self-inside-requires-clause-len
rebuild_at_limit-self-inside-requires-clause-len g c =
    rw (c.as_mut_slice.ensures.value, c.as_mut_slice-2.ensures.value) c.self.invariant.sound.counted

pub rebuild_at_limit-self-inside-requires-clause-fits : goal.rebuild_at_limit-self-inside-requires-clause-fits
rebuild_at_limit-self-inside-requires-clause-fits g c =
    add-fits g.C.Cell.slot c.self.inside.tags c.self.inside.cells c.self.inside.len c.self.inside.used c.self.invariant.sound (rw (← c.self.view_is) at c.requires) _ c.as_mut_slice.ensures.value

-- the table after `rebuild_at_limit`
rebuilt :
    (g : _) (c : After-rebuild_at_limit-self-inside g)
    → Rebuilt g.C.Cell.slot c.self.inside.tags c.self.inside.cells c.self.inside.len c.self.inside.used
    c.self.invariant.sound (rw (← c.self.view_is) at c.requires)
    c.rebuild_at_limit-self-inside.new.tags c.rebuild_at_limit-self-inside.new.cells
    c.rebuild_at_limit-self-inside.result
rebuilt g c =
    let now = c.rebuild_at_limit-self-inside in
    Rebuilt-by g.C.Cell.slot c.self.inside.tags c.self.inside.cells c.self.inside.len c.self.inside.used c.self.invariant.sound (rw (← c.self.view_is) at c.requires) _ _ _ _ _ c.as_mut_slice.ensures.value c.as_mut_slice.ensures.len c.as_mut_slice-2.ensures.value c.as_mut_slice-2.ensures.len now.auto.tags now.auto.cells now.ensures.moved now.ensures.probed now.ensures.used now.ensures.limited

pub free_place-place-requires-clause-power : goal.free_place-place-requires-clause-power
free_place-place-requires-clause-power g c =
    add-power-now g.C.Cell.slot c.self.inside.tags c.self.inside.cells c.self.inside.len c.self.inside.used c.self.invariant.sound (rw (← c.self.view_is) at c.requires) _ _ _ (rebuilt g (goal.at.free_place-place-requires-clause-power g c).After-rebuild_at_limit-self-inside) _ c.as_slice.ensures.value

pub free_place-place-requires-clause-ends : goal.free_place-place-requires-clause-ends
free_place-place-requires-clause-ends g c =
    add-ends g.C.Cell.slot c.self.inside.tags c.self.inside.cells c.self.inside.len c.self.inside.used c.self.invariant.sound (rw (← c.self.view_is) at c.requires) _ _ _ (rebuilt g (goal.at.free_place-place-requires-clause-ends g c).After-rebuild_at_limit-self-inside) _ c.as_slice.ensures.value

pub overflow_add-self : goal.overflow_add-self
overflow_add-self g c =
    add-used-fits g.C.Cell.slot c.self.inside.tags c.self.inside.cells c.self.inside.len c.self.inside.used c.self.invariant.sound (rw (← c.self.view_is) at c.requires) _ _ _ (rebuilt g (goal.at.overflow_add-self g c).After-rebuild_at_limit-self-inside) c.free_place-place.result c.args.hash c.args.value c.as_slice.result.now c.as_slice.ensures.value c.free_place-place.ensures.free _ c.index.ensures c.as_slice.type_inv.0

pub overflow_add-self-2 : goal.overflow_add-self-2
overflow_add-self-2 g c =
    add-len-fits g.C.Cell.slot c.self.inside.tags c.self.inside.cells c.self.inside.len c.self.inside.used c.self.invariant.sound (rw (← c.self.view_is) at c.requires) _ _ _ (rebuilt g (goal.at.overflow_add-self-2 g c).After-rebuild_at_limit-self-inside) _ c.as_slice.ensures.value c.as_slice.type_inv.0

pub put-requires-clause-same_length : goal.put-requires-clause-same_length
put-requires-clause-same_length g c =
    put-long g.C.Cell.slot c.self.inside.tags c.self.inside.cells c.self.inside.len c.self.inside.used c.self.invariant.sound (rw (← c.self.view_is) at c.requires) _ _ _ (rebuilt g (goal.at.put-requires-clause-same_length g c).After-rebuild_at_limit-self-inside) c.free_place-place.result c.args.hash c.args.value c.as_slice.result.now c.as_slice.ensures.value c.free_place-place.ensures.free _ _ c.as_mut_slice-3.ensures.value c.as_mut_slice-4.ensures.value

pub put-requires-clause-free : goal.put-requires-clause-free
put-requires-clause-free g c =
    put-free g.C.Cell.slot c.self.inside.tags c.self.inside.cells c.self.inside.len c.self.inside.used c.self.invariant.sound (rw (← c.self.view_is) at c.requires) _ _ _ (rebuilt g (goal.at.put-requires-clause-free g c).After-rebuild_at_limit-self-inside) c.free_place-place.result c.args.hash c.args.value c.as_slice.result.now c.as_slice.ensures.value c.free_place-place.ensures.free _ _ c.as_mut_slice-3.ensures.value c.as_mut_slice-4.ensures.value

pub invariant_of-self : goal.invariant_of-self
invariant_of-self g c =
    record {
      sound = put-sound g.C.Cell.slot c.self.inside.tags c.self.inside.cells c.self.inside.len c.self.inside.used c.self.invariant.sound (rw (← c.self.view_is) at c.requires) _ _ _ (rebuilt g (goal.at.invariant_of-self g c).After-rebuild_at_limit-self-inside) c.free_place-place.result c.args.hash c.args.value c.as_slice.result.now c.as_slice.ensures.value c.free_place-place.ensures.free _ _ c.as_mut_slice-3.ensures.value c.as_mut_slice-4.ensures.value _ _ c.put.auto.tags c.as_mut_slice-3.ensures.len c.put.auto.cells c.as_mut_slice-4.ensures.len c.put.ensures.tags c.put.ensures.slots c.free_place-place.ensures.past_full _ c.index.ensures;
      exact_tags = c.self.invariant.exact_tags;
      exact_cells = c.self.invariant.exact_cells;
    }

pub returns-clause-pair : goal.returns-clause-pair
returns-clause-pair g c =
    put-pair g.C.Cell.slot c.self.inside.tags c.self.inside.cells c.self.inside.len c.self.inside.used c.self.invariant.sound (rw (← c.self.view_is) at c.requires) _ _ _ (rebuilt g (goal.at.returns-clause-pair g c).After-rebuild_at_limit-self-inside) c.free_place-place.result c.args.hash c.args.value c.as_slice.result.now c.as_slice.ensures.value c.free_place-place.ensures.free _ _ c.as_mut_slice-3.ensures.value c.as_mut_slice-4.ensures.value _ _ c.put.auto.tags c.as_mut_slice-3.ensures.len c.put.auto.cells c.as_mut_slice-4.ensures.len c.put.ensures.tags c.put.ensures.slots

pub returns-clause-added : goal.returns-clause-added
returns-clause-added g c =
    put-entries g.C.Cell.slot c.self.inside.tags c.self.inside.cells c.self.inside.len c.self.inside.used c.self.invariant.sound (rw (← c.self.view_is) at c.requires) _ _ _ (rebuilt g (goal.at.returns-clause-added g c).After-rebuild_at_limit-self-inside) c.free_place-place.result c.args.hash c.args.value c.as_slice.result.now c.as_slice.ensures.value c.free_place-place.ensures.free _ _ c.as_mut_slice-3.ensures.value c.as_mut_slice-4.ensures.value _ _ c.put.auto.tags c.as_mut_slice-3.ensures.len c.put.auto.cells c.as_mut_slice-4.ensures.len c.put.ensures.tags c.put.ensures.slots _ (sym c.self.view_is)

pub returns-clause-memory : goal.returns-clause-memory
returns-clause-memory g c =
    put-memory g.C.Cell.slot c.self.inside.tags c.self.inside.cells c.self.inside.len c.self.inside.used c.self.invariant.sound (rw (← c.self.view_is) at c.requires) _ _ _ (rebuilt g (goal.at.returns-clause-memory g c).After-rebuild_at_limit-self-inside) c.free_place-place.result c.args.hash c.args.value c.as_slice.result.now c.as_slice.ensures.value c.free_place-place.ensures.free _ _ c.as_mut_slice-3.ensures.value c.as_mut_slice-4.ensures.value _ _ c.put.auto.tags c.as_mut_slice-3.ensures.len c.put.auto.cells c.as_mut_slice-4.ensures.len c.put.ensures.tags c.put.ensures.slots _ (sym c.self.view_is)
