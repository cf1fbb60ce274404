use Rattle.std.proofs.Common.{◌≡◌, ◌∙◌, None, length, replicate, sym, ap, arith}
use Rattle.std.proofs.lemmas.Grind.{common_steps}
use Rattle.iddqd_hash.specs.OpenTable.{slots_of}
use Rattle.iddqd_hash.proofs.OpenCellLemmas.{cells_long}
use Rattle.iddqd_hash.proofs.OpenResizeLemmas.{resize-fits, resize-sound, resize-contents, resize-room, resize-memory}
use Rattle.iddqd_hash.proofs.open_table.OpenHashTable.resize.Goals as goal

pub move_cells-requires-clause-same_length : goal.move_cells-requires-clause-same_length
move_cells-requires-clause-same_length g c =
    rw c.as_slice.ensures.value (omega (arith, cells_long g.C.Cell.slot c.self.inside.tags.items c.self.inside.cells.items, c.self.invariant.sound.probed.same_length))

pub move_cells-requires-clause-power : goal.move_cells-requires-clause-power
move_cells-requires-clause-power g c = rw (c.as_mut_slice.ensures.len ∙ c.in_ok-tags.ensures.len) c.requires.power

pub move_cells-requires-clause-no_tag : goal.move_cells-requires-clause-no_tag
move_cells-requires-clause-no_tag g c =
    let long : length c.as_mut_slice.result.now ≡ c.args.count =
    c.as_mut_slice.ensures.len ∙ c.in_ok-tags.ensures.len in
    c.as_mut_slice.ensures.value ∙ c.in_ok-tags.ensures.tags ∙ ap (λ n. replicate n 0) (sym long)

pub move_cells-requires-clause-no_pair : goal.move_cells-requires-clause-no_pair
move_cells-requires-clause-no_pair g c =
    let long : length c.as_mut_slice.result.now ≡ c.args.count =
    c.as_mut_slice.ensures.len ∙ c.in_ok-tags.ensures.len in
    let tags = c.as_mut_slice.ensures.value ∙ c.in_ok-tags.ensures.tags in
    (λ i. slots_of g.C.Cell.slot (tags i) (c.as_mut_slice-2.ensures.value i)) ∙ c.in_ok-cells.ensures.cells
    ∙ ap (λ n. replicate n None) (sym long)

pub move_cells-requires-clause-fits : goal.move_cells-requires-clause-fits
move_cells-requires-clause-fits g c =
    resize-fits g.C.Cell.slot c.self.inside.tags c.self.inside.cells c.self.inside.len c.self.inside.used c.self.invariant.sound c.args.self.now (sym c.self.view_is) _ c.requires.power c.requires.fits _ _ c.as_slice.ensures.value (c.as_mut_slice.ensures.len ∙ c.in_ok-tags.ensures.len)

pub invariant_of-self : goal.invariant_of-self
invariant_of-self g c =
    record {
      sound = resize-sound g.C.Cell.slot c.self.inside.tags c.self.inside.cells c.self.inside.len c.self.inside.used c.self.invariant.sound c.args.self.now (sym c.self.view_is) _ c.requires.power c.requires.fits c.in_ok-tags.tags c.in_ok-cells.cells _ _ _ _ (c.move_cells.auto.tags ∙ c.as_mut_slice.ensures.len) c.in_ok-tags.ensures.len (c.move_cells.auto.cells ∙ c.as_mut_slice-2.ensures.len) c.replace.ensures.after c.as_slice.ensures.value c.move_cells.ensures.probed c.move_cells.ensures.moved c.move_cells.ensures.unmarked;
      exact_tags = c.in_ok-tags.ensures.exact;
      exact_cells = rw c.replace.ensures.after c.in_ok-cells.ensures.exact;
    }

pub returns-clause-contents : goal.returns-clause-contents
returns-clause-contents g c =
    resize-contents g.C.Cell.slot c.self.inside.tags c.self.inside.cells c.self.inside.len c.self.inside.used c.self.invariant.sound c.args.self.now (sym c.self.view_is) _ c.requires.power c.requires.fits c.in_ok-tags.tags c.in_ok-cells.cells _ _ _ _ (c.move_cells.auto.tags ∙ c.as_mut_slice.ensures.len) c.in_ok-tags.ensures.len (c.move_cells.auto.cells ∙ c.as_mut_slice-2.ensures.len) c.replace.ensures.after c.as_slice.ensures.value c.move_cells.ensures.probed c.move_cells.ensures.moved

pub returns-clause-room : goal.returns-clause-room
returns-clause-room g c =
    resize-room g.C.Cell.slot c.self.inside.tags c.self.inside.cells c.self.inside.len c.self.inside.used c.self.invariant.sound c.args.self.now (sym c.self.view_is) _ c.requires.power c.requires.fits c.in_ok-tags.tags c.in_ok-cells.cells _ _ _ _ (c.move_cells.auto.tags ∙ c.as_mut_slice.ensures.len) c.in_ok-tags.ensures.len (c.move_cells.auto.cells ∙ c.as_mut_slice-2.ensures.len) c.replace.ensures.after c.as_slice.ensures.value c.move_cells.ensures.probed c.move_cells.ensures.moved

pub returns-clause-memory : goal.returns-clause-memory
returns-clause-memory g c =
    resize-memory g.C.Cell.slot c.self.inside.tags c.self.inside.cells c.self.inside.len c.self.inside.used c.self.invariant.sound c.args.self.now (sym c.self.view_is) _ c.requires.power c.requires.fits c.in_ok-tags.tags c.in_ok-cells.cells _ _ _ _ (c.move_cells.auto.tags ∙ c.as_mut_slice.ensures.len) c.in_ok-tags.ensures.len (c.move_cells.auto.cells ∙ c.as_mut_slice-2.ensures.len) c.replace.ensures.after c.as_slice.ensures.value c.move_cells.ensures.probed c.move_cells.ensures.moved

pub destroy_empty-requires : goal.destroy_empty-requires
destroy_empty-requires g c = grind (arith, common_steps)
