use Rattle.std.proofs.Common.{◌<◌, length, refl, arith}
use Rattle.std.proofs.lemmas.Grind.{common_steps}
use Rattle.std.specs.Fn.{FnReturnsAt}
use Rattle.iddqd_hash.proofs.OpenCellLemmas.{cell_inside, pair_shown, slots-replaced, full_tag}
use Rattle.iddqd_hash.proofs.OpenVisitLemmas.{Rewritten-start, Rewritten-probed, Rewritten-some, Rewritten-end, Rewritten-asked, Rewritten-more}
use Rattle.iddqd_hash.proofs.open_table.cells.rewrite_cells.Goals as goal

pub rewriting-init : goal.rewriting-init
rewriting-init g c =
    Rewritten-start _ _ _ _ _ _ _ c.new-places.ensures.at c.new-places.ensures.end c.new-places.ensures.mask c.requires.len

pub next-here-requires-clause-ahead : goal.next-here-requires-clause-ahead
next-here-requires-clause-ahead g c = c.rewriting.invariant.ahead

pub next-here-requires-clause-some : goal.next-here-requires-clause-some
next-here-requires-clause-some g c =
    Rewritten-some (FnReturnsAt g.F.Fn c.args.f) _ _ c.requires.probed _ _ _ _ _ c.rewriting.invariant c.rewriting-test.true

pub pair_at-hash-requires-clause-probed : goal.pair_at-hash-requires-clause-probed
pair_at-hash-requires-clause-probed g c =
    Rewritten-probed (FnReturnsAt g.F.Fn c.args.f) _ _ c.requires.probed _ _ _ _ _ c.rewriting.invariant

pub pair_at-hash-requires-clause-inside : goal.pair_at-hash-requires-clause-inside
pair_at-hash-requires-clause-inside g c = c.next-here.ensures.inside

pub pair_at-hash-requires-clause-full : goal.pair_at-hash-requires-clause-full
pair_at-hash-requires-clause-full g c = c.next-here.ensures.full

pub f-answer-requires : goal.f-answer-requires
f-answer-requires g c =
    let here = c.next-here.ensures in
    c.requires.callable _ (Rewritten-asked (FnReturnsAt g.F.Fn c.args.f) _ _ c.requires.probed _ _ _ _ _ c.rewriting.invariant _ here.onward here.inside here.gaps _ _ c.pair_at-hash.ensures)

pub bounds-cells-here : goal.bounds-cells-here
bounds-cells-here g c =
    cell_inside g.C.Cell.slot c.args.tags.now c.args.cells.now _ _ c.next-here.ensures.inside c.requires.probed.same_length c.rewriting.auto.cells

pub offset_bounds-cells-here : goal.offset_bounds-cells-here
offset_bounds-cells-here g c =
    let inside : c.next-here.result < length c.rewriting.cells =
    cell_inside g.C.Cell.slot c.args.tags.now c.args.cells.now _ _ c.next-here.ensures.inside c.requires.probed.same_length c.rewriting.auto.cells in
    grind (arith, common_steps)

pub replace-requires : goal.replace-requires
replace-requires g c =
    let inside : c.next-here.result < length c.rewriting.cells =
    cell_inside g.C.Cell.slot c.args.tags.now c.args.cells.now _ _ c.next-here.ensures.inside c.requires.probed.same_length c.rewriting.auto.cells in
    pair_shown g.C.Cell.slot c.args.tags.now c.rewriting.cells c.next-here.result c.index-cells-here.result _ inside c.next-here.ensures.full c.pair_at-hash.ensures

pub rewriting-preserved : goal.rewriting-preserved
rewriting-preserved g c =
    let here = c.next-here.ensures in
    let given : FnReturnsAt g.F.Fn c.args.f c.pair_at-hash.result.1.now c.f-answer.result =
    record { shown = _; shows = refl; says = record { met = c.f-answer.ensures } } in
    Rewritten-more (FnReturnsAt g.F.Fn c.args.f) _ _ c.requires.probed _ _ _ _ _ c.rewriting.invariant _ here.onward here.inside here.gaps _ _ c.pair_at-hash.ensures _ _ _ _ _ given here.behind here.ahead
    (slots-replaced g.C.Cell.slot _ _ _ _ _ (full_tag _ here.full) c.replace.ensures.after)

pub returns-clause-rewritten : goal.returns-clause-rewritten
returns-clause-rewritten g c =
    Rewritten-end (FnReturnsAt g.F.Fn c.args.f) _ _ c.requires.probed _ _ _ _ _ c.rewriting.invariant c.rewriting-test.false

pub returns-clause-same_hashes : goal.returns-clause-same_hashes
returns-clause-same_hashes g c = c.rewriting.invariant.rewriting.same_hashes
