use Rattle.std.proofs.Common.{false, ◌∙◌, ◌<◌, [], Some, length, refl, sym, ap, arith}
use Rattle.iddqd_hash.specs.Clones.{IsSlotClone}
use Rattle.iddqd_hash.specs.OpenTable.{slots_of, slot_at}
use Rattle.iddqd_hash.proofs.CopyLemmas.{Cloning-start, Cloning-gaps, Cloning-put, Cloning-end}
use Rattle.iddqd_hash.proofs.OpenAheadLemmas.{IsAhead-none, SomeFull-pairs, pairs-full}
use Rattle.iddqd_hash.proofs.OpenCellLemmas.{cells_long, slot_there, slots-cell, slots-replaced, slots_bare, bare_empty}
use Rattle.iddqd_hash.proofs.open_table.copies.cloned_cells.Goals as goal

pub cloning-init : goal.cloning-init
cloning-init g c =
    let slot = g.C.Cell.slot in
    let n = length c.args.cells.now in
    let copies = c.in_ok-copies.copies.items in
    record {
      cloning = Cloning-start g.T.Clone.is_clone _ _ _ _ n c.new-places.ensures.at
          (omega (arith, cells_long slot c.args.tags.now c.args.cells.now, cells_long slot c.args.tags.now copies, c.in_ok-copies.ensures.len))
          (bare_empty slot n copies ∙ c.in_ok-copies.ensures.cells);
      len = c.in_ok-copies.ensures.len;
      exact = c.in_ok-copies.ensures.exact ∙ c.in_ok-copies.ensures.len;
      ahead = IsAhead-none _ _ _ _ c.new-places.ensures.at c.new-places.ensures.end c.new-places.ensures.mask;
      counted = rw c.new-places.ensures.at c.requires.len;
    }

pub next-here-requires-clause-some : goal.next-here-requires-clause-some
next-here-requires-clause-some g c =
    SomeFull-pairs c.args.tags.now (slots_of g.C.Cell.slot c.args.tags.now c.args.cells.now) c.requires.probed (length c.args.tags.now) c.cloning.places.at (omega arith) (omega (arith, c.cloning.invariant.counted, c.cloning-test.true))

pub index_mut-requires : goal.index_mut-requires
index_mut-requires g c =
    omega (arith, c.cloning.invariant.len, c.next-here.ensures.inside, c.requires.probed.same_length, cells_long g.C.Cell.slot c.args.tags.now c.args.cells.now)

pub fill-requires : goal.fill-requires
fill-requires g c =
    let slot = g.C.Cell.slot in
    let copies = c.cloning.copies.items in
    let inside : c.next-here.result < length copies =
    omega (arith, c.cloning.invariant.len, c.next-here.ensures.inside, c.requires.probed.same_length, cells_long slot c.args.tags.now c.args.cells.now) in
    let skipped =
    Cloning-gaps g.T.Clone.is_clone _ _ _ _ c.cloning.invariant.cloning c.args.tags.now c.requires.probed (slots_bare slot c.args.tags.now copies) c.next-here.result c.next-here.ensures.onward c.next-here.ensures.inside c.next-here.ensures.gaps in
    ap (slot false) c.index_mut.ensures.value
    ∙ sym (slot_there slot [] copies c.next-here.result c.index_mut.result.now inside)
    ∙ skipped.empty c.next-here.result (omega arith)

pub cloning-preserved : goal.cloning-preserved
cloning-preserved g c =
    let slot = g.C.Cell.slot in
    let tags = c.args.tags.now in
    let slots = slots_of slot tags c.args.cells.now in
    let copies = c.cloning.copies.items in
    let probed = c.requires.probed in
    let here = c.next-here.result in
    let inside = c.next-here.ensures.inside in
    let within : here < length slots = omega (arith, inside, probed.same_length) in
    let skipped =
    Cloning-gaps g.T.Clone.is_clone _ _ _ _ c.cloning.invariant.cloning tags probed (slots_bare slot tags copies) here c.next-here.ensures.onward inside c.next-here.ensures.gaps in
    let clone : IsSlotClone g.T.Clone.is_clone (slot_at slots here) (Some (c.pair_at-pair.result.0, c.in_ok-copy.copy)) =
    rw c.pair_at-pair.ensures (c.in_ok-copy.copy, refl, c.in_ok-copy.ensures.cases) in
    let fewer =
    ap length (pairs-full tags slots probed _ here _ c.next-here.ensures.onward inside c.next-here.ensures.gaps c.pair_at-pair.ensures) in
    let put = Cloning-put g.T.Clone.is_clone _ _ _ _ skipped _ (slot false c.fill.new.self) within clone in
    record {
      cloning =
          rw (c.next-here.ensures.behind, slots-replaced slot tags copies here _ _ (omega (arith, c.next-here.ensures.full)) c.fill.ensures, slots-cell slot [] copies here c.fill.new.self) put;
      len = c.cloning.invariant.len;
      exact = c.cloning.invariant.exact;
      ahead = c.next-here.ensures.ahead;
      counted = rw c.next-here.ensures.behind (omega (arith, fewer, c.cloning.invariant.counted));
    }

pub returns-clause-clones : goal.returns-clause-clones
returns-clause-clones g c =
    Cloning-end g.T.Clone.is_clone _ _ _ _ c.cloning.invariant.cloning c.args.tags.now c.requires.probed (slots_bare g.C.Cell.slot c.args.tags.now c.cloning.copies.items)
    (omega (arith, c.cloning.invariant.counted, c.cloning-test.false))
