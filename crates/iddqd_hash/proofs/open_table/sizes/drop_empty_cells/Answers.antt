use Rattle.std.proofs.Common.{◌≡◌, length, arith}
use Rattle.iddqd_hash.proofs.OpenCellLemmas.{slots-popped}
use Rattle.iddqd_hash.proofs.SizeLemmas.{none_in_rest, none_in_last}
use Rattle.iddqd_hash.proofs.open_table.sizes.drop_empty_cells.Goals as goal

pub dropping-preserved : goal.dropping-preserved
dropping-preserved g c =
    let rest = c.pop.new.self.items in
    let last : c.len.result ≡ length rest = omega (arith, c.len.ensures) in
    let split =
    slots-popped g.C.Cell.slot c.args.tags.now _ rest c.in-Some.cell _ _ _ c.in-Some.ensures.items last c.has_pair.ensures c.into_pair.ensures in
    (none_in_rest _ _ _ split c.dropping.invariant.0, omega (arith, c.dropping.invariant.1, c.in-Some.ensures.len))

pub unreachable-requires : goal.unreachable-requires
unreachable-requires g c =
    let rest = c.pop.new.self.items in
    let last : c.len.result ≡ length rest = omega (arith, c.len.ensures) in
    let split =
    slots-popped g.C.Cell.slot c.args.tags.now _ rest c.in-Some.cell _ _ _ c.in-Some.ensures.items last c.has_pair.ensures c.into_pair.ensures in
    none_in_last _ _ _ split c.dropping.invariant.0 _ c.in-Some-into_pair.is
