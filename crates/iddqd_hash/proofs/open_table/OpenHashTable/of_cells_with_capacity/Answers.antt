use Rattle.std.proofs.Common.{◌≡◌, ◌≤◌, ◌∙◌, [], None, length, replicate, ap, arith}
use Rattle.std.proofs.lemmas.List.{length-replicate}
use Rattle.iddqd_hash.specs.OpenTable.{usable_of, slots_of, pairs, IsPowerOfTwo}
use Rattle.iddqd_hash.specs.Sizes.{most_cells}
use Rattle.iddqd_hash.proofs.OpenSlotLemmas.{pairs-empty}
use Rattle.iddqd_hash.proofs.OpenTableLemmas.{entries-table_of}
use Rattle.iddqd_hash.proofs.SizeLemmas.{IsSound-empty, TakesRoom-table_of}
use Rattle.iddqd_hash.proofs.open_table.OpenHashTable.of_cells_with_capacity.Goals as goal

pub invariant_of-result : goal.invariant_of-result
invariant_of-result g c =
    let power : IsPowerOfTwo c.in_ok-count.count = rw c.in_ok-count.ensures.ok_part at c.count_for.ensures.power in
    let no_pair : slots_of g.C.Cell.slot c.in_ok-tags.tags.items c.in_ok-cells.cells.items ≡ replicate c.in_ok-count.count None =
    ap (λ tags. slots_of g.C.Cell.slot tags c.in_ok-cells.cells.items) c.in_ok-tags.ensures.tags
    ∙ c.in_ok-cells.ensures.cells in
    record {
      sound = IsSound-empty _ _ c.in_ok-count.count c.in_ok-tags.ensures.tags no_pair power;
      exact_tags = c.in_ok-tags.ensures.exact;
      exact_cells = c.in_ok-cells.ensures.exact;
    }

pub returns-clause-empty : goal.returns-clause-empty
returns-clause-empty g c =
    let no_pair : slots_of g.C.Cell.slot c.in_ok-tags.tags.items c.in_ok-cells.cells.items ≡ replicate c.in_ok-count.count None =
    ap (λ tags. slots_of g.C.Cell.slot tags c.in_ok-cells.cells.items) c.in_ok-tags.ensures.tags
    ∙ c.in_ok-cells.ensures.cells in
    entries-table_of _ ∙ ap pairs no_pair ∙ pairs-empty c.in_ok-count.count

pub returns-clause-memory : goal.returns-clause-memory
returns-clause-memory g c =
    let no_pair : slots_of g.C.Cell.slot c.in_ok-tags.tags.items c.in_ok-cells.cells.items ≡ replicate c.in_ok-count.count None =
    ap (λ tags. slots_of g.C.Cell.slot tags c.in_ok-cells.cells.items) c.in_ok-tags.ensures.tags
    ∙ c.in_ok-cells.ensures.cells in
    let fits : c.args.capacity ≤ usable_of c.in_ok-count.count =
    rw c.in_ok-count.ensures.ok_part at c.count_for.ensures.fits in
    let long : length (slots_of g.C.Cell.slot c.in_ok-tags.tags.items c.in_ok-cells.cells.items) ≡ c.in_ok-count.count =
    ap length no_pair ∙ length-replicate c.in_ok-count.count None in
    let few : c.in_ok-count.count ≤ most_cells c.args.capacity =
    rw c.in_ok-count.ensures.ok_part at c.count_for.ensures.few in
    let none : pairs (slots_of g.C.Cell.slot c.in_ok-tags.tags.items c.in_ok-cells.cells.items) ≡ [] =
    ap pairs no_pair ∙ pairs-empty c.in_ok-count.count in
    TakesRoom-table_of c.args.capacity (slots_of g.C.Cell.slot c.in_ok-tags.tags.items c.in_ok-cells.cells.items) (omega arith) none (rw long fits) (rw long few)
