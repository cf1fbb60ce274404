use Rattle.std.proofs.Common.{◌∙◌, sym, ap}
use Rattle.iddqd_hash.specs.OpenTable.{slots_of, pairs}
use Rattle.iddqd_hash.proofs.OpenTableLemmas.{entries-table_of, HasNoMemory-table_of, IsSound-none}
use Rattle.iddqd_hash.proofs.open_table.OpenHashTable.of_cells.Goals as goal

pub invariant_of-result : goal.invariant_of-result
invariant_of-result g c =
    record {
      sound =
          IsSound-none _ _ c.new.ensures.items (ap (slots_of g.C.Cell.slot c.new.result.items) c.new-2.ensures.items);
      exact_tags = c.new.ensures.capacity ∙ sym c.new.ensures.len;
      exact_cells = c.new-2.ensures.capacity ∙ sym c.new-2.ensures.len;
    }

pub returns-clause-empty : goal.returns-clause-empty
returns-clause-empty g c =
    entries-table_of _ ∙ ap (λ cells. pairs (slots_of g.C.Cell.slot c.new.result.items cells)) c.new-2.ensures.items

pub returns-clause-memory : goal.returns-clause-memory
returns-clause-memory g c =
    HasNoMemory-table_of _ (ap (slots_of g.C.Cell.slot c.new.result.items) c.new-2.ensures.items)
