use Rattle.iddqd_order_reference.specs.OrderedTable.{order_of}
use Rattle.iddqd_order_reference.proofs.OrderedTableLemmas.{IsIndexList-retained}
use Rattle.iddqd_order_reference.proofs.ordered_table_reference.OrderedTable.retain.Goals as goal

pub retain_in-requires : goal.retain_in-requires
unfolding order_of
retain_in-requires g c = rw (← c.self.view_is) at c.requires

pub invariant_of-self : goal.invariant_of-self
invariant_of-self g c =
    IsIndexList-retained g.F.FnMut c.args.f _ _ _ c.retain_in.ensures.kept c.self.invariant

pub returns-clause-kept : goal.returns-clause-kept
unfolding order_of
returns-clause-kept g c = rw (← c.self.view_is) (record { last = _; kept = c.retain_in.ensures.kept })
