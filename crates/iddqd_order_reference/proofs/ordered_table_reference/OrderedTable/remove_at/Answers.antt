use Rattle.iddqd_order_reference.proofs.Names.{◌≡◌, ◌∙◌, get_or, ap, without}
use Rattle.iddqd_order_reference.specs.OrderedTable.{order_of}
use Rattle.iddqd_order.proofs.IndexListLemmas.{IsIndexList-filter, remove-distinct}
use Rattle.iddqd_order_reference.proofs.ordered_table_reference.OrderedTable.remove_at.Goals as goal

pub invariant_of-self : goal.invariant_of-self
unfolding order_of
invariant_of-self c =
    let same = ap order_of c.self.view_is in
    let xs = c.self.inside.items.items in
    let left : c.remove.new.self.items ≡ without xs (get_or xs c.args.place 0) =
    c.remove.ensures.items ∙ remove-distinct xs c.args.place c.self.invariant.distinct (rw same c.requires.within) in
    rw left (IsIndexList-filter _ _ c.self.invariant)

pub returns-clause-removed : goal.returns-clause-removed
unfolding order_of
returns-clause-removed c =
    let same = ap order_of c.self.view_is in
    let xs = c.self.inside.items.items in
    let left : c.remove.new.self.items ≡ without xs (get_or xs c.args.place 0) =
    c.remove.ensures.items ∙ remove-distinct xs c.args.place c.self.invariant.distinct (rw same c.requires.within) in
    left ∙ ap (λ o. without (order_of o) (get_or (order_of o) c.args.place 0)) c.self.view_is
    ∙ ap (without (order_of c.args.self.now)) c.requires.there
