use Rattle.iddqd_order_reference.proofs.Names.{◌≡◌, ◌∙◌, ap, rules, without}
use Rattle.std.proofs.lemmas.Fn.{filter_same}
use Rattle.iddqd_order_reference.specs.OrderedTable.{order_of}
use Rattle.iddqd_order.proofs.IndexListLemmas.{IsIndexList-filter}
use Rattle.iddqd_order_reference.proofs.ordered_table_reference.OrderedTable.remove_exact.Goals as goal

pub invariant_of-self : goal.invariant_of-self
invariant_of-self c =
    let kept : c.retain.new.self.items ≡ without c.self.inside.items.items c.args.ix =
    filter_same _ _ _ (λ x b f' k. search rules) _ _ c.retain.ensures.filtered in
    rw kept (IsIndexList-filter _ _ c.self.invariant)

pub returns-clause-removed : goal.returns-clause-removed
unfolding order_of
returns-clause-removed c =
    let kept : c.retain.new.self.items ≡ without c.self.inside.items.items c.args.ix =
    filter_same _ _ _ (λ x b f' k. search rules) _ _ c.retain.ensures.filtered in
    kept ∙ ap (λ o. without (order_of o) c.args.ix) c.self.view_is
