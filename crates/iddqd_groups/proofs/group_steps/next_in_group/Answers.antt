use Rattle.std.proofs.Common.{◌∙◌, Contains, ap, sym, subst}
use Rattle.iddqd_groups.specs.HashedGroup.{hits_among}
use Rattle.iddqd_groups.proofs.group_steps.next_in_group.Goals as goal

pub first_from-requires-clause-present : goal.first_from-requires-clause-present
first_from-requires-clause-present g c = λ j here.
    let there = subst (λ l. Contains l j) (sym c.next_under.ensures.next) here in
    rw (c.next_under.ensures.alike j there) c.requires.present

pub returns : goal.returns
returns g c =
    ap (hits_among c.args.items.now.store (g.Q.ItemHashQuery.stands_for_item c.args.query.now)) c.next_under.ensures.next
    ∙ c.first_from.ensures
