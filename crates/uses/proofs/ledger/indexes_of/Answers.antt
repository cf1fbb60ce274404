use Rattle.std.proofs.Common.{◌∙◌, ◌==◌, subst}
use Rattle.iddqd_maps.specs.Groups.{AreHits}
use Rattle.uses.specs.declared.ledger.Order.{Order}
use Rattle.uses.proofs.ledger.indexes_of.Goals as goal

pub returns : goal.returns
returns c =
    subst (λ s. AreHits s (λ (order : Order). c.args.customer.now == order.customer) c.group.result.rest)
    (c.left.ensures ∙ c.right.ensures ∙ c.parts.ensures) c.group.ensures.hits
