use Rattle.iddqd_driver.proofs.FoundLemmas.{lesser_hit, no_lesser_hit}
use Rattle.iddqd_driver.proofs.keyed_items.validation.is_lesser_hit.Goals as goal

pub returns-then-lt : goal.returns-then-lt
returns-then-lt g c =
    lesser_hit c.args.items.now.store g.T.KeyedItem.first_key (g.T.Key1.PartialEq.eq c.args.key.now) _ _ _ _ _ c.lt.ensures c.if-lt.true c.key_at.ensures c.eq.ensures

pub returns-else-lt : goal.returns-else-lt
returns-else-lt g c =
    no_lesser_hit c.args.items.now.store g.T.KeyedItem.first_key (g.T.Key1.PartialEq.eq c.args.key.now) _ _ _ c.lt.ensures c.if-lt.false
