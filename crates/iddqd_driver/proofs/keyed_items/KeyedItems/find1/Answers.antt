use Rattle.iddqd_driver.proofs.keyed_items.KeyedItems.find1.Goals as goal

pub returns-clause-found : goal.returns-clause-found
returns-clause-found g c = c.hash_and_find.ensures.found
