use Rattle.iddqd_driver.specs.Keys.{Keys, keys_of}
use Rattle.iddqd_driver.specs.Validation.{IsFoundAlone}
use Rattle.iddqd_driver.proofs.ValidationLemmas.{Checked}
use Rattle.iddqd_driver.proofs.keyed_items.KeyedItems.check_found.Given as goal

-- each live index is left, or is found alone by its first key
abbrev pub invariant-loop-ix : goal.invariant-loop-ix
invariant-loop-ix g l =
    let keys : Keys _ _ _ _ = keys_of g.T.KeyedItem g.T.Key1.PartialEq.eq g.T.Key1.Hash.hash_input g.T.Key2.Ord.cmp g.S.BuildHasher g.S.Hasher.Hasher in
    Checked l.self.state.store (λ ix item. IsFoundAlone keys l.self.state ix (keys.first item)) l.ix-iterator
