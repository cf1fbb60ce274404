use Rattle.std.proofs.Common.{◌≡◌, ◌∙◌, inl, inr, true, Some, sym, ap, arith}
use Rattle.std.proofs.lemmas.Grind.{common_steps}
use Rattle.std.specs.Cmp.{eq_by_cmp_equiv}
use Rattle.std.proofs.lemmas.Bool.{false≢true}
use Rattle.iddqd.specs.LiveItems.{live_pairs}
use Rattle.iddqd.proofs.StoreLemmas.{contains_none}
use Rattle.iddqd_driver.specs.Keys.{Keys, keys_of}
use Rattle.iddqd_driver.specs.KeyIndexes.{has, second_key_index}
use Rattle.iddqd_driver.proofs.InSyncLemmas.{FirstKeysInSync-found}
use Rattle.iddqd_driver.proofs.KeyLemmas.{AreLawful-from_bounds}
use Rattle.iddqd_driver.proofs.ValidationLemmas.{Checked-none, Checked-live, Checked-next, AnswersScan-hit, differs-itself}
use Rattle.iddqd_driver.proofs.keyed_items.KeyedItems.check_found.Given.{Over}
use Rattle.iddqd_driver.proofs.keyed_items.KeyedItems.check_found.Goals as goal

-- the keys of the items
abbrev keys_in : (g : Over) → Keys g.row.T.Denot g.row.T-Key1.Denot g.row.T-Key2.Denot g.row.S.Denot
keys_in g = keys_of g.T.KeyedItem g.T.Key1.PartialEq.eq g.T.Key1.Hash.hash_input g.T.Key2.Ord.cmp g.S.BuildHasher g.S.Hasher.Hasher

pub loop-ix-init : goal.loop-ix-init
loop-ix-init g c =
    rw (c.into_iter-ix-iterator.ensures.into_iter_gives ∙ c.iter-ix-items.ensures.pairs ∙ ap (λ k. live_pairs k.state.store) c.self.view_is) (Checked-none _ _)

pub returns-then-not-is_found1-clause-by_keys : goal.returns-then-not-is_found1-clause-by_keys
returns-then-not-is_found1-clause-by_keys g c = λ ok. absurd (false≢true ok)

pub returns-then-ne-clause-by_keys : goal.returns-then-ne-clause-by_keys
returns-then-ne-clause-by_keys g c = λ ok. absurd (false≢true ok)

pub returns-then-not-is_found1-clause-in_sync : goal.returns-then-not-is_found1-clause-in_sync
returns-then-not-is_found1-clause-in_sync g c = λ o.
    let left = rw c.in-Some.ensures.steps at c.loop-ix.invariant in
    absurd (false≢true (sym c.if-not-is_found1.true ∙ c.is_found1.ensures.in_sync o.first (Checked-live _ _ _ _ _ left)))

pub returns-then-ne-clause-in_sync : goal.returns-then-ne-clause-in_sync
returns-then-ne-clause-in_sync g c = λ o.
    let left = rw c.in-Some.ensures.steps at c.loop-ix.invariant in
    let itself : has (second_key_index (keys_in g)) c.key2.result.now c.in-Some.item.now ≡ true = rw c.key2.ensures ((eq_by_cmp_equiv g.met.T.Key2.Ord.total).refl ((keys_in g).second c.in-Some.item.now)) in
    let found : c.find2.result ≡ Some c.in-Some.ix = AnswersScan-hit c.args.self.now.state.store (has (second_key_index (keys_in g)) c.key2.result.now) c.find2.result c.in-Some.ix (c.find2.ensures.found.as_scan o.second) (c.in-Some.item.now, Checked-live _ _ _ _ _ left, itself) in
    absurd (differs-itself c.find2.result c.in-Some.ix c.ne.result c.ne.ensures c.if-ne.true found)

pub loop-ix-preserved : goal.loop-ix-preserved
loop-ix-preserved g c =
    let left = rw c.in-Some.ensures.steps at c.loop-ix.invariant in
    Checked-next _ _ _ _ _ left (c.is_found1.ensures.found c.if-not-is_found1.false)

pub returns-clause-by_keys : goal.returns-clause-by_keys
returns-clause-by_keys g c = λ _.
    let done = rw c.in-None.ensures.steps.0 at c.loop-ix.invariant in
    FirstKeysInSync-found (keys_in g) c.args.self.now.state
    (AreLawful-from_bounds {item = g.T.KeyedItem} g.S.BuildHasher g.S.Hasher.Hasher g.met.T.Key1.PartialEq.laws
    g.met.T.Key1.Hash.respects_eq g.met.T.Key2.Ord.total)
    (λ ix item live. elim (done.passed ix item live) [ inl none ↦ absurd (contains_none _ none) | inr found ↦ found ])

pub returns-clause-in_sync : goal.returns-clause-in_sync
returns-clause-in_sync g c = grind (arith, common_steps)
