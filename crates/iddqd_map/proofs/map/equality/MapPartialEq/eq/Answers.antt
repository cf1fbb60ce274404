use Rattle.std.proofs.Common.{rules, tests, ◌∙◌, sym}
use Rattle.std.specs.List.{list_any}
use Rattle.std.specs.Ordering.{eq_of_both}
use Rattle.std.proofs.lemmas.Iterator.Consumers.{YieldsList-from_first}
use Rattle.std.proofs.lemmas.Iterator.Search.{all_from_yields_List}
use Rattle.iddqd.specs.LiveItems.{live_items}
use Rattle.iddqd.proofs.StoreLemmas.{differs}
use Rattle.iddqd_map.proofs.EqualityLemmas.{AreApart-stronger, unequal_counts, equal_counts}
use Rattle.iddqd_map.proofs.map.equality.MapPartialEq.eq.Goals as goal

pub returns-then-len : goal.returns-then-len
returns-then-len g c =
    let same = g.X.KeyIndex.same_keys in
    let equal = g.T.PartialEq.eq in
    let s = c.args.self.now.store in
    let t = c.args.other.now.store in
    let stronger = g.met.X.FindsSame.same_are_alike in
    let apart_s = AreApart-stronger same g.X.KeyIndex.alike stronger s c.len.ensures.state.apart in
    let apart_t = AreApart-stronger same g.X.KeyIndex.alike stronger t c.len-2.ensures.state.apart in
    all_from_yields_List (λ x. list_any (eq_of_both same equal x) (live_items t)) _ _ c.all.result c.all.ensures.ran
    (YieldsList-from_first (λ x. x.now) (λ rest. rest) (live_items s) c.values.ensures.items)
    (λ x b q k. search (rules, tests))
    ∙ equal_counts same equal g.met.X.IndexLaws.equivalence g.met.T.PartialEq.laws s t apart_s apart_t
    (sym c.len.ensures.value ∙ c.if-len.true ∙ c.len-2.ensures.value)

pub returns-else-len : goal.returns-else-len
returns-else-len g c =
    let same = g.X.KeyIndex.same_keys in
    let s = c.args.self.now.store in
    let t = c.args.other.now.store in
    let stronger = g.met.X.FindsSame.same_are_alike in
    let apart_s = AreApart-stronger same g.X.KeyIndex.alike stronger s c.len.ensures.state.apart in
    let apart_t = AreApart-stronger same g.X.KeyIndex.alike stronger t c.len-2.ensures.state.apart in
    differs c.len.result c.len-2.result c.if-len.false
    ∙ unequal_counts same g.T.PartialEq.eq g.met.X.IndexLaws.equivalence g.met.T.PartialEq.laws s t apart_s apart_t
    (λ as_many. c.if-len.false (c.len.ensures.value ∙ as_many ∙ sym c.len-2.ensures.value))
