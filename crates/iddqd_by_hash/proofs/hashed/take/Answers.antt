use Rattle.std.proofs.Common.{rules, ◌≡◌, ◌∙◌, Some, None, ap, sym, subst, refl}
use Rattle.std.specs.Option.{unwrap_or}
use Rattle.iddqd_hash.specs.HashTable.{value_of}
use Rattle.iddqd_hash.specs.MapHashTable.{filed}
use Rattle.iddqd_hash.proofs.AskLemmas.{CanAsk-by}
use Rattle.iddqd_hash.proofs.FiledLemmas.{entry_index-value, under_all_filed, FindsWhere-looked_up}
use Rattle.iddqd_keys.specs.Scan.{IsLive, passes_by}
use Rattle.iddqd_by_hash.specs.Hashed.{AsksAt, Finds}
use Rattle.iddqd_by_hash.specs.Hashed.{passes}
use Rattle.iddqd_by_hash.proofs.FindLemmas.{passes-asked, Finds-from_where, LooksUp-found}
use Rattle.iddqd_by_hash.proofs.hashed.take.Goals as goal

pub find_entry_by_hash-found-requires : goal.find_entry_by_hash-found-requires
find_entry_by_hash-found-requires g c =
    CanAsk-by _ _ (λ s. (s.0.now ≡ c.args.query.now) × (s.1.now ≡ c.args.items.now)) _
    (λ s x here i.
    let live : IsLive s.1.now.store x =
    rw i.1 (under_all_filed _ _ (IsLive c.args.items.now.store) c.requires x here) in
    search rules)
    (λ s x r t here i called. search rules) _ (refl, refl)

pub returns-in-Ok-clause-found : goal.returns-in-Ok-clause-found
returns-in-Ok-clause-found g c =
    let test = g.Q.Equivalent.equivalent c.args.query.now in
    let key_of = g.E.KeyOf.key_of in
    let store = c.args.items.now.store in
    let passing = passes_by key_of test in
    let found = c.in-Ok.ensures.found in
    let same : Some c.get-ix.result ≡ Some found.value =
    sym c.get-ix.ensures ∙ entry_index-value _ ∙ ap value_of found.is_pair in
    let back : found.value ≡ c.get-ix.result = sym (ap (λ o. unwrap_or o found.value) same) in
    let hit = Finds-from_where store (filed c.args.table.now) c.hash.result passing (Some found.value)
    (FindsWhere-looked_up (filed c.args.table.now) c.hash.result _
    (λ s. (s.0.now ≡ c.args.query.now) × (s.1.now ≡ c.args.items.now)) (passes store passing)
    (λ s x b t is i called.
    let said : AsksAt key_of s.1.now.store (g.Q.Equivalent.equivalent s.0.now) x b = search (rules, called) in
    let kept : (t.0.now ≡ c.args.query.now) × (t.1.now ≡ c.args.items.now) = search (rules, called) in
    let asked = rw (i.0, i.1) at said in
    (passes-asked key_of store test x b asked, kept))
    _ (Some found.value) (refl, refl) found.hit) in
    LooksUp-found key_of store (filed c.args.table.now) c.args.hash test (Some c.get-ix.result)
    (subst (λ ix. Finds store (filed c.args.table.now) c.args.hash passing (Some ix)) back
    (subst (λ hash. Finds store (filed c.args.table.now) hash passing (Some found.value)) c.hash.ensures hit))

pub returns-in-Ok-clause-taken : goal.returns-in-Ok-clause-taken
returns-in-Ok-clause-taken g c =
    let out = c.remove.ensures.removed in
    let same : Some c.get-ix.result ≡ Some out.ix =
    sym c.get-ix.ensures ∙ entry_index-value _ ∙ ap value_of out.is_pair in
    let removed : out.ix ≡ c.get-ix.result = cc in
    let gone = rw (removed, c.in-Ok.ensures.table) at out.others_stay in
    search (rules, gone)

pub returns-in-Err-clause-found : goal.returns-in-Err-clause-found
returns-in-Err-clause-found g c =
    let test = g.Q.Equivalent.equivalent c.args.query.now in
    let key_of = g.E.KeyOf.key_of in
    let store = c.args.items.now.store in
    let passing = passes_by key_of test in
    let miss = Finds-from_where store (filed c.args.table.now) c.hash.result passing None
    (FindsWhere-looked_up (filed c.args.table.now) c.hash.result _
    (λ s. (s.0.now ≡ c.args.query.now) × (s.1.now ≡ c.args.items.now)) (passes store passing)
    (λ s x b t is i called.
    let said : AsksAt key_of s.1.now.store (g.Q.Equivalent.equivalent s.0.now) x b = search (rules, called) in
    let kept : (t.0.now ≡ c.args.query.now) × (t.1.now ≡ c.args.items.now) = search (rules, called) in
    let asked = rw (i.0, i.1) at said in
    (passes-asked key_of store test x b asked, kept))
    _ None (refl, refl) c.in-Err.ensures.missed) in
    LooksUp-found key_of store (filed c.args.table.now) c.args.hash test None
    (subst (λ hash. Finds store (filed c.args.table.now) hash passing None) c.hash.ensures miss)
