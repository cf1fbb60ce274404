use Rattle.std.proofs.Common.{rules, ap}
use Rattle.iddqd_hash.specs.MapHashTable.{filed}
use Rattle.iddqd_hash.proofs.FiledLemmas.{under_all_filed, FindsWhere-by_key}
use Rattle.iddqd_keys.specs.Scan.{IsLive, IsKeyAt, passes_by}
use Rattle.iddqd_by_hash.specs.Hashed.{passes}
use Rattle.iddqd_by_hash.proofs.FindLemmas.{Finds-from_where, LooksUp-found}
use Rattle.iddqd_by_hash.proofs.hashed.find.Goals as goal

pub find_index_prehashed-requires : goal.find_index_prehashed-requires
find_index_prehashed-requires g c = λ ix here. under_all_filed _ _ (IsLive c.args.items.now.store) c.requires ix here

pub returns : goal.returns
returns g c =
    let test = g.Q.Equivalent.equivalent c.args.query.now in
    let key_of = g.E.KeyOf.key_of in
    let s = c.args.items.now.store in
    let passing = passes_by key_of test in
    let result = c.find_index_prehashed.result in
    LooksUp-found key_of s (filed c.args.table.now) c.args.hash test result
    (Finds-from_where s (filed c.args.table.now) c.args.hash passing result
    (FindsWhere-by_key (filed c.args.table.now) c.args.hash _ _ _ _
    (passes s passing) result c.find_index_prehashed.ensures (λ ix key is gives.
    let read : IsKeyAt key_of s ix key.now = search (rules, gives) in
    rw (passes, read.1) (ap test read.2))))
