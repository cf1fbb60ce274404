use Rattle.std.proofs.Common.{rules, ◌==◌, ◌<◌, ℕ, length, slice_index}
use Rattle.iddqd_hash.specs.MapHashTable.{filed}
use Rattle.iddqd_hash.proofs.FiledLemmas.{under_all_filed, FindsWhere-by_key}
use Rattle.table_uses.proofs.indexes.find_number.Goals as goal

pub find_index-requires : goal.find_index-requires
find_index-requires g c = λ ix here.
    let inside : ix < length c.args.keys.now = under_all_filed _ _ (λ x. x < length c.args.keys.now) c.requires ix here in
    search rules

pub returns : goal.returns
returns g c =
    let test = λ (ix : ℕ). c.args.number == slice_index c.args.keys.now ix in
    FindsWhere-by_key (filed c.args.table.now) _ _ _ _ _ test _ c.find_index.ensures (λ ix key is gives. search rules)
