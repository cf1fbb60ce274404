use Rattle.std.proofs.Common.{rules, ◌∷◌, inl, inr, refl}
use Rattle.std.specs.List.Sorted.{IsPermutation}
use Rattle.std.specs.Result.{IsErr}
use Rattle.std.proofs.lemmas.List.Sorted.{IsPermutation-cons, IsPermutation-trans}
use Rattle.iddqd_hash.specs.HashTable.{entries}
use Rattle.iddqd_hash.specs.TableEntry.{entry_table}
use Rattle.iddqd_c.specs.Numbers.{TakesCells}
use Rattle.iddqd_c.proofs.FilingLemmas.{TakesCells-made, no_room}
use Rattle.iddqd_c.proofs.numbers.file.Goals as goal

pub returns-then-is_err : goal.returns-then-is_err
returns-then-is_err c =
    let failed : IsErr c.try_reserve.result = search rules in
    inr (refl, no_room _ _ c.try_reserve.result c.try_reserve.ensures.memory failed, search rules)

pub returns : goal.returns
returns c =
    let stayed = IsPermutation-cons (c.args.hash, c.args.number) _ _ c.try_reserve.ensures.contents in
    let filed : IsPermutation ((c.args.hash, c.args.number) ∷ entries c.args.table.now)
    (entries (entry_table c.insert_unique.result)) =
    IsPermutation-trans _ _ _ stayed c.insert_unique.ensures.added in
    let took : TakesCells c.args.table.now (entry_table c.insert_unique.result) =
    TakesCells-made _ _ _ c.try_reserve.result c.try_reserve.ensures.contents c.try_reserve.ensures.memory
    c.insert_unique.ensures.memory in
    inl (refl, search (rules, filed), search (rules, took))
