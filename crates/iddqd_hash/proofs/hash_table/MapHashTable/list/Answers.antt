use Rattle.std.proofs.Common.{◌≡◌, ◌∙◌, length, sym, arith}
use Rattle.std.proofs.lemmas.Grind.{common_steps}
use Rattle.std.proofs.lemmas.List.{length-map}
use Rattle.std.proofs.lemmas.List.Sorted.{length_permutation}
use Rattle.std.specs.FinMap as finite
use Rattle.iddqd_hash.specs.MapHashTable.{filed, indexes_of}
use Rattle.iddqd_hash.proofs.hash_table.MapHashTable.list.Goals as goal

pub loop-ix-init : goal.loop-ix-init
loop-ix-init c =
    let many : length (indexes_of (filed c.args.self.now)) ≡ finite.len (filed c.args.self.now) =
    length-map (finite.entries (filed c.args.self.now)) (λ e. e.0) ∙ sym (finite.len-entries (filed c.args.self.now)) in
    let each : length (indexes_of (filed c.args.self.now)) ≡ length c.into_iter-ix-iterator.result =
    rw c.into_iter-ix-iterator.ensures.into_iter_gives (sym (length_permutation _ _ c.indexes-ix-items.ensures)) in
    record { all = grind (arith, common_steps); room = omega (arith, many, each, c.len.ensures, c.in_ok-list.ensures.capacity) }

pub returns : goal.returns
returns c = grind (arith, common_steps)

pub loop-ix-preserved : goal.loop-ix-preserved
loop-ix-preserved c = record { all = grind (arith, common_steps); room = omega arith }
