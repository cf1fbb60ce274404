use Rattle.std.proofs.Common.{nat_eq, length, ap, arith}
use Rattle.std.proofs.lemmas.List.Filters.{dedup_is}
use Rattle.iddqd.proofs.SoundIndexLemmas.{all_unique}
use Rattle.iddqd.proofs.ValidationLemmas.{Validates-unsound}
use Rattle.iddqd.proofs.internal.indexes.check_distinct.Goals as goal

pub returns-then-found-len : goal.returns-then-found-len
returns-then-found-len c =
    let sorted = c.args.sorted.items in
    let unique = ap length (dedup_is nat_eq sorted _ c.dedup.ensures.filtered) in
    (all_unique sorted c.requires).0 (omega (arith, unique))

pub returns : goal.returns
returns c =
    let sorted = c.args.sorted.items in
    let unique = ap length (dedup_is nat_eq sorted _ c.dedup.ensures.filtered) in
    Validates-unsound _ c.refusal.result (λ apart. let all = (all_unique sorted c.requires).1 apart in absurd (omega (arith, unique, all)))
