use Rattle.std.proofs.Common.{◌∙◌, ◌-◌, ◌^◌, ap, arith}
use Rattle.std.proofs.lemmas.Nat.{one_shl}
use Rattle.iddqd_hash.proofs.SizeLemmas.{few_halved}
use Rattle.iddqd_hash.proofs.open_table.tags.count_for.Goals as goal

pub returns-then-needed-usable_of-clause-power : goal.returns-then-needed-usable_of-clause-power
returns-then-needed-usable_of-clause-power c =
    (c.loop-exponent.exponent - 4, one_shl c.loop-exponent.exponent 64 (omega arith) ∙ ap (λ n. 2 ^ n) (omega arith))

pub returns-then-needed-usable_of-clause-few : goal.returns-then-needed-usable_of-clause-few
returns-then-needed-usable_of-clause-few c =
    let is = one_shl c.loop-exponent.exponent 64 (omega arith) in
    rw is (few_halved (2 ^ c.loop-exponent.exponent) c.args.needed (c.loop-exponent.exponent - 4, ap (λ n. 2 ^ n) (omega arith)) c.requires c.loop-exponent.invariant)
