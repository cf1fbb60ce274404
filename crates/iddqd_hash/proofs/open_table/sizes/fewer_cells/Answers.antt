use Rattle.std.proofs.Common.{inl, inr, ◌<◌, ◌≤◌, ◌/◌, arith}
use Rattle.iddqd_hash.specs.OpenTable.{usable_of, IsPowerOfTwo}
use Rattle.iddqd_hash.proofs.SizeLemmas.{half_power, few_halved}
use Rattle.iddqd_hash.proofs.open_table.sizes.fewer_cells.Goals as goal

pub loop-count-preserved : goal.loop-count-preserved
loop-count-preserved c =
    let more : 16 < c.loop-count.count = omega arith in
    let power : IsPowerOfTwo (c.loop-count.count / 2) =
    elim c.loop-count.invariant.0 [ inl none ↦ absurd (omega arith) | inr power ↦ half_power c.loop-count.count power more ] in
    let below : c.loop-count.count ≤ c.args.current =
    elim c.loop-count.invariant.1 [ inl same ↦ omega arith | inr fewer ↦ omega (arith, fewer.fewer) ] in
    let fits : c.args.needed ≤ usable_of (c.loop-count.count / 2) = omega arith in
    (inr power, inr (record { power = power; fits = fits; fewer = omega arith }))

pub returns-else-needed-usable_of-clause-few : goal.returns-else-needed-usable_of-clause-few
returns-else-needed-usable_of-clause-few c =
    elim c.loop-count.invariant.0 [
      | inl none ↦ omega (arith, c.requires.some)
      | inr power ↦ few_halved c.loop-count.count c.args.needed power c.requires.some (λ more. omega arith)
    ]
