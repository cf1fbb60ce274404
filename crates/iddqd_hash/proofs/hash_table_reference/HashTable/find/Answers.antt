use Rattle.std.proofs.Common.{◌≡◌, ◌∙◌, Some, sym, ap, refl}
use Rattle.std.specs.Option.{unwrap_or}
use Rattle.std.specs.Fn.{TakesAt, CalledAt}
use Rattle.iddqd_hash.specs.HashTable.{value_of}
use Rattle.iddqd_hash.proofs.AskLemmas.{CanAsk-takes, CanAsk-asked}
use Rattle.iddqd_hash.proofs.hash_table_reference.HashTable.find.Goals as goal

pub place_of-requires-clause-each : goal.place_of-requires-clause-each
place_of-requires-clause-each g c = λ x here. CanAsk-takes (TakesAt g.F.FnMut) (CalledAt g.F.FnMut) _ _ x c.requires here

pub place_of-requires-clause-again : goal.place_of-requires-clause-again
place_of-requires-clause-again g c = λ x b f here called.
    CanAsk-asked (TakesAt g.F.FnMut) (CalledAt g.F.FnMut) _ _ x b f c.requires here called

pub pair_at-requires : goal.pair_at-requires
pair_at-requires g c = rw c.in_ok-place.ensures.is_pair refl

pub returns : goal.returns
returns g c =
    let hit = c.in_ok-place.ensures in
    let both : Some (c.args.hash, hit.value) ≡ Some (c.pair_at.result.0, c.pair_at.result.1.now) =
    sym hit.is_pair ∙ c.pair_at.ensures in
    let same : hit.value ≡ c.pair_at.result.1.now = ap (λ o. unwrap_or (value_of o) hit.value) both in
    rw (← same) hit.hit
