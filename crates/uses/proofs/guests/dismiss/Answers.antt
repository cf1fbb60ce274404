use Rattle.std.proofs.Common.{rules, ◌≡◌, ◌+◌, ◌≤◌, length, nat_le, vec_len, vec_capacity, refl, arith}
use Rattle.iddqd_maps.specs.LiveItems.{live_items}
use Rattle.iddqd_keyed.proofs.LiveItemLemmas.{length-items_in}
use Rattle.iddqd_maps.proofs.CallerLemmas.{AsksInTurn-to_come, RetainsTo-tested}
use Rattle.uses.specs.declared.guests.Guest.{Guest}
use Rattle.uses.proofs.guests.dismiss.Goals as goal

-- before each call there is room for the items to come
pub retain-requires : goal.retain-requires
retain-requires c = λ _.
    AsksInTurn-to_come _ _ (λ rest s. vec_len s.0.now + length rest ≤ vec_capacity s.0.now)
    (λ x rest s i r same. omega (arith, i))
    (λ x rest s b t i asked.
    let pushed : vec_len t.0.now ≡ vec_len s.0.now + 1 = search rules in
    let same : vec_capacity t.0.now ≡ vec_capacity s.0.now = search rules in
    omega (arith, i, pushed, same))
    (live_items c.args.guests.now.store) _
    (omega (arith, c.requires, length-items_in c.args.guests.now.store.items))

pub returns-clause-stay : goal.returns-clause-stay
returns-clause-stay c =
    let did = c.retain.ensures.retained in
    RetainsTo-tested _ (λ s. s.1.now ≡ c.args.time) (λ (guest : Guest). nat_le c.args.time guest.arrival)
    (λ s x b t i asked. search rules) _ did.last _ _ refl did.retained
