use Rattle.std.proofs.Common.{◌≡◌, refl}
use Rattle.std.specs.Prelude.{Ok, Err, IfOk, IfErr}
use Rattle.uses.specs.Intake.{AddsAll, AddsUntil}
use Rattle.uses.proofs.IntakeLemmas.{added_until, all_added}
use Rattle.uses.proofs.orders.add_all.Goals as goal

pub returns-clause-all : goal.returns-clause-all
returns-clause-all g c =
    let gives = g.I.Iterator.next_gives in
    let it = c.args.orders in
    let old = c.args.intake.now.store in
    let new = c.insert_all.new.self.store in
    let result = c.insert_all.result in
    elim result as (λ r. result ≡ r → IfOk r (λ count. AddsAll gives it old count new)) [
      | Ok count ↦ λ is.
          let (rest, did) = rw is at c.insert_all.ensures.inserts in
          all_added _ _ _ _ _ _ _ _ _ count rest did
      | Err stopped ↦ λ is. tt
    ] refl

pub returns-clause-refused : goal.returns-clause-refused
returns-clause-refused g c =
    let gives = g.I.Iterator.next_gives in
    let it = c.args.orders in
    let old = c.args.intake.now.store in
    let new = c.insert_all.new.self.store in
    let result = c.insert_all.result in
    elim result as (λ r. result ≡ r → IfErr r (λ stopped. AddsUntil gives it old stopped new)) [
      | Ok count ↦ λ is. tt
      | Err stopped ↦ λ is.
          let did = rw is at c.insert_all.ensures.inserts in
          added_until _ _ _ _ _ _ _ _ _ stopped did
    ] refl
