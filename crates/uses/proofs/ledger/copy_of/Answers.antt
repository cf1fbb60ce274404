use Rattle.std.proofs.Common.{◌≡◌, refl}
use Rattle.std.specs.Prelude.{Ok, Err, IfOk}
use Rattle.iddqd_maps.proofs.CallerLemmas.{copied_same}
use Rattle.uses.proofs.ledger.copy_of.Goals as goal

pub returns : goal.returns
returns c =
    let s = c.args.ledger.now.store in
    let result = c.clone.result in
    elim result as (λ r. result ≡ r → IfOk r (λ copy. copy.store ≡ s)) [
      | Ok copy ↦ λ is. let did = rw is at c.clone.ensures.cases in copied_same _ (λ x y same. same) _ _ did.store
      | Err refused ↦ λ is. tt
    ] refl
