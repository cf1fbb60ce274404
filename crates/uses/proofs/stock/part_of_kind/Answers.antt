use Rattle.std.proofs.Common.{◌≡◌, ℕ, nat_eq, Option, Some, None, sym}
use Rattle.std.specs.Option.{IfSome}
use Rattle.std.proofs.lemmas.Bool.{eqb-true}
use Rattle.iddqd_maps.specs.Store.{Store}
use Rattle.iddqd_maps.specs.Map.{FindsItem}
use Rattle.iddqd_maps.proofs.CallerLemmas.{found_passes}
use Rattle.uses.specs.declared.stock.Part.{Part}
use Rattle.uses.proofs.stock.part_of_kind.Goals as goal

of_kind :
    (s : Store Part) (kind : ℕ) (found : Option Part)
    → FindsItem s (λ part. nat_eq kind part.kind) found
    → IfSome found (λ part. part.kind ≡ kind)
of_kind s kind None finds = tt
of_kind s kind (Some part) finds = sym (eqb-true _ _ (found_passes s (λ p. nat_eq kind p.kind) part finds))

pub returns-clause-kind : goal.returns-clause-kind
returns-clause-kind c = rw c.copied.ensures (of_kind c.args.stock.now.store c.args.kind _ c.get.ensures)
