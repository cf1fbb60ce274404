use Rattle.std.proofs.Common.{◌≡◌, ◌↔◌, false, subst}
use Rattle.iddqd_maps.specs.Scan.{HasNoHit}
use Rattle.uses.specs.Ledger.{is_due_on}
use Rattle.uses.proofs.orders.is_due.Goals as goal

pub returns : goal.returns
returns c =
    subst (λ s. (c.contains_key.result ≡ false) ↔ HasNoHit s (is_due_on c.args.day)) c.parts.ensures
    c.contains_key.ensures
