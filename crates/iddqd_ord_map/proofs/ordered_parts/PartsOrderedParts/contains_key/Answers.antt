use Rattle.std.proofs.Common.{◌≡◌, ◌↔◌, Bool, false, is_some, sym, subst}
use Rattle.iddqd.specs.Store.{Store}
use Rattle.iddqd_keys.specs.OrderedQuery.{is_equal}
use Rattle.iddqd_keys.specs.Scan.{HasNoHit}
use Rattle.iddqd_keys.proofs.KeyWalkLemmas.{between_equal}
use Rattle.iddqd_ord_map.proofs.InOrderLemmas.{first_misses}
use Rattle.iddqd_ord_map.proofs.ordered_parts.PartsOrderedParts.contains_key.Goals as goal

pub returns : goal.returns
returns g c =
    let comparing = g.X.OrderedAt.compare c.args.query in
    let s = c.self.inside.items.now.store in
    let found = c.first_between.result in
    let misses = first_misses g.X.OrderedAt.order s _ found (rw c.only.ensures at c.first_between.ensures.first) in
    let equal = subst (λ test. (is_some found ≡ false) ↔ HasNoHit s test) (between_equal comparing) misses in
    let answer = subst (λ (b : Bool). (b ≡ false) ↔ HasNoHit s (is_equal comparing)) (sym c.is_some.ensures) equal in
    subst (λ (t : Store _). (c.is_some.result ≡ false) ↔ HasNoHit t (is_equal comparing)) c.self.view_is answer
