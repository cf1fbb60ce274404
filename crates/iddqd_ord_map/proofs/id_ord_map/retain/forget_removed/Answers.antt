use Rattle.std.proofs.Common.{rules, ◌≡◌, is_some, refl}
use Rattle.iddqd.specs.Store.{get}
use Rattle.iddqd_by_order.proofs.OrderedRetainLemmas.{Retains-test}
use Rattle.iddqd_ord_map.proofs.id_ord_map.retain.forget_removed.Goals as goal

pub returns-clause-forgot : goal.returns-clause-forgot
returns-clause-forgot g c =
    let s = c.args.items.now.store in
    Retains-test _ (λ f. f.0.now.store ≡ s) (λ ix. is_some (get s ix)) (λ f f' ix b i called. (search rules, search rules)) _ _ _ refl c.retain.ensures.kept
