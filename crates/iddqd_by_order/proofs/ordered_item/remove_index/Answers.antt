use Rattle.std.proofs.Common.{◌≡◌, rules, refl}
use Rattle.iddqd_order.specs.Asking.{closure_of}
use Rattle.iddqd_order.proofs.AskLemmas.{CanAsk-by}
use Rattle.iddqd_keys.specs.Scan.{IsLive}
use Rattle.iddqd_by_order.proofs.ordered_item.remove_index.Goals as goal

pub prepare_remove_by-requires : goal.prepare_remove_by-requires
prepare_remove_by-requires g c =
    CanAsk-by _ _ (λ f. f ≡ closure_of c.new-asking.result) (λ f f' ix r i h e. search rules)
    (λ f ix i h.
    let live : IsLive c.args.items.now.store ix = c.requires.all_live ix h.0 in
    search rules)
    _ refl
